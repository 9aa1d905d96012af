mod Voting
mod Applied
