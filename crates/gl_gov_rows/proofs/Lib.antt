mod Ballots
mod Actions
mod NodesByNumber
mod Spelled
mod RowKinds
mod Gathered
