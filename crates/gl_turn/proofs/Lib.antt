pub mod Callers
mod Trails
mod Seats
mod Draws
mod Looks
mod Counts
mod Passes
mod Ends
mod Turning
