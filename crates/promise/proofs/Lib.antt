-- answers
mod Outcomes
-- the simulation: a wallet follows a register, or the block is caught
mod Adding
mod Stages
mod Carrying
mod Spending
mod Refreshing
mod Shelves
mod Visiting
mod Caught
mod Taking
mod Watching
mod Steps
-- runs
mod Runs
pub mod Agreement
-- blocks as bytes
mod Composed
mod Octets
-- what a bridge serves
pub mod Undone
mod Built
mod Words
mod Naming
mod Writing
mod Cards
mod Served
mod Hypotheses
-- the whole promise
pub mod Promise
