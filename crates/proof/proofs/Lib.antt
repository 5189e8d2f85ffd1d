pub mod Chain
mod Listing
mod Parts
