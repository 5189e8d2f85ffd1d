pub mod Chunks
mod Lists
pub mod Folded
mod Walk
mod Merged
pub mod Covers
pub mod Full
pub mod Wanted
mod Picked
pub mod Claimed
mod Steps
mod Rowwise
mod Going
mod Merging
mod Standing
mod Lacking
pub mod Lookups
pub mod Filled
