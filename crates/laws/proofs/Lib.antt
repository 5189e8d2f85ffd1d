-- lists and numbers
pub mod Logic
pub mod Order
pub mod Members
pub mod Ordered
pub mod Ranges
pub mod Place
pub mod Places
-- bytes, causes, tests of equality and slots, as the definitions have them
pub mod Packing
pub mod Causes
pub mod Reading
pub mod Same
pub mod Slots
-- the theory's definitions
pub mod Tree
pub mod Value
pub mod Claim
pub mod Forest
-- the theory
pub mod Where
pub mod After
pub mod Append
mod Evidence
mod Matching
mod Covers
mod Right
mod Path
pub mod Tops
pub mod Block
-- the link between the definitions and the theory
pub mod Strikes
pub mod Positions
pub mod Claiming
pub mod Live
pub mod Own
mod Beneath
pub mod Needed
pub mod Fits
pub mod Genuine
pub mod Lone
pub mod Count
-- the laws
pub mod Laws
