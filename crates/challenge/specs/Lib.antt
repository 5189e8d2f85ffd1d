pub mod Verdicts
pub mod Claimed
pub mod Visits
