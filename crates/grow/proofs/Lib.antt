pub mod Places
pub mod Rising
pub mod Carrying
pub mod Joining
