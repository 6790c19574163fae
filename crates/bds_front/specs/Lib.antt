pub mod Joining
pub mod Loading
pub mod OneFile
pub mod Unique
