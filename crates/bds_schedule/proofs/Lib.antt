pub mod Cancelling
pub mod Earlier
pub mod OneNext
