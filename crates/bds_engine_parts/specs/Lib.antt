pub mod Image
pub mod Look
pub mod Run
pub mod Saving
pub mod Seen
