pub mod Runs
pub mod Straight
