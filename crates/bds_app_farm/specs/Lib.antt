pub mod Farmed
pub mod Told
