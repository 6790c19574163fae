pub mod Asks
pub mod Auto
pub mod Host
pub mod Message
pub mod Replying
