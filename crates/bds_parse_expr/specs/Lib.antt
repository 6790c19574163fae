pub mod Longest
pub mod Spells
pub mod Reading
pub mod Gives
