pub mod Views
pub mod SetNames
pub mod WordSettings
pub mod Answers
