pub mod Answers
pub mod SetWords
