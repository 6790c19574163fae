pub mod Events
pub mod Goals
pub mod Histories
pub mod Jobs
pub mod Living
