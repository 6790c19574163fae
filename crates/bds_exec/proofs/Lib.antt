pub mod Answered
pub mod Consuming
pub mod Failures
pub mod FirstLines
pub mod LastRun
pub mod Lines
