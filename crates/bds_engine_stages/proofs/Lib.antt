pub mod Ending
pub mod Joining
pub mod PointSteps
pub mod Rows
pub mod Stops
pub mod Waking
