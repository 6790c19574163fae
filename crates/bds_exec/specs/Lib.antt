pub mod FirstLine
pub mod Paths
pub mod Replies
pub mod Serving
pub mod System
pub mod Turns
pub mod Untold
