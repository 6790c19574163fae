pub mod Marked
pub mod Numbered
pub mod Pass
pub mod Threads
pub mod Verified
pub mod Whole
