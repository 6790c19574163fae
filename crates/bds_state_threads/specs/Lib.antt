pub mod Fields
pub mod Judged
pub mod Made
pub mod Numbers
