pub mod Info
pub mod Lines
pub mod Made
pub mod Make
pub mod Summary
