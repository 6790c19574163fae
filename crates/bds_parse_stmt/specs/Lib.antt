pub mod Parts
pub mod Script
