pub mod Ends
pub mod Farm
pub mod Farming
pub mod Inside
