pub mod Farms
pub mod Faults
pub mod Inside
pub mod Lists
