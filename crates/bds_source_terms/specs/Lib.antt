pub mod Manners
pub mod View
