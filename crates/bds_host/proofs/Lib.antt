pub mod Growing
pub mod LastPair
