pub mod Written
pub mod Counts
pub mod GenLaws
mod FirstPlaces
mod LastNumbers
mod Lasts
mod Growing
mod Operands
mod Slots
mod Maps
