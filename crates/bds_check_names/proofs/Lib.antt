pub mod Indexed
pub mod LastPlaces
pub mod Places
