pub mod PlaceLists
