pub mod FromLaws
pub mod HalfLaws
pub mod PlaceLaws
pub mod RoomLaws
