pub mod Fronting
pub mod Many
pub mod SignLaws
pub mod TypeLaws
pub mod PlaceLaws
pub mod HeadLaws
pub mod SmallLaws
pub mod ActLaws
