pub mod FirstBroken
pub mod TypedAs
