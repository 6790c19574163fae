pub mod Indexes
pub mod PieceKinds
pub mod Rows
pub mod Scopes
pub mod Slots
pub mod Types
