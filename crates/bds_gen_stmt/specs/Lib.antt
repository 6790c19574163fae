pub mod Spots
pub mod PlaceCode
pub mod TaskCode
pub mod StmtCode
pub mod FunctionCode
pub mod UnitCode
pub mod Sizes
pub mod Laws
