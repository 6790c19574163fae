pub mod Tops
pub mod FunctionParts
pub mod Begun
pub mod Generated
