pub mod Law
pub mod Stand
pub mod steps
