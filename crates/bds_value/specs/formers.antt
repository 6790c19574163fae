pub mod boxed
pub mod listed
pub mod rising
pub mod shared
