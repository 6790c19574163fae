pub mod Called
pub mod Uniform
pub mod Lasting
pub mod Valid
pub mod schedule
pub mod Reading
pub mod ValidRows
