pub mod Alone
pub mod Asked
pub mod Declaration
pub mod Ranges
pub mod Understood
