pub mod Formats
pub mod FormattedAgain
