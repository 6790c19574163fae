pub mod FormattedAgain
pub mod Formatting
