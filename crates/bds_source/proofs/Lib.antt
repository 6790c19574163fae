mod Extending
mod TopLevel
mod Walks
