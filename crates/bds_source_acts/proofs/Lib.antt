mod CommandLists
mod Settling
