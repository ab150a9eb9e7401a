mod Sizes
pub mod Lookups
pub mod Loops
pub mod Steps
pub mod CallsKeep
pub mod Tables
pub mod Fresh
pub mod Holding
