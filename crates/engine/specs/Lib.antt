pub mod Layout
pub mod Lookup
pub mod Orders
pub mod Restoring
pub mod World
pub mod Operations
pub mod Calls
pub mod Turns
