pub mod Sessions
pub mod Edges
