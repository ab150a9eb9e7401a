pub mod Seen
pub mod Marked
pub mod Tasks
pub mod Counted
