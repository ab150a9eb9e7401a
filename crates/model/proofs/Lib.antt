pub mod Notes
pub mod Undone
pub mod Facts
pub mod Shifting
pub mod Holding
pub mod Kept
pub mod Faults
