pub mod Any
pub mod Tables
pub mod Made
pub mod Changes
pub mod Counting
pub mod Flags
