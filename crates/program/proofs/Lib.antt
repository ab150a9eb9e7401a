pub mod Chunks
pub mod Tables
