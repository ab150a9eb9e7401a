pub mod Numerals
pub mod Frames
pub mod Lines
pub mod Lexing
pub mod Pieces
