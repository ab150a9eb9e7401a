pub mod Cut
pub mod Number
pub mod Tokens
pub mod Frame
pub mod Line
