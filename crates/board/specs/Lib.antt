pub mod Boards
pub mod Loops
pub mod Laying
