pub mod Model
pub mod Moves
pub mod Inv
pub mod Parts
pub mod Laws
