pub mod Turns
pub mod Delivery
pub mod Layings
pub mod Places
