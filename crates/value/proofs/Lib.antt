pub mod HexReading
pub mod Writing
