pub mod Code
pub mod Program
pub mod Spans
