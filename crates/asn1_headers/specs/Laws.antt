-- Laws of what is read and written.
pub mod Message
pub mod Writing
pub mod Prepending
