-- Laws of names and of their parts.
pub mod Attribute
pub mod Name
pub mod Reading
pub mod RelativeName
pub mod RelativeNameReading
pub mod RelativeNameWriting
pub mod Writing
