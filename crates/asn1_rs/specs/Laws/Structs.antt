-- Laws of structs: of their fields, of rows of these, of the structs, and of what is written of them.
pub mod Fields
pub mod Numbers
pub mod Rows
pub mod Puts
pub mod Writing
pub mod Structs
pub mod Readers
pub mod Defaults
pub mod Members
pub mod AnyTag
