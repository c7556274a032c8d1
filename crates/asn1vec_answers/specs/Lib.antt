pub mod Names
pub mod Shown
pub mod Request
pub mod Answer
pub mod Meaning
pub mod Memory
pub mod Types
