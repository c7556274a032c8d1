pub mod Engine
pub mod Lines
pub mod Outputs
