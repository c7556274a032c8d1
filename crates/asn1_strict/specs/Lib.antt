pub mod Departures
pub mod Requirements
pub mod Sets
pub mod Strict
pub mod Universal
