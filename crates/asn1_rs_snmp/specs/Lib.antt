-- What contracts cite.
pub mod Messages
pub mod Pdus
