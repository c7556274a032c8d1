-- What contracts cite.
pub mod Hashed
