-- Sequences: walks over their items, and a type of the library's own.
pub mod Iterator
pub mod SequenceOf
