-- Laws of sequences: walks over their items.
pub mod Iterator
pub mod IndefiniteContents
