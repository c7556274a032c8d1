pub mod Writes
pub mod SignedSums
pub mod Bytes
pub mod CodedTexts
pub mod Filled
pub mod ShortestArcs
pub mod StrictTexts
mod Sorted
