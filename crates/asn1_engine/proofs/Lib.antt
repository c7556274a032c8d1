mod Utf8Lengths
mod Shown
pub mod Told
mod Gained
mod Utf8Texts
mod Utf8Values
mod FirstLines
mod Boundaries
mod Enclosed
mod Blocks
mod OneLine
