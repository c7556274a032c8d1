pub mod Appended
pub mod LineLaws
pub mod Moved
pub mod OneOutput
