pub mod Attribute
pub mod Laws
pub mod Name
pub mod RelativeName
