pub mod Leads
pub mod Mistakes
pub mod Modules
pub mod Tokens
