pub mod Departing
pub mod Orders
pub mod Requiring
pub mod Rows
