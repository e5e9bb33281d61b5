pub mod Entries
pub mod Handlers
