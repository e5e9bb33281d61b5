pub mod Entries
pub mod Handlers
pub mod Plans
pub mod Calls
