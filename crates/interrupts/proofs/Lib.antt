pub mod Indices
pub mod Names
pub mod Joins
pub mod Soundness
pub mod Runs
pub mod Requests
pub mod Examples
