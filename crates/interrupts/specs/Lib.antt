pub mod Lines
pub mod Requests
pub mod Examples
