pub mod Table
pub mod Halving
pub mod Requests
