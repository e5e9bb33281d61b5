pub mod Layout
pub mod Read
pub mod Write
pub mod Types
pub mod Scan
pub mod RoundTrips
pub mod Examples
