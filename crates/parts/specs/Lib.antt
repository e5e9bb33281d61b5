pub mod Step
pub mod Load
pub mod Save
pub mod RoundTrip
