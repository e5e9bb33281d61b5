pub mod Steps
pub mod Loading
pub mod Saving
pub mod RoundTrip
pub mod Soundness
