pub mod Ring
pub mod Progress
pub mod Passes
pub mod Reads
