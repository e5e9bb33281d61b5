pub mod Saves
pub mod Bytes
pub mod Scan
