pub mod Structs
pub mod Contract
pub mod DeviceFiles
