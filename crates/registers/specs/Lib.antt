pub mod Cards
pub mod Rows
pub mod Kinds
pub mod PowersOfTwo
pub mod Values
pub mod File
pub mod Access
