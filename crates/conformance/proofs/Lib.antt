pub mod Lists
pub mod Digits
pub mod Values
pub mod Tails
pub mod Pass
pub mod Laws
pub mod Steps
