mod Answers
pub mod Calls
