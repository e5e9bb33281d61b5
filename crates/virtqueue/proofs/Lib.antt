pub mod CardReads
pub mod Chains
pub mod Checks
pub mod Laws
pub mod Numbers
pub mod Offering
pub mod Passing
pub mod Results
