pub mod Lengths
pub mod Listing
