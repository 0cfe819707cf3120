pub mod LowestRow
pub mod Showing
pub mod Searching
pub mod Telling
pub mod Fronts
pub mod Entry
pub mod Laws
pub mod Examples
