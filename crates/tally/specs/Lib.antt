pub mod Tallies
pub mod Words
pub mod RowsSeen
pub mod Ruling
