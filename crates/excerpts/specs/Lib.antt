pub mod Excerpts
pub mod PlaceByWords
