pub mod Index
pub mod RowWords
