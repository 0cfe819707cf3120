pub mod Replacement
pub mod OldRow
