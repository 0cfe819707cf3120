pub mod Replacement
