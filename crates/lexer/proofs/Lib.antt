pub mod Runs
pub mod Trims
pub mod Cuts
pub mod Blanks
pub mod Tokens
pub mod Kept
