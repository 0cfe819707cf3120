pub mod Judging
pub mod Applying
pub mod RepeatChecks
pub mod Buffers
pub mod Repeating
pub mod Marks
