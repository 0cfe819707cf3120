pub mod CappedNumbers
pub mod Numbers
