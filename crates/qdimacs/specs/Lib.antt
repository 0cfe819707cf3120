pub mod Lines
pub mod Text
pub mod TurnsInWords
pub mod Walk
