pub mod Decimal
pub mod Texts
pub mod Appending
pub mod Refused
