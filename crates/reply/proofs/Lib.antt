pub mod Accepted
pub mod Printed
pub mod Examples
pub mod Early
