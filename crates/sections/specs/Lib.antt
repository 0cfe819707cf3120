pub mod Cells
pub mod Addressing
pub mod Sections
