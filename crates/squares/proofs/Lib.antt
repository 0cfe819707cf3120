pub mod Tabulating
pub mod Picking
pub mod Shifts
pub mod Mixing
pub mod Masks
pub mod Whole
