pub mod Soundness
pub mod Growth
pub mod Confluence
pub mod RowPass
pub mod Passes
pub mod BothSigns
