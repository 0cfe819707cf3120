pub mod Fill
pub mod Remarks
pub mod Texts
pub mod ThreeTexts
pub mod Accepted
pub mod Endings
pub mod Examples
