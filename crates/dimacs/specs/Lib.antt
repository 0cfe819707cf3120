pub mod Text
pub mod Body
pub mod ThreeTexts
