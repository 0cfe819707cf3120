pub mod ThreeTexts
