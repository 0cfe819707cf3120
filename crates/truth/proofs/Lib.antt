pub mod LowRows
pub mod TruthLaws
pub mod RuleLaws
pub mod FreeVariables
pub mod Agreement
