pub mod Proofs
pub mod Text
pub mod Places
pub mod Progress
pub mod Checking
