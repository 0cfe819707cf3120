pub mod TrialBytes
