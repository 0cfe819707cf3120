pub mod Templates
pub mod Arrays
pub mod Netlist
pub mod Outputs
