pub mod WholeSecrecy
