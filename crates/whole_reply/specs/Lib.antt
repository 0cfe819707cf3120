pub mod WholeReply
