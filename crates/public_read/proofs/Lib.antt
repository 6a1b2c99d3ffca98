pub mod CheckReply
