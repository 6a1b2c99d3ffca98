-- The copy into a second heap (request U14).
pub mod Laying
pub mod Turns
pub mod Placing
pub mod Image
pub mod AllLed
pub mod Copied
pub mod Accepted
pub mod OneShape
pub mod Refused
pub mod Unread
pub mod Statements
