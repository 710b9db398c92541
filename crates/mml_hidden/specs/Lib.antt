pub mod CommandReplies
pub mod Twins
pub mod Scripted
pub mod Sight
pub mod Mishaps
pub mod Sessions
pub mod Coalitions
