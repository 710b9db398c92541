pub mod Kinds
pub mod Rest
