pub mod Begun
pub mod Granting
pub mod Classes
pub mod inside
