pub mod LookUps
pub mod Holds
pub mod Reading
pub mod Fields
pub mod Shown
pub mod Compact
