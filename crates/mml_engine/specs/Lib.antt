pub mod Asking
pub mod Named
pub mod Told
pub mod Turns
