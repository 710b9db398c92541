pub mod Turns
pub mod Talks
pub mod Ends
pub mod Holding
pub mod Serving
pub mod Records
pub mod Engines
