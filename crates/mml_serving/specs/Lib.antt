pub mod Arriving
pub mod Closings
pub mod Endings
pub mod Numbers
pub mod Serving
