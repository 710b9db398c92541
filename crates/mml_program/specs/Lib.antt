pub mod Answering
pub mod Faults
pub mod Printing
pub mod Serving
