-- How a board stores its world. No contract of a public function cites these definitions.
pub mod Rows
pub mod Kept
pub mod Monitor
