-- How a script ends, and how a hall stores its state. No contract of a public function cites these definitions.
pub mod Ending
pub mod HallView
