-- How a file is checked, and how its lab is made. No contract of a public function cites these definitions.
pub mod Raw
pub mod Checks
pub mod ChecksView
