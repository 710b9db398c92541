pub mod Walk
pub mod Reports
pub mod Listed
pub mod inside
