pub mod Wants
pub mod Making
pub mod Doing
pub mod Promised
