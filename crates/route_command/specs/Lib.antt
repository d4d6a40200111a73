pub mod Texts
pub mod Routes
pub mod Promises
pub mod Routing
