pub mod Links
pub mod Made
pub mod Told
