pub mod Cuts
pub mod Items
pub mod Readings
pub mod Carrying
