pub mod Drones
pub mod Stations
pub mod Items
pub mod StoredBytes
