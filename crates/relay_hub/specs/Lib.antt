pub mod Hubs
pub mod MemHubs
pub mod Seats
pub mod MemRooms
