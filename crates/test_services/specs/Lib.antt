pub mod Commands
pub mod Params
pub mod Flights
