pub mod Moves
pub mod Sim
pub mod Laws
