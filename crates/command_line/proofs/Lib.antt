pub mod Sorts
pub mod Numerals
pub mod PortWords
pub mod Agreement
pub mod OperationWords
pub mod NodeWords
pub mod FormsAgree
pub mod Readings
mod Wholes
mod OneNumber
mod WireWords
mod NodesHeld
mod Taken
mod PortLists
mod TwoWords
