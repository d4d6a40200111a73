mod PlanPayloads
mod Tables
mod Cores
mod SendsAll
mod ServiceSteps
pub mod StoreCalls
mod Changes
mod Ends
mod Starting
mod Keeping
mod Missions
mod Flown
mod Leads
mod Growing
mod Parts
mod GivenUp
mod Datagrams
pub mod Bounds
pub mod Sendings
