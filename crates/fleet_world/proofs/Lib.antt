pub mod CutBytes
pub mod NodeLists
pub mod Systems
pub mod KeptNames
pub mod ListedCalls
pub mod FleetCalls
pub mod Lookups
pub mod Found
pub mod QuietSteps
pub mod NewsReports
pub mod WorldCalls
pub mod Leading
pub mod Ordering
pub mod Closings
pub mod Contexts
mod NodeFaults
pub mod Restarting
mod PlanLines
