pub mod Groups
pub mod KindNumbers
pub mod LastItems
pub mod PlanFaults
pub mod Rows
pub mod SmallWords
pub mod Tables
