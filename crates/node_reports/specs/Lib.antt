pub mod Nodes
pub mod Calls
pub mod Frames
pub mod Reporting
pub mod ParamLists
