pub mod ClientRanges
pub mod IdIndex
pub mod Ids
pub mod ListLaws
pub mod ParamRanges
pub mod Shapes
pub mod ValueLists
pub mod Waiting
