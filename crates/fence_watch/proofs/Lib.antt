pub mod Integers
pub mod Meeting
pub mod Crossing
pub mod OneLine
pub mod Exact
pub mod Grouping
pub mod Tests
pub mod Flying
