pub mod Choices
pub mod MessageRanges
pub mod ReadingRanges
pub mod DroneRanges
pub mod StationRanges
