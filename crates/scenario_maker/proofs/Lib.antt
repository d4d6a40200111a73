mod RoundTexts
mod Weights
mod StationReplies
mod DroneReplies
mod Turns
mod Goings
mod Givings
mod NumberWords
mod ReadLines
mod Playing
pub mod Generated
