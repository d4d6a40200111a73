pub mod DroneCalls
pub mod Gathered
pub mod ResultLists
pub mod StationCalls
pub mod SyncedLists
pub mod Unkept
