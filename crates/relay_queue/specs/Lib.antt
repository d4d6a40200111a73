pub mod Deliveries
pub mod Queues
