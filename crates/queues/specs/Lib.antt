pub mod Marks
pub mod Queues
