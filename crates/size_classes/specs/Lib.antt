pub mod SlotSizes
pub mod Class
pub mod Slots
