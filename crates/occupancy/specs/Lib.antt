pub mod Occupied
pub mod Right
