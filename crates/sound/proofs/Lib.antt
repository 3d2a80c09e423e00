pub mod Worked
pub mod SoundLists
pub mod StateTests
pub mod StatesLaws
