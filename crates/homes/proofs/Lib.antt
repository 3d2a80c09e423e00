pub mod FitsLaws
pub mod SoundWhole
pub mod HomesFrame
pub mod HomesMoved
pub mod HomesPlaced
