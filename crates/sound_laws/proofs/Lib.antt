pub mod FreshSound
pub mod SoundFilled
pub mod SoundTested
pub mod UnusedCells
