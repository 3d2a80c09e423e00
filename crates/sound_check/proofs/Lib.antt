pub mod AppendLaws
pub mod ClassJoined
pub mod RowsJoined
pub mod RowTurns
pub mod SoundParts
pub mod BaseTurns
