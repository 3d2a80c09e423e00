pub mod SlotSizeLaws
pub mod RaisedLaws
pub mod ClassLaws
pub mod ClassTheorems
pub mod SlotTheorems
pub mod Reciprocal
