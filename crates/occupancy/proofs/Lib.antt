pub mod RoomLaws
pub mod WindowLaws
pub mod FreshLaws
pub mod RightLaws
pub mod ReleaseLaws
pub mod ClaimLaws
