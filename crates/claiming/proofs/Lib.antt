pub mod BitsListed
pub mod ClaimedEntries
pub mod ClaimingLaws
