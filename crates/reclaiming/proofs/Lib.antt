pub mod ReclaimingLaws
