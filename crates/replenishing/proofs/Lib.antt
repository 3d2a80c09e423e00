pub mod ReplenishingLaws
