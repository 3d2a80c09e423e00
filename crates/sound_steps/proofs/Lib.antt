pub mod ReclaimSteps
pub mod ReplenishSteps
pub mod ClaimSteps
pub mod RefillSteps
pub mod FlushSteps
pub mod UsedSteps
pub mod DrySteps
pub mod RefillEnds
