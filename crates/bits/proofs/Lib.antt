pub mod RotationLaws
pub mod DepositLaws
