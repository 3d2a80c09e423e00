pub mod LentLaws
pub mod AllocationTests
pub mod FreeTests
