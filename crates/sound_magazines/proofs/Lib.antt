pub mod EntryTests
