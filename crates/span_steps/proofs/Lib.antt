pub mod PushingLaws
