pub mod PrimaryLaws
