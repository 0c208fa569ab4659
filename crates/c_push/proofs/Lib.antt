pub mod PushedLaws
