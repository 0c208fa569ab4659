pub mod NextCueLaws
