pub mod CountLaws
pub mod FrameLaws
pub mod HalfLaws
pub mod IntoLaws
