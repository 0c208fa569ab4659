pub mod LineLaws
pub mod WholeLaws
pub mod ChannelLaws
