pub mod ReadLaws
pub mod ChannelLaws
pub mod MagicLaws
