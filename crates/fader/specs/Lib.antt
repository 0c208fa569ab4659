pub mod Fader
pub mod FaderLaws
