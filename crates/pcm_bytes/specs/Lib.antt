pub mod Pcm
