pub mod FramePool
pub mod HighestFree
pub mod FrameLists
pub mod MarkBytes
