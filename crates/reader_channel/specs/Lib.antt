pub mod ChannelReading
