pub mod WriteLog
