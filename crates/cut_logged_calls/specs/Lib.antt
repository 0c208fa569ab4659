pub mod LoggedCalls
