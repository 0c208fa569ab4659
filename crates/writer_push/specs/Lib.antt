pub mod PushArguments
