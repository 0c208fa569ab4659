pub mod MagicAnswer
