pub mod ScriptCut
