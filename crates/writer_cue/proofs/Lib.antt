pub mod CueTableLaws
pub mod CueCallLaws
