pub mod CurveText
