pub mod SampleLaws
