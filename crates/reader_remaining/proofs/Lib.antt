pub mod RemainingLaws
