pub mod PushPlan
