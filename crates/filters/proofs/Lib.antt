pub mod Numbers
pub mod PlaneLaws
pub mod StepLaws
pub mod Folds
