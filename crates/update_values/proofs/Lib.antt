pub mod PlanLemmas
pub mod AlongLemmas
pub mod LackLemmas
