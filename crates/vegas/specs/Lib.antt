pub mod VegasRules
pub mod VegasLaws
pub mod Queues
