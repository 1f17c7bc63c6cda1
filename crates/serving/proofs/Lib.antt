pub mod JobLists
pub mod WorkerRuns
pub mod Forwards
pub mod RolledTurns
pub mod TakenTurns
pub mod ServedClient
pub mod SharedSettings
mod Visit
