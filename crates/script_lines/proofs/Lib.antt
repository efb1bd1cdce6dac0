pub mod Ready
pub mod Runs
pub mod ScriptsRead
pub mod FirstFaults
