pub mod Calls
pub mod Lines
pub mod Report
pub mod Results
pub mod Token
pub mod Walks
