-- Sources and sinks of bytes.
pub mod Faults
pub mod Memory
