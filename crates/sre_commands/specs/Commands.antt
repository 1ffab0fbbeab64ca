pub mod Sub
