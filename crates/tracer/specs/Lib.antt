pub mod Recording
pub mod TraceText
