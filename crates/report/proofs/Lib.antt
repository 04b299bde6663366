-- Document 01's own lines, computed.
pub mod LineExamples
