pub mod InnerKind
pub mod Journal
pub mod Spelling
pub mod Replay
