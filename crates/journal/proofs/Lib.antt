-- Laws: `Reading` reads a journal call by call, `Replaying` follows a replay, `Audit` says what a journal is good for,
-- `LaidOut` what its layout is.
pub mod Reading
pub mod Replaying
pub mod Audit
pub mod LaidOut
