-- Laws. `Scans` and `Search` serve the loops that read a column, and `Cells` those of p values a row; `Shapes` and
-- `RowFacts` say what soundness gives; `Accepted` is about one call; `Blocks`, `Standing`, `Reading` and `Steps` tie
-- rows to the list of movements; `Finding` and `Listed`: how rows and the list are found; `Kept`: calls keep a book
-- sound; `Rooms`: what a call's rows may rely on.
-- Theorems: `History` (any calls on an empty book), `Chain` (calls that are really made), `SoundBook` (soundness in
-- the rules' words), `Order` (each refusal for its reason), `Lookup` and `Outcome` (what a call does, by look-up),
-- `ByPlace` (look-up itself, value by value).
pub mod Scans
pub mod Cells
pub mod Search
pub mod Shapes
pub mod RowFacts
pub mod Accepted
pub mod Blocks
pub mod Standing
pub mod Reading
pub mod Steps
pub mod Kept
pub mod Rooms
pub mod ByList
pub mod History
pub mod SoundBook
pub mod Finding
pub mod Chain
pub mod Order
pub mod Listed
pub mod Lookup
pub mod Outcome
pub mod ByPlace
