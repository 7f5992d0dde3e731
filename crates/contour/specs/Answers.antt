-- What the call for contours answers, and what it leaves in the four buffers lent to it: RULES, "Network and contours"
-- and "Refusal numbers". Assumes nothing.
use Rattle.std.specs.Prelude.{ℕ, Bool, ◌&&◌, List, [], ◌∷◌, length}
use Rattle.room.specs.Lent.{Lent, LentRoom}
use Rattle.room.specs.Room.{fits_in, then_room, leaves}
use Rattle.network.specs.declared.Frame.{Frame}
use Rattle.network.specs.Refusals.{contour_refusal}
use Rattle.contour_rules.specs.Picture.{picture}
use Rattle.contour_rules.specs.Contours.{Contour, contours_of, edges_of, counts_of, closed_of}

-- 0 or the refusal's number, with the final contents of the buffers
pub record Outcome : Type 0 where
  pub answer : ℕ
  pub edges : List ℕ
  pub counts : List ℕ
  pub closed : List ℕ
  pub sizes : List ℕ

abbrev pub outcome_of : (answer : ℕ) (edges counts closed sizes : List ℕ) → Outcome
outcome_of answer edges counts closed sizes =
    record { answer = answer; edges = edges; counts = counts; closed = closed; sizes = sizes }

-- four lists of numbers: what is to stand in the buffers, or what they hold
pub record Lists : Type 0 where
  pub edges : List ℕ
  pub counts : List ℕ
  pub closed : List ℕ
  pub sizes : List ℕ

abbrev pub lists_of : (edges counts closed sizes : List ℕ) → Lists
lists_of edges counts closed sizes = record { edges = edges; counts = counts; closed = closed; sizes = sizes }

-- listed edges, the length of each contour and its closed mark, with how many edges and contours there are
abbrev pub answer_from : (listed lengths marks : List ℕ) → Lists
answer_from listed lengths marks = lists_of listed lengths marks (length listed ∷ length lengths ∷ [])

abbrev pub answer_of : List Contour → Lists
answer_of cs = answer_from (edges_of cs) (counts_of cs) (closed_of cs)

-- whether each buffer is long enough for what is to stand in it
abbrev pub fits : (answer lent : Lists) → Bool
fits answer lent =
    fits_in answer.edges lent.edges && fits_in answer.counts lent.counts
    && fits_in answer.closed lent.closed && fits_in answer.sizes lent.sizes

-- a call's number, with the answer at the fronts of the buffers where it is 0
abbrev pub left_with : (number : ℕ) (answer lent : Lists) → Outcome
left_with n answer lent =
    outcome_of n (leaves n answer.edges lent.edges) (leaves n answer.counts lent.counts)
    (leaves n answer.closed lent.closed) (leaves n answer.sizes lent.sizes)

-- an answer handed out by a call that has the refusal `why` without its room
abbrev pub handed_out : (why : ℕ) (answer lent : Lists) → Outcome
handed_out why answer lent = left_with (then_room why (fits answer lent)) answer lent

-- 12, 13, 15, and then the contours, or 14
abbrev pub outcome : (levels : List ℕ) (f : Frame) (v : ℕ) (edges counts closed sizes : List ℕ) → Outcome
outcome levels f v edges counts closed sizes =
    handed_out (contour_refusal levels f v) (answer_of (contours_of (picture levels f.columns f.rows v)))
    (lists_of edges counts closed sizes)

-- ---- over lent buffers: what they held, what a call with this number left, and what it had to leave

abbrev pub lists_before : (edges counts closed sizes : LentRoom) → Lists
lists_before edges counts closed sizes =
    lists_of edges.entry.now counts.entry.now closed.entry.now sizes.entry.now

abbrev pub outcome_left : (number : ℕ) (edges counts closed sizes : LentRoom) → Outcome
outcome_left n edges counts closed sizes =
    outcome_of n edges.exit.now counts.exit.now closed.exit.now sizes.exit.now

abbrev pub outcome_due : (levels : Lent) (f : Frame) (v : ℕ) (edges counts closed sizes : LentRoom) → Outcome
outcome_due levels f v edges counts closed sizes =
    outcome levels.entry.now f v edges.entry.now counts.entry.now closed.entry.now
    sizes.entry.now
