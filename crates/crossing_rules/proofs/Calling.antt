-- What the call for contours leaves in lent memory holds every crossing one time. Assumes nothing.
use mathlib.Core.Path.{◌≡◌, refl, sym, ◌∙◌, subst}
use mathlib.Core.{Bool.Bool, Bool.true, Bool.false, Bool.◌&&◌, Bool.cond, List.List, Logic.inl}
use Prim.Native.Nat.{ℕ, ◌≤◌}
use native.Mathlib.Omega.{arith}
use borrow.Author.Tests.{leb-true, eqb-true, eqb-false}
use lib.{Dec.leb, Dec.eqb, ListN.length, ListN.get_or}
use Rattle.refusal.specs.Refuse.{refuse}
use Rattle.room.specs.{Lent.Lent, Lent.LentRoom, Room.front, Room.fits_in, Room.then_room}
use Rattle.room.proofs.Fronts.{front_at, length_front}
use Rattle.network.specs.declared.Frame.{Frame}
use Rattle.network.specs.{Refusals.contour_refusal, Ranges.RightFrame, Ranges.RightLevels, Ranges.RightContour}
use Rattle.network.proofs.{Refusals.both, Ranges.contour_refused}
use Rattle.contour_rules.specs.{Picture.Picture, Rule.lines}
use Rattle.contour_rules.specs.Contours.{Contour, contours_of, edges_of, counts_of, closed_of}
use Rattle.contour_rules.proofs.{Every.every_crossing, Every.few, Sums.length_counts, Sums.length_closed}
use Rattle.contour.specs.Answers.{Outcome, Lists, lists_of, answer_of, fits, left_with, outcome, outcome_left}
use Rattle.contour.specs.Answers.{outcome_due}
use Rattle.contour.proofs.Telling.{outcome_told}
use Rattle.crossing_rules.specs.Calls.{RoomForEach, EveryCrossing}
use Rattle.crossing_rules.proofs.{Reading.Tells, Reading.tells, Every.one_time}

-- a call that answers 0 is refused for nothing, and has room
pub answered_if : (why : ℕ) (room : Bool) → then_room why room ≡ 0 → (why ≡ 0) × (room ≡ true)
answered_if why room h = go (eqb why 0) room refl h
  where
    go : (a b : Bool) → eqb why 0 ≡ a → cond a (refuse 14 b 0) why ≡ 0 → (why ≡ 0) × (b ≡ true)
    go true true e h = (eqb-true _ _ e, refl)
    go true false e h = absurd (omega arith)
    go false b e h = absurd (eqb-false _ _ e h)

module _ (levels : List ℕ) (f : Frame) (v : ℕ) (edges counts closed sizes : List ℕ) where
  abbrev g : Picture
  g = lines levels f.columns f.rows v

  abbrev cs : List Contour
  cs = contours_of g

  abbrev lent : Lists
  lent = lists_of edges counts closed sizes

  in_range_rule : contour_refusal levels f v ≡ 0 → RightFrame levels f × (RightLevels levels × RightContour v)
  in_range_rule h = (contour_refused levels f v 0 (inl refl)).others.0 h

  abbrev ToldBy : Outcome → Type 0
  ToldBy o = Tells cs o.edges o.counts o.closed (get_or o.sizes 0 0) (get_or o.sizes 1 0)

  -- what is to be shown of an outcome
  record Held (o : Outcome) : Type 0 where
    answers : RightFrame levels f → RightLevels levels → RightContour v → RoomForEach f edges
        → RoomForEach f counts → RoomForEach f closed → 2 ≤ length sizes → o.answer ≡ 0
    ranges : o.answer ≡ 0 → RightFrame levels f × (RightLevels levels × RightContour v)
    told : o.answer ≡ 0 → ToldBy o

  answers_due : RightFrame levels f → RightLevels levels → RightContour v → RoomForEach f edges
      → RoomForEach f counts → RoomForEach f closed → 2 ≤ length sizes
      → (outcome levels f v edges counts closed sizes).answer ≡ 0
  answers_due rf rl rc e c d s =
      let n = few g rf.wide.0 in
      ((outcome_told levels f v edges counts closed sizes).refusal.enough (record {
        edges_fit = omega (arith, n.0);
        counts_fit_rule = omega (arith, n.1);
        closed_fit = omega (arith, n.1);
        sizes_fit_rule = s;
      })).others.1 (rf, (rl, rc))

  told_due : (outcome levels f v edges counts closed sizes).answer ≡ 0
      → ToldBy (outcome levels f v edges counts closed sizes)
  told_due h =
      let of-edges = fits_in (edges_of cs) edges in
      let of-counts = fits_in (counts_of cs) counts in
      let of-closed = fits_in (closed_of cs) closed in
      let a = answered_if (contour_refusal levels f v) (fits (answer_of cs) lent) h in
      let p = both (of-edges && of-counts && of-closed) (leb 2 (length sizes)) a.1 in
      let q = both (of-edges && of-counts) of-closed p.0 in
      let r = both of-edges of-counts q.0 in
      let fe : length (edges_of cs) ≤ length edges = leb-true _ _ r.0 in
      let fc : length (counts_of cs) ≤ length counts = leb-true _ _ r.1 in
      let fd : length (closed_of cs) ≤ length closed = leb-true _ _ q.1 in
      let n : length (counts_of cs) ≡ length (closed_of cs) = length_counts cs ∙ sym (length_closed cs) in
      subst (λ (n : ℕ). ToldBy (left_with n (answer_of cs) lent)) (sym h)
      (tells cs (front (edges_of cs) edges) (front (counts_of cs) counts) (front (closed_of cs) closed) _ _ (
        omega (arith, fe, length_front (edges_of cs) edges fe),
        (
          omega (arith, fc, length_front (counts_of cs) counts fc),
          omega (arith, fd, n, length_front (closed_of cs) closed fd),
        ),
      ) refl (length_counts cs) (λ p l. front_at (edges_of cs) edges p 0 l)
      (λ i l. front_at (counts_of cs) counts i 0 l) (λ i l. front_at (closed_of cs) closed i 0 (omega (arith, n))))

  held : Held (outcome levels f v edges counts closed sizes)
  held = record {
    answers = answers_due;
    ranges = λ h. in_range_rule (answered_if (contour_refusal levels f v) (fits (answer_of cs) lent) h).0;
    told = told_due;
  }

-- ---- of a call that keeps its contract

module _ (levels : Lent) (f : Frame) (v : ℕ) (edges counts closed sizes : LentRoom) (r : ℕ)
    (h : outcome_left r edges counts closed sizes ≡ outcome_due levels f v edges counts closed sizes) where
  abbrev here : List ℕ
  here = levels.entry.now

  abbrev picture : Picture
  picture = lines here f.columns f.rows v

  held_left : Held here f v edges.entry.now counts.entry.now closed.entry.now sizes.entry.now
      (outcome_left r edges counts closed sizes)
  held_left = subst
      (Held here f v edges.entry.now counts.entry.now closed.entry.now sizes.entry.now) (sym h)
      (held here f v edges.entry.now counts.entry.now closed.entry.now sizes.entry.now)

  pub tells_answered : r ≡ 0 → Tells (contours_of picture) edges.exit.now counts.exit.now
      closed.exit.now (get_or sizes.exit.now 0 0) (get_or sizes.exit.now 1 0)
  tells_answered z = held_left.told z

  pub every_crossing_answered : EveryCrossing levels f v edges counts closed sizes r
  every_crossing_answered = record {
    answers = held_left.answers;
    in_range_rule = held_left.ranges;
    one_time = λ z.
        let rf = (held_left.ranges z).0 in
        one_time here f.columns f.rows v rf.wide.0 rf.tall.0 (contours_of picture)
        (every_crossing picture rf.wide.0) _ _ _ _ _ (tells_answered z);
  }
