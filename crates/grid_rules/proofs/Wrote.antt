-- A text that is written says its network, line by line and place by place. Assumes nothing.
use Prim.Native.Nat.{ℕ}
use mathlib.Core.Path.{◌≡◌, refl, sym, ap, ◌∙◌}
use mathlib.Core.{List.List, List.[], List.◌∷◌, List.◌++◌, List.append_assoc, Bool.true, Bool.true≢false}
use native.Mathlib.Omega.{arith}
use lib.ListN.{length, get_or, take}
use Rattle.text.specs.{Line.lines_of, Same.same_text, Spelled.bytes}
use Rattle.network.specs.Refusals.{network_refusal}
use Rattle.network.specs.declared.Frame.{Frame}
use Rattle.grid.specs.File.{begins, names}
use Rattle.grid.specs.Write.{text_of, network_lines, show_network, write_refusal, text_after, size_after}
use Rattle.text.proofs.Sames.{same_self}
use Rattle.grid.proofs.Back.{lines_back, sixth_row, three_back, frame_back, levels_back, refusal_back}
use Rattle.grid.proofs.{Back.written_file, ReadLaws.passed}
use Rattle.grid_rules.specs.Laid.{Named, Written}
use Rattle.grid_rules.proofs.Said.{laid_three}

-- lines of which there is one at least, each with its CRLF, end in CRLF
all_but_end : List (List ℕ) → List ℕ
all_but_end [] = []
all_but_end (l ∷ []) = l
all_but_end (l ∷ m ∷ ls) = l ++ (13 ∷ 10 ∷ all_but_end (m ∷ ls))

text_ends : (l : List ℕ) (ls : List (List ℕ)) → text_of (l ∷ ls) ≡ all_but_end (l ∷ ls) ++ (13 ∷ 10 ∷ [])
unfolding text_of all_but_end
text_ends l [] = refl
text_ends l (m ∷ ls) =
    ap (λ (t : List ℕ). l ++ (13 ∷ 10 ∷ t)) (text_ends m ls)
    ∙ sym (append_assoc l (13 ∷ 10 ∷ all_but_end (m ∷ ls)) (13 ∷ 10 ∷ []))

module _ (levels : List ℕ) (f : Frame) (none : network_refusal levels f ≡ 0) where
  plain : Named (show_network levels f) → ⊥
  unfolding begins
  plain word =
      let line_is : names (get_or (network_lines levels f) 5 []) ≡ true =
      ap (λ (l : List (List ℕ)). names (get_or l 5 [])) (sym (lines_back levels f none))
      ∙ ap (λ (t : List ℕ). same_text t (bytes "NODATA_value")) word
      ∙ same_self (bytes "NODATA_value") in
      true≢false (sym line_is ∙ sixth_row levels f none)

  pub written : Written (show_network levels f) levels f
  unfolding show_network
  written =
      let text = show_network levels f in
      let p = passed (lines_of text) 5 (length levels)
      (refusal_back levels f none 5 (length levels) (omega arith) (omega arith)) in
      let laid = laid_three text p (three_back levels f none) plain in
      record {
        laid = rw (levels_back levels f none, frame_back levels f none) at laid;
        before = all_but_end (network_lines levels f);
        ended = text_ends _ _;
      }

-- what a call leaves in the room lent, where it does not refuse
pub written_left : (levels : List ℕ) (f : Frame) (text sizes : List ℕ)
    → write_refusal levels f (length text) (length sizes) ≡ 0
    → Written (take (get_or (size_after levels f text sizes) 0 0) (text_after levels f text sizes)) levels f
written_left levels f text sizes w =
    let file = written_file levels f text sizes w in
    rw file.1 (written levels f file.0)
