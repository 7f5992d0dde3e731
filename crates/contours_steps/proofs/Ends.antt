-- All that is written has its last line end. Assumes nothing.
use Rattle.std.specs.Prelude.{ℕ, eqb, List, [], ◌∷◌, ◌++◌}
use mathlib.Core.{Path.refl, Path.sym, Path.ap, Path.◌∙◌, Bool.Bool, Bool.true, Bool.false, Bool.cond}
use mathlib.Core.List.{append_assoc, append-nil}
use Rattle.network.specs.declared.Frame.{Frame}
use Rattle.wkt.specs.Calls.{network_text}
use Rattle.grid.specs.Read.{text_frame, text_levels}
use Rattle.contours_steps.specs.Words.{levels_in}
use Rattle.text.specs.Number.{show_number}
use Rattle.contours_steps.specs.Sheet.{line_end, line_start, heading, level_line, level_lines, sheet_of}
use Rattle.contours_steps.specs.Sheet.{refused_line, refusal_of, refused_at, written_of, line_begun, overlong_line}
use Rattle.contours_steps.specs.{Sheet.overlong_of, Ends.Ended, Ends.Ends}

-- what stands in front of a text that ends so
behind : (a b : List ℕ) → Ended b → Ended (a ++ b)
behind a b e = record {
  before = a ++ e.before;
  is = ap (λ (t : List ℕ). a ++ t) e.is
      ∙ sym (append_assoc a e.before (13 ∷ 10 ∷ []));
}

end_itself : Ended line_end
end_itself = record { before = []; is = refl }

either_way : (b : Bool) (x y : List ℕ) → Ended x → Ended y → Ended (cond b x y)
either_way true x y e f = e
either_way false x y e f = f

refused_ends : (number line : ℕ) → Ended (refused_line number line)
unfolding refused_line
refused_ends number line =
    behind (114 ∷ 101 ∷ 102 ∷ 117 ∷ 115 ∷ 101 ∷ 100 ∷ 44 ∷ [])
    (show_number number ++ ((44 ∷ []) ++ (show_number line ++ line_end)))
    (behind (show_number number) ((44 ∷ []) ++ (show_number line ++ line_end))
    (behind (44 ∷ []) (show_number line ++ line_end) (behind (show_number line) line_end end_itself)))

module _ (levels : List ℕ) (f : Frame) where
  line_ends_rule : (v : ℕ) → Ended (level_line levels f v)
  line_ends_rule v = behind (line_start v) (network_text levels f v ++ line_end)
      (behind (network_text levels f v) line_end end_itself)

  lines_end : (a : List ℕ) (vs : List ℕ) → Ended a → Ended (a ++ level_lines levels f vs)
  unfolding level_lines
  lines_end a [] e = rw (append-nil a) e
  lines_end a (v ∷ vs) e =
      rw (← append_assoc a (level_line levels f v) (level_lines levels f vs))
      (lines_end (a ++ level_line levels f v) vs (behind a (level_line levels f v) (line_ends_rule v)))

  heading_ends : Ended heading
  heading_ends = record {
    before = 108 ∷ 101 ∷ 118 ∷ 101 ∷ 108 ∷ 59 ∷ 119 ∷ 107 ∷ 116 ∷ [];
    is =
        refl;
  }

  sheet_ends : (vs : List ℕ) → Ended (sheet_of levels f vs)
  unfolding sheet_of
  sheet_ends vs = lines_end heading vs heading_ends

pub ends : (text : List ℕ) (words : List (List ℕ)) → Ends text words
unfolding written_of overlong_of
ends text words = record {
  written = either_way (eqb (refusal_of text words) 0) (sheet_of (text_levels text) (text_frame text) (levels_in words))
      (refused_line (refusal_of text words) (refused_at text (refusal_of text words)))
      (sheet_ends (text_levels text) (text_frame text) (levels_in words))
      (refused_ends (refusal_of text words) (refused_at text (refusal_of text words)));
  failed = refused_ends 17 (line_begun text);
  overlong = either_way (eqb (overlong_line text) 0) (refused_line 12 0) (refused_line 17 (overlong_line text))
      (refused_ends 12 0) (refused_ends 17 (overlong_line text));
}
