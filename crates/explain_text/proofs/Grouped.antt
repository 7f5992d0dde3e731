-- The lines of the text, as the writers group them. Assumes nothing.
use mathlib.Core.{Path.◌≡◌, Path.refl, Path.sym, Path.ap, Path.◌∙◌, Bool.true, Bool.false}
use Rattle.std.specs.Prelude.{ℕ, ◌+◌, List, [], ◌∷◌, ◌++◌}
use mathlib.Core.List.{append_assoc}
use native.Mathlib.Numerals.{add-one}
use Rattle.movement.specs.{Limits.group_count, Group.group_period}
use Rattle.text.specs.Sheet.{ended, comma, line}
use Rattle.text.specs.Spelled.{crlf}
use Rattle.text.specs.{Number.show_number, Field.joined_by, Spelled.bytes}
use Rattle.text.proofs.Sheets.{ended_append}
use Rattle.explain_text.specs.declared.amounts.Amounts.{Amounts}
use Rattle.explain_text.specs.Text.{type_text, kind_text, period_text, amount_fields, group_fields, all_fields}
use Rattle.explain_text.specs.Text.{stands, group_line, group_lines, point_lines}
use Rattle.explain_text.specs.InnerRoom.{names, amounts_text}

-- five fields with their commas, and the end of their line
five_is : (v u f s c : List ℕ)
    → ((comma ∷ v) ++ (comma ∷ u)) ++ ((comma ∷ f) ++ (((comma ∷ s) ++ (comma ∷ c)) ++ crlf))
    ≡ comma ∷ (line (v ∷ u ∷ f ∷ s ∷ c ∷ []) ++ crlf)
unfolding joined_by
five_is v u f s c =
    let four = f ++ (comma ∷ (s ++ (comma ∷ c))) in
    let rest = comma ∷ (f ++ (comma ∷ ((s ++ (comma ∷ c)) ++ crlf))) in
    ap (λ (t : List ℕ). comma ∷ t)
    (append_assoc v (comma ∷ u) rest
    ∙ ap (λ (t : List ℕ). v ++ (comma ∷ t))
    (sym (append_assoc u (comma ∷ four) crlf
    ∙ ap (λ (t : List ℕ). u ++ (comma ∷ t)) (append_assoc f (comma ∷ (s ++ (comma ∷ c))) crlf)))
    ∙ sym (append_assoc v (comma ∷ (u ++ (comma ∷ four))) crlf))

-- four fields before a line
four_is : (n t k d x e : List ℕ)
    → n ++ (((comma ∷ t) ++ ((comma ∷ k) ++ (comma ∷ d))) ++ (comma ∷ (x ++ e)))
    ≡ (n ++ (comma ∷ (t ++ (comma ∷ (k ++ (comma ∷ (d ++ (comma ∷ x)))))))) ++ e
four_is n t k d x e = simp append_assoc

pub group_is : (point g : ℕ) (a : Amounts)
    → show_number (point + 1) ++ (names g ++ amounts_text a) ≡ line (group_fields point g a) ++ crlf
unfolding amounts_text joined_by
group_is point g a =
    rw (five_is _ _ _ _ _)
    (four_is (show_number (point + 1)) (type_text g) (kind_text g) (period_text (group_period g))
    (line (amount_fields a))
    crlf)

pub all_is_lem : (point : ℕ) (a : Amounts)
    → show_number (point + 1) ++ (bytes ",all,," ++ amounts_text a) ≡ line (all_fields point a) ++ crlf
unfolding amounts_text joined_by
all_is_lem point a =
    rw (five_is _ _ _ _ _)
    (sym (append_assoc (show_number (point + 1)) (bytes ",all,,," ++ line (amount_fields a)) crlf))

-- a group with a movement, and one without
pub standing_is : (point g : ℕ) (a : Amounts) → stands a ≡ true
    → line (group_fields point g a) ++ crlf ≡ ended (group_line point g a)
unfolding group_line ended
standing_is point g a e = rw e refl

pub none_is : (point g : ℕ) (a : Amounts) → stands a ≡ false → [] ≡ ended (group_line point g a)
unfolding group_line ended
none_is point g a e = rw e refl

-- no group, one group more, and `all` behind them
module _ (point : ℕ) (a : ℕ → Amounts) where
  pub groups_none : [] ≡ ended (group_lines point a 0)
  unfolding group_lines ended
  groups_none = refl

  pub groups_more : (g : ℕ) → ended (group_lines point a g) ++ ended (group_line point g (a g))
      ≡ ended (group_lines point a (g + 1))
  unfolding group_lines
  groups_more g = rw (add-one g) (sym (ended_append (group_lines point a g) (group_line point g (a g))))

  pub point_is : (all : Amounts) → ended (group_lines point a group_count) ++ (line (all_fields point all) ++ crlf)
      ≡ ended (point_lines point a all)
  unfolding point_lines ended
  point_is all = sym (ended_append (group_lines point a group_count) (line (all_fields point all) ∷ []))
