-- A header is accepted exactly if it has the bytes that it should have; names are read and told apart. Assumes nothing.
use Rattle.std.specs.Prelude.{ℕ}
use mathlib.Core.{Path.◌≡◌, Path.refl, List.List}
use native.Mathlib.Omega.{arith}
use borrow.Author.Tests.{ne_eqb}
use Rattle.text.specs.{Same.same_text}
use Rattle.text.proofs.{Digits.either, Sames.same_equal, Sames.same_self}
use Rattle.refusal.proofs.Laws.{refuse_none}
use Rattle.flights.specs.Header.{track_header, movement_header, is_header, header_refusal}
use Rattle.flights.specs.{Name.in_name, Name.code_of, Name.name_of, Exact.HeadersAre, Exact.NamesAre}
use Rattle.flights.proofs.Names.{name_named, named_name, names_apart}

tracks_only : (line : List ℕ) → header_refusal 8 line ≡ 0 → line ≡ track_header
unfolding is_header
tracks_only line e = same_equal line track_header (refuse_none 16 (same_text line track_header) 0 (omega arith) e).0

tracks_on : (line : List ℕ) → line ≡ track_header → header_refusal 8 line ≡ 0
unfolding is_header
tracks_on line e = rw (e, same_self track_header)

movements_only : (line : List ℕ) → header_refusal 9 line ≡ 0 → line ≡ movement_header
unfolding is_header
movements_only line e =
    same_equal line movement_header (refuse_none 16 (same_text line movement_header) 0 (omega arith) e).0

movements_on : (line : List ℕ) → line ≡ movement_header → header_refusal 9 line ≡ 0
unfolding is_header
movements_on line e = rw (e, same_self movement_header)

no_other : (columns : ℕ) (line : List ℕ) → (columns ≡ 8 → ⊥) → (columns ≡ 9 → ⊥)
    → header_refusal columns line ≡ 16
unfolding is_header
no_other columns line a b = rw (ne_eqb columns 8 a, ne_eqb columns 9 b)

pub headers_are : HeadersAre
headers_are = record {
  tracks = λ line. (tracks_only line, tracks_on line);
  movements = λ line. (movements_only line, movements_on line);
  other = λ columns line never. either (is_header columns line) (λ yes. absurd (never (rw yes))) (λ no. rw no);
  none = no_other;
}

pub names_are : NamesAre
unfolding name_of code_of in_name
names_are = record {
  read = λ text number. (name_named text number, named_name text number);
  apart = λ a b number x y. names_apart a b number (named_name a number x) (named_name b number y);
  airport = refl;
  runway = refl;
}
