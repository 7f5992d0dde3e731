-- The calls on a book: which refusal each gets, in the rules' order, and the book after it. Assumes nothing.
use Rattle.std.specs.Prelude.{ℕ, ◌*◌, ◌≡◌, cond, not, List, [], ◌∷◌, get_or, replicate, eqb}
use Rattle.refusal.specs.Refuse.{refuse}
use Rattle.room.specs.Room.{put}
use Rattle.movement.specs.Rules.{movement_refusal, identity_fits, levels_fit, counts_fit, zero_elsewhere}
use Rattle.movement.specs.Group.{group_of}
use Rattle.book_rules.specs.Columns.{Book, book_of, sound, index_of, stands, place_of, cells_at, opened, closed}

pub data Call : Type 0 where
  enter : (identity type kind time mass : ℕ) (counts : List ℕ) → Call
  supply : (identity : ℕ) (levels : List ℕ) → Call
  take_back : (identity : ℕ) → Call
  withdraw : (identity : ℕ) → Call

-- What refuses each call on a sound book: 0 is no refusal

-- a refusal, or where it is none what the rest says
abbrev pub refused_or : ℕ → ℕ → ℕ
refused_or r rest = cond (eqb r 0) rest r

-- 9 where there isn't one yes or no a point; rules 1 and 2 are those of the movement
unfoldable pub enter_refusal : (points : ℕ) (identities : List ℕ) (identity type kind time mass : ℕ) (counts : List ℕ)
    → ℕ
enter_refusal p ids x t k s m cs =
    refuse 9 (counts_fit p cs)
    (refused_or (movement_refusal t k s m)
    (refuse 3 (identity_fits x)
    (refuse 4 (not (stands x ids))
    (refuse 6 (stands 0 ids) 0))))

unfoldable pub supply_refusal : (points : ℕ) (identities counts : List ℕ) (identity : ℕ) (levels : List ℕ) → ℕ
supply_refusal p ids cs x ls =
    refuse 3 (identity_fits x)
    (refuse 7 (levels_fit p ls)
    (refuse 5 (stands x ids)
    (refuse 19 (zero_elsewhere (cells_at p (index_of x ids) cs) ls) 0)))

unfoldable pub take_back_refusal : (identities marks : List ℕ) (identity : ℕ) → ℕ
take_back_refusal ids ms x =
    refuse 3 (identity_fits x)
    (refuse 5 (stands x ids)
    (refuse 8 (eqb (get_or ms (index_of x ids) 0) 1) 0))

unfoldable pub withdraw_refusal : (identities : List ℕ) (identity : ℕ) → ℕ
withdraw_refusal ids x =
    refuse 3 (identity_fits x)
    (refuse 5 (stands x ids) 0)

unfoldable pub sound_refusal : ℕ → Book → Call → ℕ
sound_refusal p b (enter x t k s m cs) = enter_refusal p b.identities x t k s m cs
sound_refusal p b (supply x ls) = supply_refusal p b.identities b.counts x ls
sound_refusal p b (take_back x) = take_back_refusal b.identities b.marks x
sound_refusal p b (withdraw x) = withdraw_refusal b.identities x

-- the refusal of any call, made for p points: 9 comes first
unfoldable pub refusal : ℕ → Book → Call → ℕ
refusal p b c = refuse 9 (sound p b) (sound_refusal p b c)

-- What an accepted call changes

-- row k goes in, with where it counts and no levels, and the rows from there on move up by one
unfoldable pub row_in : (points : ℕ) (book : Book) (row identity group : ℕ) (counts : List ℕ) → Book
row_in p b k x g cs =
    book_of (opened k (x ∷ []) b.identities) (opened k (g ∷ []) b.groups) (opened k (0 ∷ []) b.marks)
    (opened (k * p) cs b.counts) (opened (k * p) (replicate p 0) b.levels)

-- row k goes out, and the rows after it move down by one
unfoldable pub row_out : (points : ℕ) (book : Book) (row : ℕ) → Book
row_out p b k =
    book_of (closed k 1 b.identities) (closed k 1 b.groups) (closed k 1 b.marks) (closed (k * p) p b.counts)
    (closed (k * p) p b.levels)

-- row k has the mark m and the levels ls
unfoldable pub row_marked : (points : ℕ) (book : Book) (row mark : ℕ) (levels : List ℕ) → Book
row_marked p b k m ls =
    book_of b.identities b.groups (put b.marks k (m ∷ [])) b.counts (put b.levels (k * p) ls)

-- the book after an accepted call
unfoldable pub changed : ℕ → Book → Call → Book
changed p b (enter x t k s m cs) = row_in p b (place_of x b.identities) x (group_of t k s) cs
changed p b (supply x ls) = row_marked p b (index_of x b.identities) 1 ls
changed p b (take_back x) = row_marked p b (index_of x b.identities) 0 (replicate p 0)
changed p b (withdraw x) = row_out p b (index_of x b.identities)

-- the book after any call: a refused one changes nothing
unfoldable pub after : ℕ → Book → Call → Book
after p b c = cond (eqb (refusal p b c) 0) (changed p b c) b

-- what every call promises: the answer r, 0 where it is accepted, and the book b' at the end
pub record Called (p : ℕ) (b : Book) (c : Call) (r : ℕ) (b' : Book) : Type 0 where
  pub answer : r ≡ refusal p b c
  pub book : b' ≡ after p b c
