-- Inner steps: no promise uses them. The buffers while contours are listed, and what they hold. Assumes nothing.
use Rattle.std.specs.Prelude.{◌≡◌, ℕ, ◌+◌, ◌≤◌, Bool, List, length}
use Rattle.std.specs.Borrow.{MutBor}
use Rattle.room.specs.Lent.{Lent, LentRoom}
use Rattle.room.specs.Room.{front}
use Rattle.network.specs.declared.inner.Network.{Network}
use Rattle.network.specs.Edges.{edges as edge_count}
use Rattle.contour_rules.specs.Picture.{Picture, picture}
use Rattle.contour_rules.specs.Crossings.{edges_in}
use Rattle.contour_rules.specs.Contours.{Contour, Listing, waiting, contour_from, add, try, swept}
use Rattle.contour_rules.specs.Contours.{edges_of, counts_of, closed_of}
use Rattle.contour.specs.declared.inner.Progress.{Progress}
use Rattle.contour.specs.InnerWalk.{OnlyCrossed}

-- the picture of a network, and of lent levels before the call
abbrev pub pictured : Network → ℕ → Picture
pictured n v = picture n.levels.now n.nx n.ny v

abbrev pub picture_before : (levels : Lent) (nx ny v : ℕ) → Picture
picture_before levels nx ny v = picture levels.entry.now nx ny v

-- the waiting list, the three buffers, and how many edges and contours are listed
pub record Desk : Type 0 where
  pub list : List ℕ
  pub edges : List ℕ
  pub counts : List ℕ
  pub closed : List ℕ
  pub at : ℕ
  pub made : ℕ

abbrev pub desk : (list edges counts closed : List ℕ) (at made : ℕ) → Desk
desk list edges counts closed at made =
    record { list = list; edges = edges; counts = counts; closed = closed; at = at; made = made }

-- the desk of lent buffers with so much listed: now, before the call and after it
abbrev pub desk_now : (list edges counts closed : MutBor (List ℕ)) (listed : Progress) → Desk
desk_now list edges counts closed p = desk list.now edges.now counts.now closed.now p.edges p.contours

abbrev pub desk_before : (list edges counts closed : LentRoom) (listed : Progress) → Desk
desk_before list edges counts closed p =
    desk list.entry.now edges.entry.now counts.entry.now closed.entry.now p.edges p.contours

abbrev pub desk_after : (list edges counts closed : LentRoom) (listed : Progress) → Desk
desk_after list edges counts closed p =
    desk list.exit.now edges.exit.now counts.exit.now closed.exit.now p.edges p.contours

-- nothing listed yet
abbrev pub none_yet : Progress
none_yet = record { edges = 0; contours = 0 }

-- a desk that was `old` before anything was listed has this listing at the front of its buffers
pub record Holds (l : Listing) (old d : Desk) : Type 0 where
  pub the_list : d.list ≡ l.list
  pub the_edges : d.edges ≡ front (edges_of l.found) old.edges
  pub the_counts : d.counts ≡ front (counts_of l.found) old.counts
  pub the_closed : d.closed ≡ front (closed_of l.found) old.closed
  pub edge_places : d.at ≡ length (edges_of l.found)
  pub contours : d.made ≡ length l.found

-- there is room for all that waits, which is crossed
pub record Room (g : Picture) (d : Desk) : Type 0 where
  pub long : length d.list ≡ edges_in g
  pub only : OnlyCrossed g d.list
  pub for_edges : d.at + waiting d.list ≤ length d.edges
  pub for_counts : d.made + waiting d.list ≤ length d.counts
  pub for_closed : d.made + waiting d.list ≤ length d.closed

-- from one desk to the next: whatever listing the first one held, the second one holds that listing changed by `f`,
-- and there is still room
pub record Grows (g : Picture) (f : Listing → Listing) (d d' : Desk) : Type 0 where
  pub room : Room g d'
  pub holds : (l : Listing) (old : Desk) → Holds l old d → Holds (f l) old d'

-- such changes: the contour from n added, an edge tried
abbrev pub added : (g : Picture) (closes : Bool) (n : ℕ) (l : Listing) → Listing
added g closes n l = add closes l (contour_from g l.list n)

abbrev pub tried : (g : Picture) (closes : Bool) (n : ℕ) (l : Listing) → Listing
tried g closes n l = try g closes l n

-- the edges from one number to before another were tried: what the edges below the first gave became what those below
-- the second give
pub record Sweeps (g : Picture) (closes : Bool) (from to : ℕ) (d d' : Desk) : Type 0 where
  pub room : Room g d'
  pub holds : (l : Listing) (old : Desk) → Holds (swept g closes l from) old d → Holds (swept g closes l to) old d'

-- these contours were listed at the fronts of buffers, which had room for them
pub record Listed (cs : List Contour) (edges counts closed edges' counts' closed' : List ℕ) (at made : ℕ)
    : Type 0 where
  pub the_edges : edges' ≡ front (edges_of cs) edges
  pub the_counts : counts' ≡ front (counts_of cs) counts
  pub the_closed : closed' ≡ front (closed_of cs) closed
  pub edge_places : at ≡ length (edges_of cs)
  pub contours : made ≡ length cs
  pub edges_fit : at ≤ length edges
  pub counts_fit_rule : made ≤ length counts
  pub closed_fit : made ≤ length closed

-- the same of lent buffers, and room in them for every edge
abbrev pub ListedIn : (cs : List Contour) (edges counts closed : LentRoom) (listed : Progress) → Type 0
ListedIn cs edges counts closed p =
    Listed cs edges.entry.now counts.entry.now closed.entry.now edges.exit.now counts.exit.now
    closed.exit.now p.edges p.contours

abbrev pub RoomForAll : (nx ny : ℕ) (edges counts closed : MutBor (List ℕ)) → Type 0
RoomForAll nx ny edges counts closed =
    (edge_count nx ny ≤ length edges.now)
    × ((edge_count nx ny ≤ length counts.now) × (edge_count nx ny ≤ length closed.now))
