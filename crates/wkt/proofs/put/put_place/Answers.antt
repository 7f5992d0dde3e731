-- `wkt::put::put_place` meets its contract. Assumes nothing.
use mathlib.Core.{Path.◌≡◌, Path.sym, Path.ap, Path.subst, Path.◌∙◌, Bool.true}
use Rattle.network.specs.declared.Edge.{Edge}
use Rattle.network.specs.{Edges.WithinEdge, Crossed.crossed_edge}
use Rattle.network.proofs.Numbers.{edge_within}
use Rattle.wkt.specs.{Places.spot_of, Text.show_spot, Text.place_text}
use Rattle.wkt.proofs.put.put_place.Goals as goal
use Rattle.wkt.proofs.put.put_place.Goals.{After-spot_of}

-- the place found is that of the number's edge
spot : (c : After-spot_of) → let a = c.args in
    show_spot c.spot_of.result ≡ place_text a.levels.now a.frame a.v a.n
unfolding place_text
spot c = let a = c.args in
    ap show_spot (c.spot_of.ensures
    ∙ ap (spot_of a.levels.now a.frame a.v) c.edge_at-edge.ensures)

pub spot_of-requires : goal.spot_of-requires
spot_of-requires c =
    let f = c.args.frame in (
      c.requires.0,
      subst (λ (e : Edge). WithinEdge f.columns f.rows e
          × (crossed_edge c.args.levels.now f.columns c.args.v e ≡ true))
          (sym c.edge_at-edge.ensures) (
            edge_within f.columns f.rows c.requires.0.sized.sides.wide c.args.n c.requires.1.0.0,
            c.requires.1.0.1,
          ),
    )

pub put_spot-requires : goal.put_spot-requires
put_spot-requires c = rw (spot c) c.requires.1.1

pub returns : goal.returns
returns c = rw (← spot (goal.at.returns c).After-spot_of) c.put_spot.ensures
