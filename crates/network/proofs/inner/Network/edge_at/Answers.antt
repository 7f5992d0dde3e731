-- `network::inner::Network::edge_at` meets its contract. Assumes nothing.
use Rattle.network.proofs.Numbers.{found_within}
use Rattle.network.proofs.inner.Network.edge_at.Goals as goal

pub returns-clause-within : goal.returns-clause-within
returns-clause-within c = λ h. found_within _ _ c.args.self.sized.sides.wide _ h c.edge_at.ensures
