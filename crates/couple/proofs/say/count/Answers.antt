use native.Mathlib.Omega.{arith}
use Rattle.couple.proofs.say.count.Goals as goal

pub is_circuit-requires : goal.is_circuit-requires
is_circuit-requires c =
    record { roomy = c.requires.roomy; i_lt_max_flights = omega (arith, c.requires.m_le_max_flights.0) }
