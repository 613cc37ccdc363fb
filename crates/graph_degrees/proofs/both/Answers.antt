-- `graph_degrees::both` meets its contract.
use mathlib.Core.Path.{ap₂, ◌∙◌}
use lib.Bits.{bit_and}
use lib.Dec.{eqb}
use Rattle.model.proofs.Count.{bit_of, bits_and}
use Rattle.graph_degrees.proofs.both.Goals as goal

pub returns : goal.returns
returns c = ap₂ bit_and (bit_of _ c.requires.0) (bit_of _ c.requires.1) ∙ bits_and (eqb c.args.a 1) (eqb c.args.b 1)
