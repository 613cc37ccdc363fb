-- `graph_degrees::present_and_marked` meets its contract.
use borrow.Author.Rules.{rules}
use native.Mathlib.Omega.{arith}
use Rattle.graph_degrees.proofs.present_and_marked.Goals as goal

pub returns : goal.returns
returns c = record { long = omega arith; bits = λ x h. let w = c.bytes_of.ensures x (omega arith) in search rules }
