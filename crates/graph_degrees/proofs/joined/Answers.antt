-- `graph_degrees::joined` meets its contract.
use Rattle.graph_degrees.proofs.Behind.{all_degrees}
use Rattle.graph_degrees.proofs.joined.Goals as goal

pub returns : goal.returns
returns c = λ g same same' both. all_degrees g _ _ _ _ _ same same' c.requires.0 c.requires.1 both c.join.ensures
