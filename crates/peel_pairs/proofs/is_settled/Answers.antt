-- `peel_pairs::is_settled` meets its contract.
use Rattle.peel_pairs.proofs.Settled.{settled_next}
use Rattle.peel_pairs.proofs.is_settled.Goals as goal

pub returns : goal.returns
returns c = λ g limit limits marks o. settled_next g limit marks _ _ c.is_none.ensures o.next
