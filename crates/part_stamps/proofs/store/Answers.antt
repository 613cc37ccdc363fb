-- `part_stamps::store` meets its contract.
use Rattle.part_stamps.proofs.store.Goals as goal

pub returns : goal.returns
returns c = (rw c.place-at.ensures, rw c.place-at.ensures)
