-- `message_list_end::any_taken` meets its contract.
use Rattle.message_list_end.proofs.Ending.{contains_taken}
use Rattle.message_list_end.proofs.any_taken.Goals as goal

pub returns : goal.returns
returns c = contains_taken c.args.numbers.now _ c.contains.ensures.cases
