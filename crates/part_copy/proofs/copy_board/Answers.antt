-- `part_copy::copy_board` meets its contract: each part is copied to its length.
use Rattle.model.specs.Layout.{Operators, Rides, Stamps, Revisions, Index, PresenceStamps, PresenceRevisions, Presence}
use Rattle.model.proofs.Parts.{not_short}
use Rattle.part_board.specs.Lent.{ref_board, mut_board}
use Rattle.part_copy.proofs.Copy.{all_copied}
use Rattle.part_copy.proofs.copy_board.Goals as goal

pub copy-requires : goal.copy-requires
copy-requires c = (not_short _ c.requires.long Operators, not_short _ c.requires.room Operators)

pub copy-requires-2 : goal.copy-requires-2
copy-requires-2 c = (not_short _ c.requires.long Rides, not_short _ c.requires.room Rides)

pub copy-requires-3 : goal.copy-requires-3
copy-requires-3 c = (not_short _ c.requires.long Stamps, not_short _ c.requires.room Stamps)

pub copy-requires-4 : goal.copy-requires-4
copy-requires-4 c = (not_short _ c.requires.long Revisions, not_short _ c.requires.room Revisions)

pub copy-requires-5 : goal.copy-requires-5
copy-requires-5 c = (not_short _ c.requires.long Index, not_short _ c.requires.room Index)

pub copy-requires-6 : goal.copy-requires-6
copy-requires-6 c = (not_short _ c.requires.long PresenceStamps, not_short _ c.requires.room PresenceStamps)

pub copy-requires-7 : goal.copy-requires-7
copy-requires-7 c = (not_short _ c.requires.long PresenceRevisions, not_short _ c.requires.room PresenceRevisions)

pub copy-requires-8 : goal.copy-requires-8
copy-requires-8 c = (not_short _ c.requires.long Presence, not_short _ c.requires.room Presence)

pub returns-clause-copy : goal.returns-clause-copy
returns-clause-copy c = all_copied (ref_board c.args.board) c.requires.long (mut_board c.args.spare.now).part _ c.copy.ensures c.copy-2.ensures c.copy-3.ensures c.copy-4.ensures c.copy-5.ensures c.copy-6.ensures c.copy-7.ensures c.copy-8.ensures
