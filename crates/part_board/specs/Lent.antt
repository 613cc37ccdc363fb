-- Inner contracts: the boards of which a call is lent the parts.
use Rattle.std.specs.Prelude.{◌≡◌}
use Rattle.model.specs.Layout.{Board, lent}
use Rattle.part_board.specs.declared.BoardRef.{BoardRef}
use Rattle.part_board.specs.declared.BoardMut.{BoardMut}

-- the board that is read
abbrev pub ref_board : BoardRef → Board
ref_board b =
    lent b.head b.operators.now b.rides.now b.stamps.now b.revisions.now b.index.now b.presence_stamps.now b.presence_revisions.now
    b.presence.now

-- the board that is changed, as it stands
abbrev pub mut_board : BoardMut → Board
mut_board b =
    lent b.head b.operators.now b.rides.now b.stamps.now b.revisions.now b.index.now b.presence_stamps.now b.presence_revisions.now
    b.presence.now

-- the same memory is lent before and after
pub record SameParts (old new : BoardMut) : Type 0 where
  pub operators : new.operators.ghost_name ≡ old.operators.ghost_name
  pub rides : new.rides.ghost_name ≡ old.rides.ghost_name
  pub stamps : new.stamps.ghost_name ≡ old.stamps.ghost_name
  pub revisions : new.revisions.ghost_name ≡ old.revisions.ghost_name
  pub index : new.index.ghost_name ≡ old.index.ghost_name
  pub presence_stamps : new.presence_stamps.ghost_name ≡ old.presence_stamps.ghost_name
  pub presence_revisions : new.presence_revisions.ghost_name ≡ old.presence_revisions.ghost_name
  pub presence : new.presence.ghost_name ≡ old.presence.ghost_name
