-- A board, part by part.
use Rattle.std.proofs.Common.{◌≡◌, ℕ, List, refl}
use Rattle.model.specs.declared.Head.{Head}
use Rattle.model.specs.Layout.{lent}
use Rattle.part_board.specs.declared.BoardMut.{BoardMut}
use Rattle.part_board.specs.Lent.{mut_board}

-- parts that hold what a board's parts hold make the same board: a caller that lent them gets them back so
pub lent_back : (b : BoardMut) (h : Head) (o r s v i t c p : List ℕ) → h ≡ b.head → o ≡ b.operators.now → r ≡ b.rides.now →
    s ≡ b.stamps.now → v ≡ b.revisions.now → i ≡ b.index.now → t ≡ b.presence_stamps.now → c ≡ b.presence_revisions.now →
    p ≡ b.presence.now → lent h o r s v i t c p ≡ mut_board b
lent_back b h o r s v i t c p eh eo er es ev ei et ec ep = rw (eh, eo, er, es, ev, ei, et, ec, ep) refl
