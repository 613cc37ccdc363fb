-- `limits_cover::cover` meets its contract.
use borrow.Author.Rules.{rules}
use native.Mathlib.Omega.{arith}
use Rattle.limits.specs.Limits.{limit_of}
use Rattle.limits_cover.proofs.Whole.{held_ones, covered}
use Rattle.limits_cover.proofs.cover.Goals as goal

pub settle-requires : goal.settle-requires
settle-requires c = let g = c.requires.0.0 in
    let o = c.requires.0.1 in
    let limit = limit_of c.args.limits.now in (
      g,
      limit,
      record {
        tables_are = o.tables;
        held = held_ones g limit c.args.head _ _ _ _ o c.args.marks.now c.requires.2 _ c.fill.ensures _ _ (search rules) (c.joined.ensures g o.operators o.rides o.degrees) (search rules) c.bytes.ensures;
      },
    )

pub returns : goal.returns
returns c = λ g o. let limit = limit_of c.args.limits.now in
    let f = c.fill.ensures in
    let e = c.settle.ensures g limit (record {
      tables_are = o.tables;
      held = held_ones g limit c.args.head _ _ _ _ o c.args.marks.now c.requires.2 _ f _ _ (search rules) (c.joined.ensures g o.operators o.rides o.degrees) (search rules) c.bytes.ensures;
    }) in
    covered g limit c.args.head _ _ _ _ o c.args.marks.now c.requires.2 _ f _ e.0 e.1 (omega arith)
