-- `cover_report::answer_table` meets its contract.
use mathlib.Core.Path.{◌≡◌, sym, subst, ◌∙◌}
use mathlib.Core.Bool.{Bool, true, false, not}
use mathlib.Core.List.{List}
use Prim.Native.Nat.{ℕ, ◌+◌, min}
use native.Mathlib.Omega.{arith}
use native.Mathlib.Decide.{dec_lt}
use lib.Dec.{T}
use lib.ListN.{get_or, take, replicate, length-take, get_or-eq_default}
use lib.Seq.{get_or-take}
use borrow.Author.Tests.{not-true, not-false}
use Rattle.model.specs.Refusal.{refused_5}
use Rattle.model.proofs.Store.{getD_zeros}
use Rattle.cover_report.proofs.Report.{table_5, table_cover}
use Rattle.cover_text.proofs.Write.{wrote_text, wrote_most}
use Rattle.cover_report.proofs.answer_table.Goals as goal

-- what the test of the pair arrays says of number 5
module _ (refused up : Bool) (e : up ≡ not refused) where
  refuses : up ≡ false → refused ≡ true
  refuses t = not-false refused (sym e ∙ t)

  accepts : up ≡ true → refused ≡ false
  accepts t = not-true refused (sym e ∙ t)

-- the first places of a list of zeros
take_zeros : (n : ℕ) (l : List ℕ) → ((k : ℕ) → get_or l k 0 ≡ 0) → (k : ℕ) → get_or (take n l) k 0 ≡ 0
take_zeros n l z k =
    elim (dec_lt k n) [
      | yes h ↦ get_or-take n l k 0 h ∙ z k
      | no h ↦ get_or-eq_default (take n l) 0 (omega (arith, length-take n l))
    ]

pub returns-then-not-ascending : goal.returns-then-not-ascending
returns-then-not-ascending c =
    let a = c.args in
    wrote_most 5490 (omega arith)
    (wrote_text
    (table_5 a.head a.operators.now a.rides.now a.alpha a.beta (refuses _ _ c.ascending.ensures c.if-not-ascending.true))
    c.put_refusal.ensures)

pub invariant_of-table : goal.invariant_of-table
invariant_of-table c =
    let a = c.args in
    record {
      accepted = record {
        few_operators = c.requires.0.few_operators;
        few_rides = c.requires.0.few_rides;
        operators_long = omega arith;
        rides_long = omega arith;
        ordered = subst T (accepts (refused_5 a.head a.operators.now a.rides.now) _ c.ascending.ensures c.if-not-ascending.false);
      };
    }

pub put_lines-requires : goal.put_lines-requires
put_lines-requires c =
    let a = c.args in
    let nodes = a.head.operators + a.head.rides in record {
      row = length-take nodes (replicate 260 0) ∙ (let e : min nodes 260 ≡ a.head.operators + a.head.rides = omega arith in e);
      zeros = take_zeros nodes (replicate 260 0) (getD_zeros 260);
    }

pub returns : goal.returns
returns c =
    let a = c.args in
    wrote_text
    (table_cover a.head a.operators.now a.rides.now a.alpha a.beta (accepts _ _ c.ascending.ensures c.if-not-ascending.false))
    c.put_lines.ensures
