-- `cover_report::answer_input` meets its contract.
-- the words that were copied, lent as a part of the array
use mathlib.Core.Path.{◌≡◌, ap, ◌∙◌}
use mathlib.Core.List.{List}
use Prim.Native.Nat.{ℕ, ◌+◌, ◌-◌}
use native.Mathlib.Omega.{arith}
use lib.ListN.{length, take, drop}
use lib.Seq.{take_at}
use Rattle.model.specs.Layout.{over}
use Rattle.model.proofs.Count.{length_values}
use Rattle.cover_input.specs.Input.{word, words_from}
use Rattle.cover_report.proofs.Sizes.{pairs_fit}
use Rattle.cover_text.proofs.Write.{wrote_text}
use Rattle.cover_report.proofs.answer_input.Goals as goal

part : (input : List ℕ) (start n : ℕ) (old new : List ℕ) → new ≡ over (words_from input start n) old → take (n - 0) (drop 0 new) ≡ words_from input start n
part input start n old new e =
    ap (λ (x : List ℕ). take (n - 0) x) e ∙
    take_at (words_from input start n) _ (n - 0) (let l : length (words_from input start n) ≡ n - 0 = omega (arith, length_values (λ i. word input (start + i)) n) in l)

pub copy_words-requires : goal.copy_words-requires
copy_words-requires c =
    omega (arith, pairs_fit _ c.requires.0)

pub copy_words-requires-2 : goal.copy_words-requires-2
copy_words-requires-2 c =
    omega (arith, pairs_fit _ c.requires.0)

pub slice_bounds-answer_table-end : goal.slice_bounds-answer_table-end
slice_bounds-answer_table-end c =
    omega (arith, pairs_fit _ c.requires.0, c.copy_words.auto.to)

pub slice_bounds-answer_table-end-2 : goal.slice_bounds-answer_table-end-2
slice_bounds-answer_table-end-2 c =
    omega (arith, pairs_fit _ c.requires.0, c.copy_words-2.auto.to)

pub returns : goal.returns
returns c =
    let a = c.args in
    let input = a.input.now in
    let n = a.head.pairs in
    wrote_text
    (rw (
      part input 3 n _ _ c.copy_words.ensures,
      part input (3 + n) n _ _ c.copy_words-2.ensures,
      c.word_at-alpha.ensures,
      c.word_at-beta.ensures,
    ))
    c.answer_table.ensures
