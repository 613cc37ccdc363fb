-- The text from a row of levels is the text of the cover.
use mathlib.Core.Path.{◌≡◌, sym, ap, ap₂, ◌∙◌}
use mathlib.Core.Bool.{true, false}
use mathlib.Core.List.{List}
use Prim.Native.Nat.{ℕ, ◌≤◌, ◌<◌}
use native.Mathlib.Nat.{zero-add}
use native.Mathlib.Omega.{arith}
use lib.ListN.{length, get_or}
use lib.Seq.{ext_get_or, length-sets}
use Rattle.model.specs.declared.Head.{Head}
use Rattle.model.specs.Count.{values}
use Rattle.model.specs.Graph.{Graph, nodes, limits, marked, cover, level, row_for, in_by_level, row}
use Rattle.model.specs.Layout.{over, graph}
use Rattle.model.specs.Refusal.{refused_5, first_number}
use Rattle.model.proofs.Count.{length_values, getD_values}
use Rattle.model.proofs.Level.{level_high, level_laws}
use Rattle.cover_text.specs.Text.{refusal_line, report_text}
use Rattle.cover_text.specs.Write.{Wrote}
use Rattle.cover_text.proofs.Write.{sets_over}
use Rattle.index_members.specs.Members.{level_at}
use Rattle.cover_lines.proofs.Lines.{report_ext}
use Rattle.cover_report.specs.Program.{cover_lines, cover_text, Reported}
use Rattle.cover_report.specs.Sizes.{table_text}

-- ---- the text from row α of a pair table

-- for α above rides the levels are 0
pub row_above : (g : Graph) (α : ℕ) → g.rides < α → (l : List ℕ) → length l ≡ nodes g → ((k : ℕ) → get_or l k 0 ≡ 0) → l ≡ row g α
unfolding row
row_above g α high l long zeros =
    ext_get_or 0 l (values (nodes g) (level g α)) (omega (arith, length_values (level g α) (nodes g)))
    (λ i h. zeros i ∙ sym (level_high g α i high (omega arith)) ∙ sym (getD_values (level g α) (nodes g) i 0 (omega arith)))

module _ (h : Head) (operators rides : List ℕ) (α β : ℕ) (levels : List ℕ) (e : levels ≡ row (graph h operators rides) (row_for α)) where
  abbrev g : Graph
  g = graph h operators rides

  level_row : (x : ℕ) → x < nodes g → level_at levels 0 x ≡ level g (row_for α) x
  unfolding row
  level_row x l =
      ap₂ (λ (s : List ℕ) (k : ℕ). get_or s k 0) e (zero-add x) ∙ getD_values (level g (row_for α)) (nodes g) x 0 l

  pub report_row : report_text α β h.operators h.rides (λ x. in_by_level (limits h.operators α β x) β (level_at levels 0 x)) (level_at levels 0) ≡ cover_lines h operators rides α β
  unfolding cover_lines
  report_row =
      report_ext α β h.operators h.rides
      (λ x. in_by_level (limits h.operators α β x) β (level_at levels 0 x))
      (marked (cover g α β))
      (level_at levels 0)
      (level g (row_for α))
      (λ x l. ap (in_by_level (limits h.operators α β x) β) (level_row x l) ∙ sym (level_laws.from_zero g α β x l))
      level_row

-- ---- the answer for a pair table

module _ (h : Head) (operators rides : List ℕ) (α β : ℕ) where
  pub table_5 : refused_5 h operators rides ≡ true → refusal_line 5 ≡ table_text h operators rides α β
  unfolding first_number
  table_5 e = rw (e, first_number)

  pub table_cover : refused_5 h operators rides ≡ false → cover_lines h operators rides α β ≡ table_text h operators rides α β
  unfolding first_number
  table_cover e = rw (e, first_number)

-- ---- the whole output

pub reported : {old new text : List ℕ} {r : ℕ} (input : List ℕ) → 5490 ≤ length old → text ≡ cover_text input → Wrote old 0 text 5490 new r → Reported input old new r
reported {old} {new} {text} {r} input h e w =
    record {
      size = w.stops ∙ zero-add (length text) ∙ ap length e;
      text = w.bytes ∙ sets_over old text (omega (arith, w.stops, w.short)) ∙ ap (λ (x : List ℕ). over x old) e;
      fits = omega (arith, w.short, ap length w.bytes, length-sets old 0 text);
    }
