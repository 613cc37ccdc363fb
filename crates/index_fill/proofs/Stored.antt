-- Rows stored one after the other make up the index, and their differing words add up.
use mathlib.Core.Path.{◌≡◌, sym, ap, ap₂, ◌∙◌}
use mathlib.Core.Bool.{not}
use mathlib.Core.List.{List, ◌++◌, append_assoc}
use Prim.Native.Nat.{ℕ, suc, ◌+◌, ◌-◌, ◌*◌, ◌≤◌, ◌<◌}
use native.Mathlib.Omega.{arith}
use native.Mathlib.Numerals.{add-one}
use native.Mathlib.Nat.{mul-le-mul_right}
use lib.Dec.{eqb}
use lib.ListN.{get_or, take, drop}
use lib.Seq.{take_at, drop_at, drop-drop, get_or-drop, get_or-take}
use Rattle.model.specs.Count.{count, values, rows}
use Rattle.model.specs.Graph.{Graph, nodes, level, index_of}
use Rattle.model.specs.Layout.{over, differing}
use Rattle.model.proofs.Count.{count_ext, getD_values, length_rows, get_d_rows}
use Rattle.model.proofs.Differ.{differing_append}

module _ (w m : ℕ) (f : ℕ → ℕ → ℕ) (index₀ : List ℕ) (a : ℕ) (h : a < m) (index : List ℕ) (upto : index ≡ rows a w f ++ drop (a * w) index₀) where
  front : take (a * w) index ≡ rows a w f
  front = ap (take (a * w)) upto ∙ take_at (rows a w f) (drop (a * w) index₀) (a * w) (length_rows w f a)

  back : drop (a * w) index ≡ drop (a * w) index₀
  back = ap (drop (a * w)) upto ∙ drop_at (rows a w f) (drop (a * w) index₀) (a * w) (length_rows w f a)

  rest : drop (a * w + w - a * w) (drop (a * w) index) ≡ drop ((a + 1) * w) index₀
  rest =
      ap₂ (λ (k : ℕ) (l : List ℕ). drop k l) (let e : a * w + w - a * w ≡ w = omega arith in e) back ∙
      drop-drop w (a * w) index₀ ∙
      ap (λ (k : ℕ). drop k index₀) (let e : a * w + w ≡ (a + 1) * w = omega arith in e)

  pub rows_more : rows (a + 1) w f ≡ rows a w f ++ values w (f a)
  unfolding rows
  rows_more = ap (λ (k : ℕ). rows k w f) (add-one a)

  pub stored_row : (row : List ℕ) → row ≡ values w (f a) → take (a * w) index ++ (row ++ drop (a * w + w - a * w) (drop (a * w) index)) ≡ rows (a + 1) w f ++ drop ((a + 1) * w) index₀
  stored_row row e =
      ap₂ (λ (x y : List ℕ). x ++ y) front (ap₂ (λ (x y : List ℕ). x ++ y) e rest) ∙
      sym (append_assoc (rows a w f) (values w (f a)) (drop ((a + 1) * w) index₀)) ∙
      ap (λ (x : List ℕ). x ++ drop ((a + 1) * w) index₀) (sym rows_more)

  pub differing_row : (row : List ℕ) → row ≡ values w (f a) → differing (a * w) index₀ (rows m w f) + differing w (take (a * w + w - a * w) (drop (a * w) index)) row ≡ differing ((a + 1) * w) index₀ (rows m w f)
  unfolding differing
  differing_row row e =
      ap (λ (k : ℕ). differing (a * w) index₀ (rows m w f) + k) same ∙ sym (differing_append index₀ (rows m w f) (a * w) w) ∙ ap (λ (k : ℕ). differing k index₀ (rows m w f)) (let q : a * w + w ≡ (a + 1) * w = omega arith in q)
    where
      same : differing w (take (a * w + w - a * w) (drop (a * w) index)) row ≡ count w (λ j. not (eqb (get_or index₀ (a * w + j) 0) (get_or (rows m w f) (a * w + j) 0)))
      same =
          count_ext (λ (j : ℕ). not (eqb (get_or (take (a * w + w - a * w) (drop (a * w) index)) j 0) (get_or row j 0))) (λ (j : ℕ). not (eqb (get_or index₀ (a * w + j) 0) (get_or (rows m w f) (a * w + j) 0))) w
          (λ j l. ap₂ (λ (x y : ℕ). not (eqb x y)) (get_or-take (a * w + w - a * w) (drop (a * w) index) j 0 (omega arith) ∙ ap (λ (z : List ℕ). get_or z j 0) back ∙ get_or-drop (a * w) index₀ j 0) (ap (λ (z : List ℕ). get_or z j 0) e ∙ getD_values (f a) w j 0 l ∙ sym (get_d_rows w f m a j 0 h l)))

-- no rows yet, and all rows
pub no_rows : (w : ℕ) (f : ℕ → ℕ → ℕ) (index : List ℕ) → index ≡ rows 0 w f ++ drop (0 * w) index
unfolding rows
no_rows w f index = ap (λ (k : ℕ). drop k index) (let e : 0 ≡ 0 * w = omega arith in e)

pub all_rows : (w m : ℕ) (f : ℕ → ℕ → ℕ) (index : List ℕ) → rows m w f ++ drop (m * w) index ≡ over (rows m w f) index
all_rows w m f index = ap (λ (k : ℕ). rows m w f ++ drop k index) (sym (length_rows w f m))

-- the rows of a clearance graph are its index
module _ (g : Graph) (w a : ℕ) (wide : w ≡ nodes g) (all : a ≡ g.rides) (index₀ : List ℕ) where
  abbrev f : ℕ → ℕ → ℕ
  f b x = level g (suc b) x

  pub index_done : (index : List ℕ) → index ≡ rows a w f ++ drop (a * w) index₀ → index ≡ over (index_of g) index₀
  unfolding index_of
  index_done index e = e ∙ ap₂ (λ (k j : ℕ). rows k j f ++ drop (k * j) index₀) all wide ∙ all_rows (nodes g) g.rides f index₀

  pub differ_done : (differ : ℕ) → differ ≡ differing (a * w) index₀ (rows g.rides w f) → differ ≡ differing (g.rides * nodes g) index₀ (index_of g)
  unfolding index_of
  differ_done differ e = e ∙ ap₂ (λ (k j : ℕ). differing (k * j) index₀ (rows g.rides j f)) all wide

-- an index has at most 15,600 words
pub index_small : (m w : ℕ) → m ≤ 60 → w ≤ 260 → m * w ≤ 15600
index_small m w h l = omega (arith, mul-le-mul_right w h)
