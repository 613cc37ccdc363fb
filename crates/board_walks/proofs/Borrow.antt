-- Slices that are borrowed again for a call, any number of them in one step, over a function's locals as one entry (`Frame.antt`).
--     vars             the operands of a call, each a whole local, are read
--     knows            what local k holds is a value of its type
--     land_as          a call's result is stored, written as an equal value
--     spans s p τs     slices of the element types τs, in the locals from s on; the two locals of each one's new reference are those from p on
--     reborrows        the code that borrows each of them again has run: the new reference is the slice's value
-- Assumes `Logic`.
use mathlib.Core.Path.{◌≡◌, refl, sym, ap, subst}
use Prim.Native.Nat.{ℕ, zero, suc}
use mathlib.Core.Bool.{Bool, true, false, ◌&&◌}
use mathlib.Core.Option.{Option, none, some}
use mathlib.Core.List.{List, [], ◌∷◌}
use lib.Dec.{T}
use seplogic.Ra.Ura.{Ura}
use base.Fraction.{full_share}
use mir.Syntax.{Ty, ty_unit, Place, place, deref, field, Step as PStep, Opd as Operand, copy, int, int_neg, int_big, float, opd_true, opd_false, opd_unit, ptr_const, size_of, align_of, num_of, fn_addr, vtable, Body, seq, assign, addr_of, aggregate}
use mir.Val.{Val, vunit, vbool, vint, vfloat, vptr, vstruct, vcode, vnil, vcons, WT, has_ty}
use mir.Facts.{and_yes}
use base.Logic.{SProp, wand, all, all_e, apply∗}
use base.Fml.{fat}
use prog.Memory.{field_of}
use prog.Wp.{Env, Spot, spot_of, Calls, Loops}
use types.Logic.{Logic}
use types.Kit.{Item, ‵, raw, given, ◌⊛◌, mean, nth, Post, Goal, runs, lands, Seq, Step, step, ◌$◌, use1, use2, split, move, learn}
use types.Run.{Writes, Finds, land, Opd, Opds, stop, hop, fld, from, load, addr, and_then, no_more, assigns}
use types.Part.{Part, sub, look_in, agg}
use denote.Slice.{slice_val, slice_ty}
use Rattle.board_walks.proofs.Frame.{Here, here, get, set, locals, at_local, lets}

-- ---- what a local holds, where it is known to hold a value
abbrev known : Option Val → Bool
known none = false
known (some v) = true

-- the value
abbrev value : Option Val → Val
value none = vunit
value (some v) = v

-- a local that holds a value holds that one
known_value : (m : Option Val) → T (known m) → m ≡ some (value m)
known_value none g = absurd g
known_value (some v) g = refl

-- ---- operands that are whole locals
abbrev whole_local : List PStep → Bool
whole_local [] = true
whole_local (s ∷ st) = false

-- the operand is a whole local that holds a value
abbrev pub reads : Operand → List (Ty × ℕ) → List (Option Val) → Bool
reads (copy (place k st)) E ms = whole_local st && (here k E && known (get k ms))
reads (int w n) E ms = false
reads (int_neg w n) E ms = false
reads (int_big w n) E ms = false
reads (float f n) E ms = false
reads opd_true E ms = false
reads opd_false E ms = false
reads opd_unit E ms = false
reads (ptr_const n) E ms = false
reads (size_of τ) E ms = false
reads (align_of τ) E ms = false
reads (num_of w τ) E ms = false
reads (fn_addr f g) E ms = false
reads (vtable τ ss) E ms = false

-- what it reads
abbrev pub val_of : Operand → List (Option Val) → Val
val_of (copy (place k st)) ms = value (get k ms)
val_of (int w n) ms = vunit
val_of (int_neg w n) ms = vunit
val_of (int_big w n) ms = vunit
val_of (float f n) ms = vunit
val_of opd_true ms = vunit
val_of opd_false ms = vunit
val_of opd_unit ms = vunit
val_of (ptr_const n) ms = vunit
val_of (size_of τ) ms = vunit
val_of (align_of τ) ms = vunit
val_of (num_of w τ) ms = vunit
val_of (fn_addr f g) ms = vunit
val_of (vtable τ ss) ms = vunit

-- the same of a list of operands
abbrev pub all_read : List Operand → List (Ty × ℕ) → List (Option Val) → Bool
all_read [] E ms = true
all_read (x ∷ xs) E ms = reads x E ms && all_read xs E ms

-- what they read
abbrev pub vals_of : List Operand → List (Option Val) → List Val
vals_of [] ms = []
vals_of (x ∷ xs) ms = val_of x ms ∷ vals_of xs ms

-- ---- a slice that is borrowed again: the slice's local, the two new locals, and the element's type
pub record Span : Type 0 where
  pub old : ℕ
  pub ptr : ℕ
  pub new : ℕ
  pub elem : Ty

-- slices in the locals from s on, borrowed into the locals from p on, two for each
abbrev pub spans : ℕ → ℕ → List Ty → List Span
spans s p [] = []
spans s p (τ ∷ τs) = record { old = s; ptr = p; new = suc p; elem = τ } ∷ spans (suc s) (suc (suc p)) τs

-- its code
abbrev pub borrow : Span → Body → Body
borrow j rest =
    seq (assign (place j.ptr []) (addr_of (place j.old (field 0 ∷ deref j.elem ∷ []))))
    (seq (assign (place j.new []) (aggregate (copy (place j.ptr []) ∷ copy (place j.old (field 1 ∷ [])) ∷ []))) rest)

-- the code of all of them, and then the rest
abbrev pub borrows : List Span → Body → Body
borrows [] rest = rest
borrows (j ∷ js) rest = borrow j (borrows js rest)

-- the pointer and the count in a slice's value
abbrev parts : Val → Val × Val
parts vunit = (vunit, vunit)
parts (vbool b) = (vunit, vunit)
parts (vint w n) = (vunit, vunit)
parts (vfloat f x) = (vunit, vunit)
parts (vptr b o) = (vunit, vunit)
parts (vstruct vnil) = (vunit, vunit)
parts (vstruct (vcons v vnil)) = (v, vunit)
parts (vstruct (vcons v (vcons u vs))) = (v, u)
parts (vcode f) = (vunit, vunit)

-- a pointer's block and offset
abbrev block_of : Val → ℕ × ℕ
block_of vunit = (0, 0)
block_of (vbool b) = (0, 0)
block_of (vint w n) = (0, 0)
block_of (vfloat f x) = (0, 0)
block_of (vptr b o) = (b, o)
block_of (vstruct vs) = (0, 0)
block_of (vcode f) = (0, 0)

-- a number
abbrev count_of : Val → ℕ
count_of vunit = 0
count_of (vbool b) = 0
count_of (vint w n) = n
count_of (vfloat f x) = 0
count_of (vptr b o) = 0
count_of (vstruct vs) = 0
count_of (vcode f) = 0

-- a slice's value, put together of its parts
abbrev slice_at : Val → Val
slice_at v = slice_val (block_of (parts v).0) (count_of (parts v).1)

-- its pointer
abbrev pointer_at : Val → Val
pointer_at v = vptr (block_of (parts v).0).0 (block_of (parts v).0).1

-- the type of a struct's first field
abbrev first_type : Option (Ty × ℕ) → Ty
first_type none = ty_unit
first_type (some f) = f.0

-- what the locals hold after it
abbrev midway : Span → List (Option Val) → List (Option Val)
midway j ms = set j.ptr (pointer_at (value (get j.old ms))) ms

-- what the locals hold once the slice is borrowed again
abbrev pub borrowed : Span → List (Option Val) → List (Option Val)
borrowed j ms = set j.new (slice_at (value (get j.old ms))) (midway j ms)

-- once all are
abbrev pub all_borrowed : List Span → List (Option Val) → List (Option Val)
all_borrowed [] ms = ms
all_borrowed (j ∷ js) ms = all_borrowed js (borrowed j ms)

-- what is seen of the locals, and what is to be seen: equal by computation where the slice's local holds a slice
pub record Seen : Type 0 where
  pub before : Option Val
  pub type : Ty
  pub between : Option Val
  pub pointer : Option Val
  pub fine : Bool

module _ (E : List (Ty × ℕ)) (type_at : ℕ → Ty) where
  -- what is seen
  abbrev pub seen : Span → List (Option Val) → Seen
  seen j ms = record {
    before = get j.old ms;
    type = type_at j.old;
    between = get j.old (midway j ms);
    pointer = get j.ptr (midway j ms);
    fine = here j.old E && (here j.ptr E && (here j.new E && (has_ty (type_at j.ptr) (pointer_at (value (get j.old ms))) && has_ty (type_at j.new) (slice_at (value (get j.old ms))))));
  }

  -- what is to be seen
  abbrev pub due : Span → List (Option Val) → Seen
  due j ms = record {
    before = some (slice_at (value (get j.old ms)));
    type = slice_ty (first_type (field_of (type_at j.old) 0));
    between = some (slice_at (value (get j.old ms)));
    pointer = some (pointer_at (value (get j.old ms)));
    fine = true;
  }

  -- what is seen, slice by slice
  abbrev pub all_seen : List Span → List (Option Val) → List Seen
  all_seen [] ms = []
  all_seen (j ∷ js) ms = seen j ms ∷ all_seen js (borrowed j ms)

  -- what is to be seen, slice by slice
  abbrev pub all_due : List Span → List (Option Val) → List Seen
  all_due [] ms = []
  all_due (j ∷ js) ms = due j ms ∷ all_due js (borrowed j ms)

-- five tests that hold together hold each
five : (a b c d e : Bool) → T (a && (b && (c && (d && e)))) → T a × (T b × (T c × (T d × T e)))
five a b c d e t =
    let t₁ : T a × T (b && (c && (d && e))) = and_yes a (b && (c && (d && e))) t in
    let t₂ : T b × T (c && (d && e)) = and_yes b (c && (d && e)) t₁.1 in
    let t₃ : T c × T (d && e) = and_yes c (d && e) t₂.1 in
    (t₁.0, (t₂.0, (t₃.0, and_yes d e t₃.1)))

-- the first of a list
abbrev first_of : Seen → List Seen → Seen
first_of d [] = d
first_of d (x ∷ xs) = x

-- the others
abbrev rest_of : List Seen → List Seen
rest_of [] = []
rest_of (x ∷ xs) = xs

module _ {M : Type 1} {𝓤 : Ura M} {𝓛 : Logic 𝓤} {K : Type 0} {Γ : List (Item 𝓤)} where
  -- whole locals are read, with the frame at entry n
  open 𝓛 use {H}

  var : K → (n : ℕ) {E : Env 𝓤 H} {ms : List (Option Val)} → nth 𝓛 n Γ ≡ locals 𝓤 H E ms → (x : Operand) → T (reads x E ms) → Opd K 𝓛 Γ E x (val_of x ms)
  var t n {E} {ms} e (copy (place k [])) g =
      load t (from t (stop t)) (look_in t n (subst (λ (i : Item 𝓤). Part K 𝓛 i full_share (spot_of 𝓤 H E k).0 (spot_of 𝓤 H E k).1 zero (value (get k ms)) (λ u. locals 𝓤 H E (set k u ms))) (sym e)
      (at_local t k (and_yes (here k E) (known (get k ms)) g).0 (known_value (get k ms) (and_yes (here k E) (known (get k ms)) g).1))))
  var t n e (copy (place k (s ∷ st))) g = absurd g
  var t n e (int w m) g = absurd g
  var t n e (int_neg w m) g = absurd g
  var t n e (int_big w m) g = absurd g
  var t n e (float f m) g = absurd g
  var t n e opd_true g = absurd g
  var t n e opd_false g = absurd g
  var t n e opd_unit g = absurd g
  var t n e (ptr_const m) g = absurd g
  var t n e (size_of τ) g = absurd g
  var t n e (align_of τ) g = absurd g
  var t n e (num_of w τ) g = absurd g
  var t n e (fn_addr f h) g = absurd g
  var t n e (vtable τ ss) g = absurd g

  -- all operands of a list are read
  all_vars : K → (n : ℕ) {E : Env 𝓤 H} {ms : List (Option Val)} → nth 𝓛 n Γ ≡ locals 𝓤 H E ms → (xs : List Operand) → T (all_read xs E ms) → Opds K 𝓛 Γ E xs (vals_of xs ms)
  all_vars t n e [] g = no_more t
  all_vars t n {E} {ms} e (x ∷ xs) g = and_then t (var t n e x (and_yes (reads x E ms) (all_read xs E ms) g).0) (all_vars t n e xs (and_yes (reads x E ms) (all_read xs E ms) g).1)

  -- the same, with the operands read off the goal
  pub vars : K → (n : ℕ) {E : Env 𝓤 H} {ms : List (Option Val)} {xs : List Operand} → nth 𝓛 n Γ ≡ locals 𝓤 H E ms → T (all_read xs E ms) → Opds K 𝓛 Γ E xs (vals_of xs ms)
  vars t n {xs = xs} e g = all_vars t n e xs g

  -- what local k holds is a value of its type
  pub knows : K → {E : Env 𝓤 H} {ms : List (Option Val)} {G : Goal 𝓤 H} (k : ℕ) → Here k E → {v : Val} → get k ms ≡ some v
      → (T (has_ty (spot_of 𝓤 H E k).0 v) × WT v → Seq K 𝓛 (locals 𝓤 H E ms ∷ Γ) G) → Seq K 𝓛 (locals 𝓤 H E ms ∷ Γ) G
  knows t {E} {ms} {G} k ok {v} e f =
      use1 𝓛 (‵ (fat full_share τ b zero v) ⊛ raw Way) (at_local {𝓛 = 𝓛} t k ok e).out $ split t $ use1 𝓛 (given (T (has_ty τ v) × WT v) (‵ (fat full_share τ b zero v))) (𝓛.laws.at_wt full_share τ b zero v) $
      learn t (λ wt. move t (1 ∷ []) $ use1 𝓛 (raw (wand 𝓤 (H.at full_share τ b zero v) (mean 𝓛 (locals 𝓤 H E (set k v ms))))) (all_e 𝓤 (λ (u : Val). wand 𝓤 (H.at full_share τ b zero u) (mean 𝓛 (locals 𝓤 H E (set k u ms)))) v) $
      move t (1 ∷ 0 ∷ []) $ use2 𝓛 (locals 𝓤 H E (set k v ms)) (apply∗ 𝓤 (H.at full_share τ b zero v) (mean 𝓛 (locals 𝓤 H E (set k v ms)))) $
      subst (λ (i : Item 𝓤). Seq K 𝓛 (i ∷ Γ) G) (sym (at_local {𝓛 = 𝓛} t k ok e).same) (f wt))
    where
      τ : Ty
      τ = (spot_of 𝓤 H E k).0

      b : ℕ
      b = (spot_of 𝓤 H E k).1

      Way : SProp 𝓤
      Way = all 𝓤 (λ (u : Val). wand 𝓤 (H.at full_share τ b zero u) (mean 𝓛 (locals 𝓤 H E (set k u ms))))

  -- a call's result v is stored, written as u
  pub land_as : K → {C : Calls 𝓤 H} {Λ : Loops 𝓤 H} {E : Env 𝓤 H} {q : Post 𝓤 H} {d : Place} {rest : Body} {u v : Val} {sp : Spot 𝓤 H} {Γ' : List (Item 𝓤)} → v ≡ u
      → Finds K 𝓛 Γ E d sp → Writes K 𝓛 Γ sp.0 sp.1 sp.2 u Γ' → Step K 𝓛 Γ' (runs C Λ E rest q) Γ (lands C Λ E d v rest q)
  land_as t {C} {Λ} {E} {q} {d} {rest} e f w = step (λ s. subst (λ (z : Val). Seq K 𝓛 Γ (lands C Λ E d z rest q)) (sym e) (land t f w $ s))

  module _ {C : Calls 𝓤 H} {Λ : Loops 𝓤 H} {E : Env 𝓤 H} {q : Post 𝓤 H} where
    -- one slice is borrowed again
    one : K → (j : Span) (ms : List (Option Val)) (rest : Body) → seen E (λ k. (spot_of 𝓤 H E k).0) j ms ≡ due E (λ k. (spot_of 𝓤 H E k).0) j ms
        → Seq K 𝓛 (locals 𝓤 H E (borrowed j ms) ∷ Γ) (runs C Λ E rest q) → Seq K 𝓛 (locals 𝓤 H E ms ∷ Γ) (runs C Λ E (borrow j rest) q)
    one t j ms rest e s =
        knows t j.old oks.0 before_is (λ wt.
        assigns t (addr t (from t (fld t (ap (λ (τ : Ty). field_of τ 0) type_is) (hop t (look_in t 0 (sub t 0 refl (slice_part ms before_is))) (stop t))))) (from t (stop t)) (lets t 0 j.ptr refl oks.1.0 (oks.1.1.1.0, tt)) $
        assigns t (agg t (and_then t (load t (from t (stop t)) (look_in t 0 (at_local t j.ptr oks.1.0 (ap (λ (x : Seen). x.pointer) e))))
        (and_then t (load t (from t (fld t (ap (λ (τ : Ty). field_of τ 1) type_is) (stop t))) (look_in t 0 (sub t 1 refl (slice_part (midway j ms) (ap (λ (x : Seen). x.between) e))))) (no_more t))))
        (from t (stop t)) (lets t 0 j.new refl oks.1.1.0 (oks.1.1.1.1, wt.1)) $ s)
      where
        ty : ℕ → Ty
        ty k = (spot_of 𝓤 H E k).0

        v : Val
        v = value (get j.old ms)

        before_is : get j.old ms ≡ some (slice_at v)
        before_is = ap (λ (x : Seen). x.before) e

        type_is : ty j.old ≡ slice_ty (first_type (field_of (ty j.old) 0))
        type_is = ap (λ (x : Seen). x.type) e

        all_fine : T (here j.old E && (here j.ptr E && (here j.new E && (has_ty (ty j.ptr) (pointer_at v) && has_ty (ty j.new) (slice_at v)))))
        all_fine = subst T (sym (ap (λ (x : Seen). x.fine) e)) tt

        oks : T (here j.old E) × (T (here j.ptr E) × (T (here j.new E) × (T (has_ty (ty j.ptr) (pointer_at v)) × T (has_ty (ty j.new) (slice_at v)))))
        oks = five (here j.old E) (here j.ptr E) (here j.new E) (has_ty (ty j.ptr) (pointer_at v)) (has_ty (ty j.new) (slice_at v)) all_fine

        slice_part : (ns : List (Option Val)) → get j.old ns ≡ some (slice_at v)
            → Part K 𝓛 (locals 𝓤 H E ns) full_share (slice_ty (first_type (field_of (ty j.old) 0))) (spot_of 𝓤 H E j.old).1 zero (slice_at v) (λ u. locals 𝓤 H E (set j.old u ns))
        slice_part ns g = subst (λ (τ : Ty). Part K 𝓛 (locals 𝓤 H E ns) full_share τ (spot_of 𝓤 H E j.old).1 zero (slice_at v) (λ u. locals 𝓤 H E (set j.old u ns))) type_is (at_local t j.old oks.0 g)

    -- all are, one after the other
    all_one : K → (js : List Span) (ms : List (Option Val)) (rest : Body) → all_seen E (λ k. (spot_of 𝓤 H E k).0) js ms ≡ all_due E (λ k. (spot_of 𝓤 H E k).0) js ms
        → Seq K 𝓛 (locals 𝓤 H E (all_borrowed js ms) ∷ Γ) (runs C Λ E rest q) → Seq K 𝓛 (locals 𝓤 H E ms ∷ Γ) (runs C Λ E (borrows js rest) q)
    all_one t [] ms rest e s = s
    all_one t (j ∷ js) ms rest e s = one t j ms (borrows js rest) (ap (first_of (seen E (λ k. (spot_of 𝓤 H E k).0) j ms)) e) (all_one t js (borrowed j ms) rest (ap rest_of e) s)

-- the code that borrows the slices js again has run
pub reborrows : {M : Type 1} {𝓤 : Ura M} {K : Type 0} (𝓛 : Logic 𝓤) {Γ : List (Item 𝓤)} {C : Calls 𝓤 𝓛.H} {Λ : Loops 𝓤 𝓛.H} {E : Env 𝓤 𝓛.H} {q : Post 𝓤 𝓛.H} {ms : List (Option Val)} {rest : Body}
    → K → (js : List Span) → all_seen E (λ k. (spot_of 𝓤 𝓛.H E k).0) js ms ≡ all_due E (λ k. (spot_of 𝓤 𝓛.H E k).0) js ms
    → Step K 𝓛 (locals 𝓤 𝓛.H E (all_borrowed js ms) ∷ Γ) (runs C Λ E rest q) (locals 𝓤 𝓛.H E ms ∷ Γ) (runs C Λ E (borrows js rest) q)
reborrows 𝓛 {ms = ms} {rest} t js e = step (λ s. all_one t js ms rest e s)
