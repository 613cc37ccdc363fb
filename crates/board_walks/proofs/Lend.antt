-- A `&κ mut [T]` that is lent for one call and comes back: again as a `&mut`, or shared. Made for a walk in which several slices are lent for the same call; it says nothing of the crate.
--     Mine ys          the slice reference x at the list ys, owned at the machine values vs, with the token [κ]_q
--     under δ ys        the reference that is lent: x under the ghost name δ
--     Lent ν δ ys      what the holder keeps while x is lent for the lifetime ν under δ
--     Last δ ys zs     what a callee's `post` says of the last list of a slice that was passed to it
--     lends            Mine ys  ⊢ ⇛ ∃ ν δ. [ν] ∗ own (under δ ys) ∗ Lent ν δ ys
--     back             [ν] ∗ Lent ν δ ys ∗ Last δ ys zs  ⊢ ⇛ (length zs ≡ length ys) ∧ Mine zs
--     Shared ν ys      what the holder keeps while x is lent shared for the lifetime ν
--     shown ys         the `&[T]` that is lent: x, which has no ghost name then
--     shares           Mine ys ∗ [ts]  ⊢ ⇛ (∃ ν. [ν] ∗ own (shown ys) ∗ Shared ν ys) ∗ [ts]        where the tokens ts serve to share out an element (`Denote/Shares.antt`'s `Shares`)
--     shares_plain     Mine ys  ⊢ ⇛ ∃ ν. [ν] ∗ own (shown ys) ∗ Shared ν ys        of elements that need none, as those that hold no `&mut` (a number's law is in `Denote/Copied.antt`'s `uint_Copied`)
--     shared_back      [ν] ∗ Shared ν ys  ⊢ ⇛ Mine ys
-- Assumes `Logic`.
use mathlib.Core.Path.{◌≡◌, refl, sym, ◌∙◌, ap, subst}
use Prim.Native.Nat.{ℕ}
use mathlib.Core.List.{List, [], ◌∷◌}
use lib.ListN.{length}
use seplogic.Ra.Ura.{Ura}
use base.Fraction.{full_share}
use mir.Syntax.{named}
use mir.Val.{Val}
use base.Logic.{SProp, ent, sep, ex, ex_i, emp, guard, id⊢, via, fst∗, emp∗, comm∗}
use base.Fml.{Lft, GName, Share, Fml, Incl, Incl-refl, fsep, flft, fobs, fauth, flent, fobor, feq}
use contract.BorrowLft.{⊑_static, meet_⊑_left, meet_⊑_right}
use ghost.Rules.{Toks, span}
use types.Logic.{Logic, sem, lfts}
use types.Kit.{‵, raw, ◌⊛◌, some, later, ◌$◌, ◌∵◌, !, qed, move, keep, use0, use1, use2, use3, drop, split, join, pick, fsplit, fjoin, feq_l, feq_i, frame, rewrite, await, updating, check, now as at_once, show, done}
use types.SemTy.{cells, Arr}
use types.Share.{arr_parts}
use types.Tokens.{lft_new, lft_end, lent_back}
use denote.RattleType.{RattleType}
use denote.Shadow.{pure_l, pure_i}
use denote.Memory.{mem, shares as shares_of}
use denote.Ref.{Bor, MutBor, at_last}
use denote.Slice.{slice_val, MutSlice, ShrSlice, heres, Room, finally, mut_slice_at, coded_holeys}
use denote.Shares.{Shares as SharesLaw}
use denote.Lend.{Held, lends_slice, slice_back, lends_shr_slice}
use denote.Index.{row, whole_out, whole_in, opens_slice, closes_slice}

-- the tokens ts, and before them the whole token of a new lifetime
abbrev more : ℕ → Toks → Toks
more ν ts = (ν ∷ [], full_share) ∷ ts

-- together they reach the new lifetime
reach_new : (ν : ℕ) (ts : Toks) → Incl (span (more ν ts)) (ν ∷ [])
reach_new ν [] = Incl-refl (ν ∷ [])
reach_new ν (t ∷ ts) = meet_⊑_left (ν ∷ []) (span (t ∷ ts))

-- and all that ts reach
reach_old : (ν : ℕ) (ts : Toks) → Incl (span (more ν ts)) (span ts)
reach_old ν [] = ⊑_static (ν ∷ [])
reach_old ν (t ∷ ts) = meet_⊑_right (ν ∷ []) (span (t ∷ ts))

module _ {M : Type 1} {𝓤 : Ura M} (𝓛 : Logic 𝓤) where
  -- the new token is put to ts
  open 𝓛 use {A}

  more_in : (ν : ℕ) (ts : Toks) → ent 𝓤 (sep 𝓤 (A.lft (ν ∷ []) full_share) (lfts 𝓛 ts)) (lfts 𝓛 (more ν ts))
  more_in ν [] = fst∗ 𝓤 (A.lft (ν ∷ []) full_share) (emp 𝓤)
  more_in ν (t ∷ ts) = id⊢ 𝓤 (sep 𝓤 (A.lft (ν ∷ []) full_share) (lfts 𝓛 (t ∷ ts)))

  -- and taken out again
  more_out : (ν : ℕ) (ts : Toks) → ent 𝓤 (lfts 𝓛 (more ν ts)) (sep 𝓤 (A.lft (ν ∷ []) full_share) (lfts 𝓛 ts))
  more_out ν [] = via 𝓤 (sep 𝓤 (emp 𝓤) (A.lft (ν ∷ []) full_share)) (emp∗ 𝓤 (A.lft (ν ∷ []) full_share)) (comm∗ 𝓤 (emp 𝓤) (A.lft (ν ∷ []) full_share))
  more_out ν (t ∷ ts) = id⊢ 𝓤 (sep 𝓤 (A.lft (ν ∷ []) full_share) (lfts 𝓛 (t ∷ ts)))

module _ (R : RattleType) (κ : Lft) (q : Share) (x : MutBor (List R.Denot)) (vs : List Val) where
  abbrev X : Type 0
  X = List R.Denot

  abbrev pub Mine : X → Fml
  Mine ys = fsep ((MutSlice (named 0) κ R).own_val (at_last x ys) vs) (flft κ q)

  abbrev pub under : GName → X → MutBor X
  under δ ys = record { ref_ptr = x.ref_ptr; ghost_name = δ; now = ys }

  abbrev pub shown : X → Bor X
  shown ys = record { ref_ptr = x.ref_ptr; now = ys }

  abbrev pub Lent : ℕ → GName → X → Fml
  Lent ν δ ys =
      fsep (mut_slice_at R (at_last x ys) vs)
      (fsep (flent (ν ∷ []) (Held R (length ys) x.ref_ptr.0 x.ref_ptr.1 δ)) (fsep (fobor κ q (Held R (length ys) x.ref_ptr.0 x.ref_ptr.1 x.ghost_name)) (fsep (fobs x.ghost_name ((coded_holeys R).code (heres R ys))) (fauth x.ghost_name ((coded_holeys R).code (heres R ys))))))

  abbrev pub Shared : ℕ → X → Fml
  Shared ν ys =
      fsep (mut_slice_at R (at_last x ys) vs)
      (fsep (flent (ν ∷ []) ((arr_parts (shares_of R) (length ys)).part full_share ys x.ref_ptr.0 x.ref_ptr.1)) (fsep (fobor κ q (Held R (length ys) x.ref_ptr.0 x.ref_ptr.1 x.ghost_name)) (fsep (fobs x.ghost_name ((coded_holeys R).code (heres R ys))) (fauth x.ghost_name ((coded_holeys R).code (heres R ys))))))

  abbrev pub Last : GName → X → X → Fml
  Last δ ys zs = fsep (finally R δ zs) (feq ℕ (length zs) (length ys))

  module _ {M : Type 1} {𝓤 : Ura M} (𝓛 : Logic 𝓤) where
    open 𝓛 use {H, A}

    abbrev ⟦◌⟧ : Fml → SProp 𝓤
    ⟦ P ⟧ = sem 𝓛 P

    abbrev Split : X → ℕ → GName → SProp 𝓤
    Split ys ν δ = sep 𝓤 (A.lft (ν ∷ []) full_share) (sep 𝓤 ⟦ (MutSlice (named 0) (ν ∷ []) R).own_val (under δ ys) vs ⟧ ⟦ Lent ν δ ys ⟧)

    pub lends : (ys : X) → ent 𝓤 ⟦ Mine ys ⟧ (H.⇛ (ex 𝓤 (λ (ν : ℕ). ex 𝓤 (λ (δ : GName). Split ys ν δ))))
    lends ys =
        qed 𝓛 (‵ (Mine ys) ∷ []) ∵ updating ! $ lft_new ! tt (λ ν. move ! (1 ∷ []) $ fsplit ! $ fsplit ! $ pure_l ! (mut_slice_at R (at_last x ys) vs) (λ p. fsplit ! $ opens_slice ! tt R ys x.ref_ptr.0 x.ref_ptr.1 $
        use1 𝓛 (‵ (cells (mem R) ys x.ref_ptr.0 x.ref_ptr.1)) (whole_in 𝓛 R ys x.ref_ptr.0 x.ref_ptr.1) $
        use1 𝓛 (later (some (λ (δ : GName). ‵ ((MutSlice (named 0) (ν ∷ []) R).own_val (under δ ys) (slice_val x.ref_ptr (length ys) ∷ [])) ⊛ ‵ (flent (ν ∷ []) (Held R (length ys) x.ref_ptr.0 x.ref_ptr.1 δ))))) (lends_slice 𝓛 R (named 0) (ν ∷ []) ys x.ref_ptr.0 x.ref_ptr.1 p.1) $
        await ! tt $ pick ! (λ δ. split ! $ rewrite ! 0 (λ (us : List Val). ‵ ((MutSlice (named 0) (ν ∷ []) R).own_val (under δ ys) us)) (sym p.0) refl $
        -- [the new slice; the lender's part at ν; the open borrow at κ; obs; auth; the new token]
        at_once ! $ show ! (λ (ν' : ℕ). ex 𝓤 (λ (δ' : GName). Split ys ν' δ')) ν $ show ! (λ (δ' : GName). Split ys ν δ') δ $ move ! (5 ∷ []) $ frame ! $ frame ! $
        move ! (2 ∷ 3 ∷ []) $ fjoin ! $ move ! (2 ∷ 0 ∷ []) $ fjoin ! $ move ! (1 ∷ 0 ∷ []) $ fjoin ! $ pure_i ! (mut_slice_at R (at_last x ys) vs) (tt, (tt, tt)) p $ fjoin ! $ done !)))

    pub back : (ν : ℕ) (δ : GName) (ys zs : X) → ent 𝓤 (sep 𝓤 (A.lft (ν ∷ []) full_share) (sep 𝓤 ⟦ Lent ν δ ys ⟧ ⟦ Last δ ys zs ⟧)) (H.⇛ (guard 𝓤 (length zs ≡ length ys) ⟦ Mine zs ⟧))
    back ν δ ys zs =
        qed 𝓛 (‵ (flft (ν ∷ []) full_share) ∷ ‵ (Lent ν δ ys) ∷ ‵ (Last δ ys zs) ∷ []) ∵ updating ! $ lft_end ! tt $ move ! (1 ∷ []) $ fsplit ! $ pure_l ! (mut_slice_at R (at_last x ys) vs) (λ p. fsplit ! $ move ! (3 ∷ []) $ fsplit ! $ move ! (1 ∷ []) $ feq_l ! (λ e.
        -- [the last list; the lender's part at ν; the rest; the dead lifetime]
        move ! (3 ∷ 1 ∷ 0 ∷ []) $ use3 𝓛 (later (‵ ((Arr (mem R) (length ys)).own_at zs x.ref_ptr.0 x.ref_ptr.1))) (slice_back 𝓛 R (ν ∷ []) δ zs (length ys) x.ref_ptr.0 x.ref_ptr.1) $ await ! tt $ fsplit ! $ drop ! $
        use1 𝓛 (‵ (row R full_share zs x.ref_ptr.0 x.ref_ptr.1)) (whole_out 𝓛 R zs x.ref_ptr.0 x.ref_ptr.1) $ move ! (1 ∷ []) $ fsplit ! $ move ! (1 ∷ []) $ fsplit ! $ move ! (3 ∷ 2 ∷ 0 ∷ 1 ∷ []) $
        closes_slice ! tt R ys zs e x.ref_ptr.0 x.ref_ptr.1 $ at_once ! $ check ! e $
        fjoin ! $ pure_i ! (mut_slice_at R (at_last x zs) vs) (tt, (tt, tt)) (p.0 ∙ ap (λ (m : ℕ). slice_val x.ref_ptr m ∷ []) (sym e), subst (Room R) (sym e) p.1) $ fjoin ! $ fjoin ! $ done !))

    abbrev Parted : X → ℕ → SProp 𝓤
    Parted ys ν = sep 𝓤 (A.lft (ν ∷ []) full_share) (sep 𝓤 ⟦ (ShrSlice (named 0) (ν ∷ []) R).own_val (shown ys) vs ⟧ ⟦ Shared ν ys ⟧)

    pub shares : (ts : Toks) → SharesLaw 𝓛 R (span ts) → (ys : X) → ent 𝓤 (sep 𝓤 ⟦ Mine ys ⟧ (lfts 𝓛 ts)) (H.⇛ (sep 𝓤 (ex 𝓤 (λ (ν : ℕ). Parted ys ν)) (lfts 𝓛 ts)))
    shares ts law ys =
        qed 𝓛 (‵ (Mine ys) ∷ raw (lfts 𝓛 ts) ∷ []) ∵ updating ! $ lft_new ! tt (λ ν. move ! (0 ∷ 2 ∷ []) $ use2 𝓛 (raw (lfts 𝓛 (more ν ts))) (more_in 𝓛 ν ts) $
        move ! (1 ∷ []) $ fsplit ! $ fsplit ! $ pure_l ! (mut_slice_at R (at_last x ys) vs) (λ p. fsplit ! $ opens_slice ! tt R ys x.ref_ptr.0 x.ref_ptr.1 $
        feq_i ! ℕ (length ys) (length ys) refl $ fjoin ! $
        -- [the elements; the open borrow at κ; obs; auth; the tokens]
        move ! (0 ∷ 4 ∷ []) $
        use2 𝓛 (later ((‵ ((ShrSlice (named 0) (ν ∷ []) R).own_val (shown ys) (slice_val x.ref_ptr (length ys) ∷ [])) ⊛ ‵ (flent (ν ∷ []) ((arr_parts (shares_of R) (length ys)).part full_share ys x.ref_ptr.0 x.ref_ptr.1))) ⊛ raw (lfts 𝓛 (more ν ts))))
        (lends_shr_slice 𝓛 R (named 0) (ν ∷ []) full_share ys x.ref_ptr.0 x.ref_ptr.1 p.1 (span ts) law (more ν ts) (reach_old ν ts) (reach_new ν ts)) $
        await ! tt $ split ! $ split ! $ rewrite ! 0 (λ (us : List Val). ‵ ((ShrSlice (named 0) (ν ∷ []) R).own_val (shown ys) us)) (sym p.0) refl $
        -- [the shared slice; the lender's part at ν; the tokens; the open borrow at κ; obs; auth]
        at_once ! $ move ! (1 ∷ 3 ∷ 4 ∷ 5 ∷ 0 ∷ 2 ∷ []) $ move ! (2 ∷ 3 ∷ []) $ fjoin ! $ move ! (2 ∷ 0 ∷ []) $ fjoin ! $ move ! (1 ∷ 0 ∷ []) $ fjoin ! $ pure_i ! (mut_slice_at R (at_last x ys) vs) (tt, (tt, tt)) p $ fjoin ! $
        -- [what the holder keeps; the shared slice; the tokens]
        move ! (2 ∷ []) $ use1 𝓛 (‵ (flft (ν ∷ []) full_share) ⊛ raw (lfts 𝓛 ts)) (more_out 𝓛 ν ts) $ split ! $ move ! (3 ∷ 2 ∷ []) $ join ! $ move ! (1 ∷ 0 ∷ []) $ join ! $
        use1 𝓛 (raw (ex 𝓤 (λ (ν' : ℕ). Parted ys ν'))) (ex_i 𝓤 (λ (ν' : ℕ). Parted ys ν') ν) $ done !))

    pub shares_plain : SharesLaw 𝓛 R [] → (ys : X) → ent 𝓤 ⟦ Mine ys ⟧ (H.⇛ (ex 𝓤 (λ (ν : ℕ). Parted ys ν)))
    shares_plain law ys =
        qed 𝓛 (‵ (Mine ys) ∷ []) ∵ updating ! $ use0 𝓛 (raw (emp 𝓤)) (id⊢ 𝓤 (emp 𝓤)) $ move ! (1 ∷ 0 ∷ []) $ use2 𝓛 (later (raw (ex 𝓤 (λ (ν : ℕ). Parted ys ν)) ⊛ raw (emp 𝓤))) (shares [] law ys) $ await ! tt $ split ! $ at_once ! $ keep ! (0 ∷ []) $ done !

    pub shared_back : (ν : ℕ) (ys : X) → ent 𝓤 (sep 𝓤 (A.lft (ν ∷ []) full_share) ⟦ Shared ν ys ⟧) (H.⇛ ⟦ Mine ys ⟧)
    shared_back ν ys =
        qed 𝓛 (‵ (flft (ν ∷ []) full_share) ∷ ‵ (Shared ν ys) ∷ []) ∵ updating ! $ lft_end ! tt $ move ! (1 ∷ []) $ fsplit ! $ pure_l ! (mut_slice_at R (at_last x ys) vs) (λ p. fsplit ! $
        -- [the lender's part at ν; the rest; the dead lifetime]
        move ! (2 ∷ 0 ∷ []) $ lent_back ! tt $ fsplit ! $ drop ! $ move ! (1 ∷ []) $ fsplit ! $ move ! (1 ∷ []) $ fsplit ! $ move ! (3 ∷ 2 ∷ 0 ∷ 1 ∷ []) $
        closes_slice ! tt R ys ys refl x.ref_ptr.0 x.ref_ptr.1 $ at_once ! $
        fjoin ! $ pure_i ! (mut_slice_at R (at_last x ys) vs) (tt, (tt, tt)) p $ fjoin ! $ fjoin ! $ done !)
