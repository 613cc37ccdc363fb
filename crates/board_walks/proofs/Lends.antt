-- Any number of `&mut [R]` that are lent for one call and come back: again as `&mut`, or shared. `Lend.antt` has one; here each step is one step for all of them. Qs has their element types.
--     owned ys         the slices xs at the lists ys, owned at the machine values vss: what `owns` of their rows is
--     kept νs δs ys    what the holder keeps while they are lent for the lifetimes νs under the names δs
--     told ys zs       what a callee's `post` says of their last lists
--     lends_all        [κs] ∗ owned ys  ⊢ ⇛ ∃ νs δs. [νs] ∗ owned (lent_as δs ys) ∗ kept νs δs ys
--     backs            [νs] ∗ kept νs δs ys ∗ told ys zs  ⊢ ⇛ (each as long as it was) ∧ ([κs] ∗ owned zs)
--     shares_all, shared_backs     the same of slices that are lent shared, which have no names then (`shown_as`). `shares_all` takes the tokens ts, which serve to share out their elements, and gives them back.        shares_all_plain      of elements that need none
--     finish           what is owned at exit says the last lists
-- Assumes `Logic`.
use mathlib.Core.Path.{◌≡◌, refl, ◌∙◌}
use Prim.Native.Nat.{ℕ}
use mathlib.Core.List.{List, [], ◌∷◌, ◌++◌}
use lib.ListN.{length}
use seplogic.Ra.Ura.{Ura}
use base.Fraction.{full_share}
use mir.Syntax.{named, w16, w32}
use mir.Val.{Val}
use base.Logic.{SProp, ent, sep, ex, ex_i, emp, guard, id⊢}
use base.Fml.{Lft, GName, Fml, ftrue, fsep, flft, fres, feq}
use ghost.Rules.{Toks, span}
use types.Logic.{Logic, sem, lfts}
use contract.Lifetimes.{Lfts, Shares, toks}
use types.Kit.{‵, raw, given, some, later, ◌⊛◌, ◌$◌, ◌∵◌, !, qed, move, keep, drop, use0, use1, use2, use3, split, split3, join, pick, learn, fsplit, fjoin, feq_i, await, updating, check, now as at_once, show, done}
use denote.RattleType.{RattleType}
use denote.Builtin.{u16, u32}
use denote.Copied.{uint_Copied}
use denote.Ref.{at_last}
use denote.Slice.{MutSlice, ShrSlice, finally, res-finally, coded_holeys, heres}
use denote.Shares.{Shares as SharesLaw}
use denote.Steps.{nothing}
use Rattle.board_walks.proofs.Rows.{like, Then, Slice, SharedSlice, Elems}
use Rattle.board_walks.proofs.Lend.{Mine, under, shown, Lent, Shared, lends, back, shares, shared_back}

-- a reference for each
abbrev pub Refs : List RattleType → Type 0
Refs Qs = Then (like Slice Qs) (Unit {0})

-- a `&` for each
abbrev pub SharedRefs : List RattleType → Type 0
SharedRefs Qs = Then (like SharedSlice Qs) (Unit {0})

-- a list for each
abbrev pub Lists : List RattleType → Type 0
Lists Qs = Then (like Elems Qs) (Unit {0})

-- machine values for each
abbrev pub Values : List RattleType → Type 0
Values Qs = Then (like (λ _. List Val) Qs) (Unit {0})

-- a ghost name, or a new lifetime, for each
abbrev pub Names : List RattleType → Type 0
Names Qs = Then (like (λ _. ℕ) Qs) (Unit {0})

-- the lists that the references hold
abbrev pub nows : (Qs : List RattleType) → Refs Qs → Lists Qs
nows [] xs = tt
nows (R ∷ Qs) xs = (xs.0.now, nows Qs xs.1)

-- the references at other lists
abbrev pub at_lists : (Qs : List RattleType) → Refs Qs → Lists Qs → Refs Qs
at_lists [] xs ys = tt
at_lists (R ∷ Qs) xs ys = (at_last xs.0 ys.0, at_lists Qs xs.1 ys.1)

-- the references under other names
abbrev pub lent_as : (Qs : List RattleType) → Refs Qs → Names Qs → Lists Qs → Refs Qs
lent_as [] xs δs ys = tt
lent_as (R ∷ Qs) xs δs ys = (record { ref_ptr = xs.0.ref_ptr; ghost_name = δs.0; now = ys.0 }, lent_as Qs xs.1 δs.1 ys.1)

-- the references as `&`, which have no name
abbrev pub shown_as : (Qs : List RattleType) → Refs Qs → Lists Qs → SharedRefs Qs
shown_as [] xs ys = tt
shown_as (R ∷ Qs) xs ys = (record { ref_ptr = xs.0.ref_ptr; now = ys.0 }, shown_as Qs xs.1 ys.1)

-- lifetimes that are made for the call, and their whole shares
abbrev pub fresh : (Qs : List RattleType) → Names Qs → Lfts (length Qs)
fresh [] νs = tt
fresh (R ∷ Qs) νs = (νs.0 ∷ [], fresh Qs νs.1)

-- the whole share of each
abbrev pub fulls : (Qs : List RattleType) → Shares (length Qs)
fulls [] = tt
fulls (R ∷ Qs) = (full_share, fulls Qs)

-- each list is as long as it was
abbrev pub Same : (Qs : List RattleType) → Lists Qs → Lists Qs → Type 0
Same [] zs ys = Unit {0}
Same (R ∷ Qs) zs ys = (length zs.0 ≡ length ys.0) × Same Qs zs.1 ys.1

-- lists are as long as themselves
pub same_refl : (Qs : List RattleType) (ys : Lists Qs) → Same Qs ys ys
same_refl [] ys = tt
same_refl (R ∷ Qs) ys = (refl, same_refl Qs ys.1)

-- and as lists that are as long as those
pub same_trans : (Qs : List RattleType) (zs ys xs : Lists Qs) → Same Qs zs ys → Same Qs ys xs → Same Qs zs xs
same_trans [] zs ys xs e f = tt
same_trans (R ∷ Qs) zs ys xs e f = (e.0 ∙ f.0, same_trans Qs zs.1 ys.1 xs.1 e.1 f.1)

-- the lists after those of Rs, and that they too are as long as they were
abbrev pub lists_after : (Rs Ps : List RattleType) → Lists (Rs ++ Ps) → Lists Ps
lists_after [] Ps ys = ys
lists_after (R ∷ Rs) Ps ys = lists_after Rs Ps ys.1

-- the later lists of two tuples are as long as each other too
pub same_after : (Rs Ps : List RattleType) (zs ys : Lists (Rs ++ Ps)) → Same (Rs ++ Ps) zs ys → Same Ps (lists_after Rs Ps zs) (lists_after Rs Ps ys)
same_after [] Ps zs ys es = es
same_after (R ∷ Rs) Ps zs ys es = same_after Rs Ps zs.1 ys.1 es.1

-- a function of so many lists, at a tuple of them
abbrev pub Over : List RattleType → Type 0 → Type 0
Over [] B = B
Over (R ∷ Qs) B = Elems R → Over Qs B

-- f at each list of the tuple, in order
abbrev pub on_lists : (Qs : List RattleType) (U : Type 0) {B : Type 0} → Over Qs B → Then (like Elems Qs) U → B
on_lists [] U f ys = f
on_lists (R ∷ Qs) U f ys = on_lists Qs U (f ys.0) ys.1

-- what the references own
abbrev pub owned : (Qs : List RattleType) → Lfts (length Qs) → Refs Qs → Values Qs → Fml
owned [] κs xs vss = ftrue
owned (R ∷ Qs) κs xs vss = fsep ((MutSlice (named 0) κs.0 R).own_val xs.0 vss.0) (owned Qs κs.1 xs.1 vss.1)

-- what the references own where they are shared
abbrev pub shared : (Qs : List RattleType) → Lfts (length Qs) → SharedRefs Qs → Values Qs → Fml
shared [] κs xs vss = ftrue
shared (R ∷ Qs) κs xs vss = fsep ((ShrSlice (named 0) κs.0 R).own_val xs.0 vss.0) (shared Qs κs.1 xs.1 vss.1)

-- what the holder keeps while they are lent
abbrev pub kept : (Qs : List RattleType) → Lfts (length Qs) → Shares (length Qs) → Refs Qs → Values Qs → Names Qs → Names Qs → Lists Qs → Fml
kept [] κs qs xs vss νs δs ys = ftrue
kept (R ∷ Qs) κs qs xs vss νs δs ys = fsep (Lent R κs.0 qs.0 xs.0 vss.0 νs.0 δs.0 ys.0) (kept Qs κs.1 qs.1 xs.1 vss.1 νs.1 δs.1 ys.1)

-- what the holder keeps while they are lent shared
abbrev pub kept_shared : (Qs : List RattleType) → Lfts (length Qs) → Shares (length Qs) → Refs Qs → Values Qs → Names Qs → Lists Qs → Fml
kept_shared [] κs qs xs vss νs ys = ftrue
kept_shared (R ∷ Qs) κs qs xs vss νs ys = fsep (Shared R κs.0 qs.0 xs.0 vss.0 νs.0 ys.0) (kept_shared Qs κs.1 qs.1 xs.1 vss.1 νs.1 ys.1)

-- what is said of the last lists zs of references xs
abbrev pub told : (Qs : List RattleType) → Refs Qs → Lists Qs → Fml
told [] xs zs = ftrue
told (R ∷ Qs) xs zs = fsep (fsep (finally R xs.0.ghost_name zs.0) (feq ℕ (length zs.0) (length xs.0.now))) (told Qs xs.1 zs.1)

module _ {M : Type 1} {𝓤 : Ura M} (𝓛 : Logic 𝓤) where
  -- a formula's meaning
  open 𝓛 use {H}

  abbrev ⟦◌⟧ : Fml → SProp 𝓤
  ⟦ P ⟧ = sem 𝓛 P

  -- what there is once they are lent
  abbrev pub Away : (Qs : List RattleType) (κs : Lfts (length Qs)) (qs : Shares (length Qs)) (xs : Refs Qs) (vss : Values Qs) (ys : Lists Qs) (νs δs : Names Qs) → SProp 𝓤
  Away Qs κs qs xs vss ys νs δs = sep 𝓤 (toks 𝓛 (length Qs) (fresh Qs νs) (fulls Qs)) (sep 𝓤 ⟦ owned Qs (fresh Qs νs) (lent_as Qs xs δs ys) vss ⟧ ⟦ kept Qs κs qs xs vss νs δs ys ⟧)

  -- all are lent
  pub lends_all : (Qs : List RattleType) (κs : Lfts (length Qs)) (qs : Shares (length Qs)) (xs : Refs Qs) (vss : Values Qs) (ys : Lists Qs)
      → ent 𝓤 (sep 𝓤 (toks 𝓛 (length Qs) κs qs) ⟦ owned Qs κs (at_lists Qs xs ys) vss ⟧) (H.⇛ (ex 𝓤 (λ (νs : Names Qs). ex 𝓤 (λ (δs : Names Qs). Away Qs κs qs xs vss ys νs δs))))
  lends_all [] κs qs xs vss ys =
      qed 𝓛 (‵ ftrue ∷ ‵ ftrue ∷ []) ∵ updating ! $ at_once ! $ show ! (λ (νs : Unit {0}). ex 𝓤 (λ (δs : Unit {0}). Away [] κs qs xs vss ys νs δs)) tt $ show ! (λ (δs : Unit {0}). Away [] κs qs xs vss ys tt δs) tt $ nothing ! $ done !
  lends_all (R ∷ Qs) κs qs xs vss ys =
      qed 𝓛 ((‵ (flft κs.0 qs.0) ⊛ raw (toks 𝓛 (length Qs) κs.1 qs.1)) ∷ ‵ (owned (R ∷ Qs) κs (at_lists (R ∷ Qs) xs ys) vss) ∷ []) ∵ updating ! $ split ! $ move ! (2 ∷ []) $ fsplit ! $ move ! (0 ∷ 2 ∷ []) $ fjoin ! $
      use1 𝓛 (later (some (λ (ν : ℕ). some (λ (δ : GName). ‵ (flft (ν ∷ []) full_share) ⊛ ‵ ((MutSlice (named 0) (ν ∷ []) R).own_val (under R κs.0 qs.0 xs.0 vss.0 δ ys.0) vss.0) ⊛ ‵ (Lent R κs.0 qs.0 xs.0 vss.0 ν δ ys.0)))))
      (lends R κs.0 qs.0 xs.0 vss.0 𝓛 ys.0) $ await ! tt $ pick ! (λ ν. pick ! (λ δ. split3 ! $
      -- [token; slice; lender's part; the other slices; the other tokens]
      move ! (4 ∷ 3 ∷ []) $ use2 𝓛 (later (some (λ (νs : Names Qs). some (λ (δs : Names Qs). raw (toks 𝓛 (length Qs) (fresh Qs νs) (fulls Qs)) ⊛ ‵ (owned Qs (fresh Qs νs) (lent_as Qs xs.1 δs ys.1) vss.1) ⊛ ‵ (kept Qs κs.1 qs.1 xs.1 vss.1 νs δs ys.1)))))
      (lends_all Qs κs.1 qs.1 xs.1 vss.1 ys.1) $ await ! tt $ pick ! (λ νs. pick ! (λ δs. split3 ! $ at_once ! $
      show ! (λ (ns : Names (R ∷ Qs)). ex 𝓤 (λ (ds : Names (R ∷ Qs)). Away (R ∷ Qs) κs qs xs vss ys ns ds)) (ν, νs) $ show ! (λ (ds : Names (R ∷ Qs)). Away (R ∷ Qs) κs qs xs vss ys (ν, νs) ds) (δ, δs) $
      -- [tokens; slices; lenders' parts; token; slice; lender's part]
      move ! (5 ∷ 2 ∷ []) $ fjoin ! $ move ! (4 ∷ 2 ∷ []) $ fjoin ! $ move ! (3 ∷ 2 ∷ []) $ join ! $ done !))))

  -- all come back, at the lists that the callee left
  pub backs : (Qs : List RattleType) (κs : Lfts (length Qs)) (qs : Shares (length Qs)) (xs : Refs Qs) (vss : Values Qs) (νs δs : Names Qs) (ys zs : Lists Qs)
      → ent 𝓤 (sep 𝓤 (toks 𝓛 (length Qs) (fresh Qs νs) (fulls Qs)) (sep 𝓤 ⟦ kept Qs κs qs xs vss νs δs ys ⟧ ⟦ told Qs (lent_as Qs xs δs ys) zs ⟧))
      (H.⇛ (guard 𝓤 (Same Qs zs ys) (sep 𝓤 (toks 𝓛 (length Qs) κs qs) ⟦ owned Qs κs (at_lists Qs xs zs) vss ⟧)))
  backs [] κs qs xs vss νs δs ys zs = qed 𝓛 (‵ ftrue ∷ ‵ ftrue ∷ ‵ ftrue ∷ []) ∵ updating ! $ at_once ! $ check ! tt $ keep ! (0 ∷ 1 ∷ []) $ done !
  backs (R ∷ Qs) κs qs xs vss νs δs ys zs =
      qed 𝓛 ((‵ (flft (νs.0 ∷ []) full_share) ⊛ raw (toks 𝓛 (length Qs) (fresh Qs νs.1) (fulls Qs))) ∷ ‵ (kept (R ∷ Qs) κs qs xs vss νs δs ys) ∷ ‵ (told (R ∷ Qs) (lent_as (R ∷ Qs) xs δs ys) zs) ∷ []) ∵ updating ! $
      split ! $ move ! (2 ∷ []) $ fsplit ! $ move ! (4 ∷ []) $ fsplit ! $ move ! (4 ∷ 2 ∷ 0 ∷ []) $
      use3 𝓛 (later (given (length zs.0 ≡ length ys.0) (‵ (Mine R κs.0 qs.0 xs.0 vss.0 zs.0)))) (back R κs.0 qs.0 xs.0 vss.0 𝓛 νs.0 δs.0 ys.0 zs.0) $ await ! tt $ learn ! (λ e.
      -- [the slice; what is said of the others; lenders' parts; tokens]
      move ! (3 ∷ 2 ∷ 1 ∷ []) $ use3 𝓛 (later (given (Same Qs zs.1 ys.1) (raw (toks 𝓛 (length Qs) κs.1 qs.1) ⊛ ‵ (owned Qs κs.1 (at_lists Qs xs.1 zs.1) vss.1))))
      (backs Qs κs.1 qs.1 xs.1 vss.1 νs.1 δs.1 ys.1 zs.1) $ await ! tt $ learn ! (λ es. split ! $ at_once ! $ check ! (e, es) $
      -- [tokens; slices; the slice]
      move ! (2 ∷ []) $ fsplit ! $ move ! (0 ∷ 3 ∷ []) $ fjoin ! $ move ! (1 ∷ 2 ∷ []) $ join ! $ done !))

  -- what there is once they are lent shared
  abbrev pub Parted : (Qs : List RattleType) (κs : Lfts (length Qs)) (qs : Shares (length Qs)) (xs : Refs Qs) (vss : Values Qs) (ys : Lists Qs) (νs : Names Qs) → SProp 𝓤
  Parted Qs κs qs xs vss ys νs = sep 𝓤 (toks 𝓛 (length Qs) (fresh Qs νs) (fulls Qs)) (sep 𝓤 ⟦ shared Qs (fresh Qs νs) (shown_as Qs xs ys) vss ⟧ ⟦ kept_shared Qs κs qs xs vss νs ys ⟧)

  -- tokens that reach l serve to share out an element of each type
  abbrev pub SharesLaws : List RattleType → Lft → Type 1
  SharesLaws [] l = Unit {1}
  SharesLaws (R ∷ Qs) l = SharesLaw 𝓛 R l × SharesLaws Qs l

  -- words and stamps need no token
  pub words_share : SharesLaws (u16 ∷ u32 ∷ []) []
  words_share = ((uint_Copied 𝓛 w16).shares full_share [], ((uint_Copied 𝓛 w32).shares full_share [], tt))

  -- all are lent shared
  pub shares_all : (Qs : List RattleType) (ts : Toks) → SharesLaws Qs (span ts) → (κs : Lfts (length Qs)) (qs : Shares (length Qs)) (xs : Refs Qs) (vss : Values Qs) (ys : Lists Qs)
      → ent 𝓤 (sep 𝓤 (sep 𝓤 (toks 𝓛 (length Qs) κs qs) ⟦ owned Qs κs (at_lists Qs xs ys) vss ⟧) (lfts 𝓛 ts)) (H.⇛ (sep 𝓤 (ex 𝓤 (λ (νs : Names Qs). Parted Qs κs qs xs vss ys νs)) (lfts 𝓛 ts)))
  shares_all [] ts laws κs qs xs vss ys =
      qed 𝓛 ((‵ ftrue ⊛ ‵ ftrue) ∷ raw (lfts 𝓛 ts) ∷ []) ∵ updating ! $ split ! $ at_once ! $ nothing ! $ move ! (1 ∷ 0 ∷ []) $ join ! $ move ! (1 ∷ 0 ∷ []) $ join ! $
      use1 𝓛 (raw (ex 𝓤 (λ (νs : Unit {0}). Parted [] κs qs xs vss ys νs))) (ex_i 𝓤 (λ (νs : Unit {0}). Parted [] κs qs xs vss ys νs) tt) $ done !
  shares_all (R ∷ Qs) ts laws κs qs xs vss ys =
      qed 𝓛 (((‵ (flft κs.0 qs.0) ⊛ raw (toks 𝓛 (length Qs) κs.1 qs.1)) ⊛ ‵ (owned (R ∷ Qs) κs (at_lists (R ∷ Qs) xs ys) vss)) ∷ raw (lfts 𝓛 ts) ∷ []) ∵ updating ! $ split ! $ split ! $ move ! (2 ∷ []) $ fsplit ! $
      -- [the slice; the other slices; its token; the other tokens; the tokens ts]
      move ! (0 ∷ 2 ∷ []) $ fjoin ! $ move ! (0 ∷ 3 ∷ []) $
      use2 𝓛 (later (some (λ (ν : ℕ). ‵ (flft (ν ∷ []) full_share) ⊛ ‵ ((ShrSlice (named 0) (ν ∷ []) R).own_val (shown R κs.0 qs.0 xs.0 vss.0 ys.0) vss.0) ⊛ ‵ (Shared R κs.0 qs.0 xs.0 vss.0 ν ys.0)) ⊛ raw (lfts 𝓛 ts)))
      (shares R κs.0 qs.0 xs.0 vss.0 𝓛 ts laws.0 ys.0) $ await ! tt $ split ! $ pick ! (λ ν. split3 ! $
      -- [token; slice; lender's part; the tokens ts; the other slices; the other tokens]
      move ! (5 ∷ 4 ∷ []) $ join ! $ move ! (0 ∷ 4 ∷ []) $
      use2 𝓛 (later (some (λ (νs : Names Qs). raw (toks 𝓛 (length Qs) (fresh Qs νs) (fulls Qs)) ⊛ ‵ (shared Qs (fresh Qs νs) (shown_as Qs xs.1 ys.1) vss.1) ⊛ ‵ (kept_shared Qs κs.1 qs.1 xs.1 vss.1 νs ys.1)) ⊛ raw (lfts 𝓛 ts)))
      (shares_all Qs ts laws.1 κs.1 qs.1 xs.1 vss.1 ys.1) $ await ! tt $ split ! $ pick ! (λ νs. split3 ! $ at_once ! $
      -- [tokens; slices; lenders' parts; the tokens ts; token; slice; lender's part]
      move ! (6 ∷ 2 ∷ []) $ fjoin ! $ move ! (5 ∷ 2 ∷ []) $ fjoin ! $ join ! $ move ! (3 ∷ 1 ∷ []) $ join ! $ join ! $
      use1 𝓛 (raw (ex 𝓤 (λ (ns : Names (R ∷ Qs)). Parted (R ∷ Qs) κs qs xs vss ys ns))) (ex_i 𝓤 (λ (ns : Names (R ∷ Qs)). Parted (R ∷ Qs) κs qs xs vss ys ns) (ν, νs)) $ done !))

  -- the same of elements that need no token
  pub shares_all_plain : (Qs : List RattleType) → SharesLaws Qs [] → (κs : Lfts (length Qs)) (qs : Shares (length Qs)) (xs : Refs Qs) (vss : Values Qs) (ys : Lists Qs)
      → ent 𝓤 (sep 𝓤 (toks 𝓛 (length Qs) κs qs) ⟦ owned Qs κs (at_lists Qs xs ys) vss ⟧) (H.⇛ (ex 𝓤 (λ (νs : Names Qs). Parted Qs κs qs xs vss ys νs)))
  shares_all_plain Qs laws κs qs xs vss ys =
      qed 𝓛 ((raw (toks 𝓛 (length Qs) κs qs) ⊛ ‵ (owned Qs κs (at_lists Qs xs ys) vss)) ∷ []) ∵ updating ! $ use0 𝓛 (raw (emp 𝓤)) (id⊢ 𝓤 (emp 𝓤)) $ move ! (1 ∷ 0 ∷ []) $
      use2 𝓛 (later (raw (ex 𝓤 (λ (νs : Names Qs). Parted Qs κs qs xs vss ys νs)) ⊛ raw (emp 𝓤))) (shares_all Qs [] laws κs qs xs vss ys) $ await ! tt $ split ! $ at_once ! $ keep ! (0 ∷ []) $ done !

  -- all come back, as they were
  pub shared_backs : (Qs : List RattleType) (κs : Lfts (length Qs)) (qs : Shares (length Qs)) (xs : Refs Qs) (vss : Values Qs) (νs : Names Qs) (ys : Lists Qs)
      → ent 𝓤 (sep 𝓤 (toks 𝓛 (length Qs) (fresh Qs νs) (fulls Qs)) ⟦ kept_shared Qs κs qs xs vss νs ys ⟧) (H.⇛ (sep 𝓤 (toks 𝓛 (length Qs) κs qs) ⟦ owned Qs κs (at_lists Qs xs ys) vss ⟧))
  shared_backs [] κs qs xs vss νs ys = qed 𝓛 (‵ ftrue ∷ ‵ ftrue ∷ []) ∵ updating ! $ at_once ! $ done !
  shared_backs (R ∷ Qs) κs qs xs vss νs ys =
      qed 𝓛 ((‵ (flft (νs.0 ∷ []) full_share) ⊛ raw (toks 𝓛 (length Qs) (fresh Qs νs.1) (fulls Qs))) ∷ ‵ (kept_shared (R ∷ Qs) κs qs xs vss νs ys) ∷ []) ∵ updating ! $ split ! $ move ! (2 ∷ []) $ fsplit ! $ move ! (2 ∷ 0 ∷ []) $
      use2 𝓛 (later (‵ (Mine R κs.0 qs.0 xs.0 vss.0 ys.0))) (shared_back R κs.0 qs.0 xs.0 vss.0 𝓛 νs.0 ys.0) $ await ! tt $
      -- [the slice; lenders' parts; tokens]
      move ! (2 ∷ 1 ∷ []) $ use2 𝓛 (later (raw (toks 𝓛 (length Qs) κs.1 qs.1) ⊛ ‵ (owned Qs κs.1 (at_lists Qs xs.1 ys.1) vss.1))) (shared_backs Qs κs.1 qs.1 xs.1 vss.1 νs.1 ys.1) $ await ! tt $
      split ! $ at_once ! $ move ! (2 ∷ []) $ fsplit ! $ move ! (0 ∷ 3 ∷ []) $ fjoin ! $ move ! (1 ∷ 2 ∷ []) $ join ! $ done !

  -- what is owned at exit says the last lists
  pub finish : (Qs : List RattleType) (κs : Lfts (length Qs)) (xs : Refs Qs) (vss : Values Qs) (zs : Lists Qs) → Same Qs zs (nows Qs xs) → ent 𝓤 ⟦ owned Qs κs (at_lists Qs xs zs) vss ⟧ ⟦ told Qs xs zs ⟧
  finish [] κs xs vss zs es = qed 𝓛 (‵ ftrue ∷ []) ∵ done !
  finish (R ∷ Qs) κs xs vss zs es =
      qed 𝓛 (‵ (owned (R ∷ Qs) κs (at_lists (R ∷ Qs) xs zs) vss) ∷ []) ∵ fsplit ! $ fsplit ! $ drop ! $ fsplit ! $
      use1 𝓛 (‵ (fres xs.0.ghost_name ((coded_holeys R).code (heres R zs.0)))) (𝓛.names.obs-res xs.0.ghost_name ((coded_holeys R).code (heres R zs.0))) $
      use1 𝓛 (‵ (finally R xs.0.ghost_name zs.0)) (res-finally 𝓛 (named 0) κs.0 R xs.0.ghost_name zs.0) $ feq_i ! ℕ (length zs.0) (length xs.0.now) es.0 $ move ! (1 ∷ 0 ∷ []) $ fjoin ! $
      -- [what is said of the slice; its borrow; the others]
      move ! (2 ∷ []) $ use1 𝓛 (‵ (told Qs xs.1 zs.1)) (finish Qs κs.1 xs.1 vss.1 zs.1 es.1) $ keep ! (1 ∷ 0 ∷ []) $ fjoin ! $ done !
