-- Which entry is the latest. Later is a strict order in which any two entries compare that differ in stamp, revision or giving, so that what the
-- latest entry of a slot says depends on the set of entries alone.
use mathlib.Core.Path.{◌≡◌, refl, sym, ap, ap₂, ◌∙◌, subst}
use mathlib.Core.Logic.{inl, inr}
use mathlib.Core.Bool.{Bool, ◌&&◌, ◌||◌, not}
use mathlib.Core.List.Memᴰ
use mathlib.Core.List.{List, [], ◌∷◌, ◌++◌, Memᴰ}
use mathlib.Core.Option.{Option, none, some}
use Prim.Native.Nat.{ℕ, ◌+◌}
use native.Mathlib.Omega.{arith}
use native.Mathlib.Decide.{dec_le}
use lib.Dec.{T, ltb, eqb, eqb→eq}
use borrow.Author.Tests.{eq-eqb}
use Rattle.model.specs.declared.Head.{Head}
use Rattle.model.specs.declared.Message.{Message}
use Rattle.model.specs.Count.{bit}
use Rattle.model.specs.Contents.{Slot, Pair, Operator, Ride, same_slot, Entry, gives, later, slot, giving, entry, unheard}
use Rattle.model.specs.Refusal.{first_number, valid_cases}
use Rattle.model.proofs.Count.{by_test, test_true, test_false, test_ext, bit_test}
use Rattle.model.proofs.Refusal.{by_kind, Valid, valid_none, none_valid}
use Rattle.model.proofs.Contents.{slot_refl, slot_equal}
use Rattle.model.proofs.Later.{Later, later_stamp, later_tie, not_later, later_irrefl, later_trans}
use Rattle.model_delivery.specs.Book.{valid, later_one, latest, said}
use Rattle.model_delivery.specs.Demand3.{Latest, LatestLaws}

-- ---- valid messages

module _ (h : Head) (m : Message) where
  pub valid_test : T (valid h m) → Valid h m
  unfolding valid
  valid_test t = valid_none h m (eqb→eq (first_number (valid_cases h m)) 0 t)

  pub test_valid : Valid h m → T (valid h m)
  unfolding valid
  test_valid v = subst T (sym (eq-eqb (first_number (valid_cases h m)) 0 (none_valid h m v))) tt

-- ---- later

-- entries of the same stamp and revision that both give, or both take away
pub record Alike (e f : Entry) : Type 0 where
  pub stamp : e.stamp ≡ f.stamp
  pub revision : e.revision ≡ f.revision
  pub giving : gives e ≡ gives f

-- of two others one is later
later_total : (e f : Entry) → (Later e f → ⊥) → (Later f e → ⊥) → Alike e f
later_total e f n n' =
    let low = not_later e f n in
    let high = not_later f e n' in
    let stamp : e.stamp ≡ f.stamp = omega (arith, low.0, high.0) in
    let revision : e.revision ≡ f.revision = omega (arith, low.1 stamp, high.1 (sym stamp)) in
    record {
      stamp = stamp;
      revision = revision;
      giving = test_ext (gives e) (gives f) (λ t. by_test (gives f) (λ s. s) (λ s. absurd (n' (later_tie f e (sym stamp) (sym revision) s t)))) (λ t. by_test (gives e) (λ s. s) (λ s. absurd (n (later_tie e f stamp revision s t))));
    }

later_alike : (e d f : Entry) → Alike d f → Later e d → Later e f
later_alike e d f a t =
    let stamp = a.stamp in
    let revision = a.revision in
    let giving = a.giving in
    subst T (λ j. ltb (stamp j) e.stamp || (eqb e.stamp (stamp j) && (ltb (revision j) e.revision || (eqb e.revision (revision j) && (not (gives e) && giving j))))) t

-- of messages such entries are the same
entry_alike : (e f : Message) → Alike (entry e) (entry f) → entry e ≡ entry f
entry_alike e f a =
    let stamp = a.stamp in
    let revision = a.revision in
    let word : bit (giving e.kind) ≡ bit (giving f.kind) = ap bit (sym (bit_test (giving e.kind)) ∙ a.giving ∙ bit_test (giving f.kind)) in
    λ j. record { stamp = stamp j; revision = revision j; word = word j }

-- e is not later than f
abbrev pub AtMost : Entry → Entry → Type 0
AtMost e f = Later e f → ⊥

at_most_trans : (e f d : Entry) → AtMost e f → AtMost f d → AtMost e d
at_most_trans e f d n m t =
    by_test (later d f)
    (λ s. n (later_trans e d f t s))
    (λ s. n (later_alike e d f (later_total d f s m) t))

later_at_most : (e f : Entry) → Later e f → AtMost f e
later_at_most e f t s = later_irrefl e (later_trans e f e t s)

-- ---- the latest entry is one that no entry is later than

-- what o says of a slot's entries: none, or that it is the latest
abbrev pub Is : List Message → Slot → Option Message → Type 0
Is es t none = (e : Message) → Memᴰ e es → slot e ≡ t → ⊥
Is es t (some e) = Latest es t e

-- of two entries the later one is kept
module _ (e d : Message) where
  later_one_yes : Later (entry e) (entry d) → later_one e (some d) ≡ some e
  later_one_yes t = rw (test_true (later (entry e) (entry d)) t, later_one)

  later_one_no : AtMost (entry e) (entry d) → later_one e (some d) ≡ some d
  later_one_no n = rw (test_false (later (entry e) (entry d)) n, later_one)

module _ (e : Message) (es : List Message) (t : Slot) where
  latest_about : slot e ≡ t → latest (e ∷ es) t ≡ later_one e (latest es t)
  unfolding latest
  latest_about q = rw (test_true (same_slot (slot e) t) (subst (λ (x : Slot). T (same_slot (slot e) x)) q (slot_refl (slot e))), latest)

  latest_other : (slot e ≡ t → ⊥) → latest (e ∷ es) t ≡ latest es t
  unfolding latest
  latest_other n = rw (test_false (same_slot (slot e) t) (λ s. n (slot_equal (slot e) t s)), latest)

  later_one_is : (o : Option Message) → slot e ≡ t → Is es t o → Is (e ∷ es) t (later_one e o)
  later_one_is none q is =
      record {
        member = Memᴰ.head refl;
        about = q;
        last = λ f m a l. elim (Memᴰ.cases_cons m) [ inl p ↦ later_irrefl (entry e) (subst (λ (x : Message). Later (entry x) (entry e)) p l) | inr k ↦ is f k a ];
      }
  later_one_is (some d) q is =
      by_test (later (entry e) (entry d))
      (λ l. subst (Is (e ∷ es) t) (sym (later_one_yes e d l))
      (record {
        member = Memᴰ.head refl;
        about = q;
        last = λ f m a k. elim (Memᴰ.cases_cons m) [ inl p ↦ later_irrefl (entry e) (subst (λ (x : Message). Later (entry x) (entry e)) p k) | inr i ↦ is.last f i a (later_trans (entry f) (entry e) (entry d) k l) ];
      }))
      (λ n. subst (Is (e ∷ es) t) (sym (later_one_no e d n))
      (record {
        member = Memᴰ.tail is.member;
        about = is.about;
        last = λ f m a k. elim (Memᴰ.cases_cons m) [ inl p ↦ n (subst (λ (x : Message). Later (entry x) (entry d)) p k) | inr i ↦ is.last f i a k ];
      }))

  other_is : (o : Option Message) → (slot e ≡ t → ⊥) → Is es t o → Is (e ∷ es) t o
  other_is none n is = λ f m a. elim (Memᴰ.cases_cons m) [ inl p ↦ n (sym (ap slot p) ∙ a) | inr k ↦ is f k a ]
  other_is (some d) n is =
      record {
        member = Memᴰ.tail is.member;
        about = is.about;
        last = λ f m a k. elim (Memᴰ.cases_cons m) [ inl p ↦ n (sym (ap slot p) ∙ a) | inr i ↦ is.last f i a k ];
      }

pub latest_is : (es : List Message) (t : Slot) → Is es t (latest es t)
unfolding latest
latest_is [] t = λ e m a. Memᴰ.not-nil m
latest_is (e ∷ es) t =
    by_test (same_slot (slot e) t)
    (λ s. let q = slot_equal (slot e) t s in subst (Is (e ∷ es) t) (sym (latest_about e es t q)) (later_one_is e es t (latest es t) q (latest_is es t)))
    (λ s. let n : slot e ≡ t → ⊥ = λ q. s (subst (λ (x : Slot). T (same_slot (slot e) x)) q (slot_refl (slot e))) in subst (Is (e ∷ es) t) (sym (latest_other e es t n)) (other_is e es t (latest es t) n (latest_is es t)))

-- ---- what the latest says depends on the set of entries alone

-- each entry of es for the slot has one in fs that it is not later than
abbrev pub Covered : List Message → List Message → Slot → Type 0
Covered es fs t = (e : Message) → Memᴰ e es → slot e ≡ t → (f : Message) × Memᴰ f fs × (slot f ≡ t) × AtMost (entry e) (entry f)

module _ (es fs : List Message) (t : Slot) (there : Covered es fs t) (back : Covered fs es t) where
  same_is : (o o' : Option Message) → Is es t o → Is fs t o' → said t o ≡ said t o'
  same_is none none i j = refl
  same_is none (some f) i j = let w = back f j.member j.about in absurd (i w.0 w.1 w.2)
  same_is (some e) none i j = let w = there e i.member i.about in absurd (j w.0 w.1 w.2)
  same_is (some e) (some f) i j =
      let w = there e i.member i.about in
      let w' = back f j.member j.about in
      entry_alike e f
      (later_total (entry e) (entry f)
      (at_most_trans (entry e) (entry w.0) (entry f) w.3 (j.last w.0 w.1 w.2))
      (at_most_trans (entry f) (entry w'.0) (entry e) w'.3 (i.last w'.0 w'.1 w'.2)))

  pub latest_same : said t (latest es t) ≡ said t (latest fs t)
  latest_same = same_is (latest es t) (latest fs t) (latest_is es t) (latest_is fs t)

-- each entry of es for the slot is one of fs
pub covered_members : (es fs : List Message) (t : Slot) → ((e : Message) → Memᴰ e es → slot e ≡ t → Memᴰ e fs) → Covered es fs t
covered_members es fs t f e i a = (e, f e i a, a, later_irrefl (entry e))

-- ---- the laws of the book's latest entry

-- all entries are valid
abbrev pub AllValid : Head → List Message → Type 0
AllValid h es = (e : Message) → Memᴰ e es → Valid h e

-- the kind that gives for a slot
abbrev giving_kind : Slot → ℕ
giving_kind (Pair u v) = 1
giving_kind (Operator u) = 3
giving_kind (Ride v) = 5

-- a valid message's slot and whether it gives say its kind
kind_of : (h : Head) (m : Message) → Valid h m → m.kind ≡ giving_kind (slot m) + bit (not (giving m.kind))
kind_of h m v =
    let is : (k n : ℕ) → k ≡ n + bit (not (giving k)) → m.kind ≡ k → m.kind ≡ n + bit (not (giving m.kind)) = λ k n q e. subst (λ (x : ℕ). x ≡ n + bit (not (giving x))) (sym e) q in
    by_kind m (λ t. m.kind ≡ giving_kind t + bit (not (giving m.kind)))
    (λ k. elim (dec_le m.kind 1) [ yes l ↦ is 1 1 refl (omega (arith, v.kind_low)) | no l ↦ is 2 1 refl (omega arith) ])
    (λ k k'. elim (dec_le m.kind 3) [ yes l ↦ is 3 3 refl (omega arith) | no l ↦ is 4 3 refl (omega arith) ])
    (λ k. elim (dec_le m.kind 5) [ yes l ↦ is 5 5 refl (omega arith) | no l ↦ is 6 5 refl (omega (arith, v.kind_high)) ])

pub latest_laws : LatestLaws
latest_laws =
    record {
      found = λ es t e q. subst (Is es t) q (latest_is es t);
      missing = λ es t q. subst (Is es t) q (latest_is es t);
      only = λ h es t e f valid i j.
          let q = later_total (entry e) (entry f) (j.last e i.member i.about) (i.last f j.member j.about) in
          let g : giving e.kind ≡ giving f.kind = sym (bit_test (giving e.kind)) ∙ q.giving ∙ bit_test (giving f.kind) in
          (kind_of h e (valid_test h e (valid e i.member)) ∙ ap₂ (λ (x : Slot) (b : Bool). giving_kind x + bit (not b)) (i.about ∙ sym j.about) g ∙ sym (kind_of h f (valid_test h f (valid f j.member))), q.stamp, q.revision);
    }

-- ---- one entry more

pub valid_append : (h : Head) (es fs : List Message) → AllValid h es → AllValid h fs → AllValid h (es ++ fs)
valid_append h es fs a b e m = elim (Memᴰ.append_cases es m) [ inl i ↦ a e i | inr j ↦ b e j ]

unheard_stamp : (t : Slot) → (unheard t).stamp ≡ 0
unheard_stamp (Pair u v) = refl
unheard_stamp (Operator u) = refl
unheard_stamp (Ride v) = refl

-- a valid message is later than nothing
pub later_unheard : (h : Head) (m : Message) (t : Slot) → Valid h m → Later (entry m) (unheard t)
later_unheard h m t v = later_stamp (entry m) (unheard t) (omega (arith, unheard_stamp t, v.stamp))

module _ (h : Head) (m : Message) (m_valid : Valid h m) (es : List Message) where
  abbrev more : List Message
  more = es ++ (m ∷ [])

  abbrev here : Slot
  here = slot m

  -- m is later than what the book says of its slot
  abbrev pub newer : Bool
  newer = later (entry m) (said here (latest es here))

  single_is : Is (m ∷ []) here (some m)
  single_is = later_one_is m [] here none refl (λ e i a. Memᴰ.not-nil i)

  -- where m is newer, it is the latest; where not, or for another slot, the book says what it said before
  outranked : (o : Option Message) → Is es here o → Later (entry m) (said here o) → (e : Message) → Memᴰ e es → slot e ≡ here → AtMost (entry e) (entry m)
  outranked none is t e i a = absurd (is e i a)
  outranked (some d) is t e i a = at_most_trans (entry e) (entry d) (entry m) (is.last e i a) (later_at_most (entry m) (entry d) t)

  outranks : (o : Option Message) → Is es here o → AtMost (entry m) (said here o) → (f : Message) × Memᴰ f es × (slot f ≡ here) × AtMost (entry m) (entry f)
  outranks none is n = absurd (n (later_unheard h m here m_valid))
  outranks (some d) is n = (d, is.member, is.about, n)

  stays : (t : Slot) → Covered es more t
  stays t = covered_members es more t (λ e i a. Memᴰ.append_left (m ∷ []) i)

  pub entry_newer : T newer → said here (latest more here) ≡ entry m
  entry_newer t =
      same_is more (m ∷ []) here
      (λ e i a. (m, Memᴰ.head refl, refl, elim (Memᴰ.append_cases es i) [ inl j ↦ outranked (latest es here) (latest_is es here) t e j a | inr j ↦ subst (λ (x : Message). AtMost (entry x) (entry m)) (sym (Memᴰ.eq_of_singleton j)) (later_irrefl (entry m)) ]))
      (covered_members (m ∷ []) more here (λ e i a. Memᴰ.append_right es i))
      (latest more here) (some m) (latest_is more here) single_is

  pub entry_older : (T newer → ⊥) → said here (latest more here) ≡ said here (latest es here)
  entry_older n =
      let w = outranks (latest es here) (latest_is es here) n in
      latest_same more es here
      (λ e i a. elim (Memᴰ.append_cases es i) [ inl j ↦ (e, j, a, later_irrefl (entry e)) | inr j ↦ (w.0, w.1, w.2, subst (λ (x : Message). AtMost (entry x) (entry w.0)) (sym (Memᴰ.eq_of_singleton j)) w.3) ])
      (stays here)

  pub entry_other : (t : Slot) → (t ≡ here → ⊥) → said t (latest more t) ≡ said t (latest es t)
  entry_other t n =
      latest_same more es t
      (covered_members more es t (λ e i a. elim (Memᴰ.append_cases es i) [ inl j ↦ j | inr j ↦ absurd (n (sym a ∙ ap slot (Memᴰ.eq_of_singleton j))) ]))
      (stays t)
