-- Two lists that deliver the same valid messages leave the same board.
use mathlib.Core.Path.{◌≡◌, sym, ap, subst}
use mathlib.Core.Logic.{inl, inr}
use mathlib.Core.List.Memᴰ
use mathlib.Core.List.{List, [], ◌∷◌, ◌++◌, Memᴰ}
use Prim.Native.Nat.{ℕ, zero, suc, ◌≤◌}
use lib.Dec.{T}
use Rattle.model.specs.declared.Head.{Head}
use Rattle.model.specs.declared.Message.{Message}
use Rattle.model.specs.Layout.{Board}
use Rattle.model.proofs.Count.{by_test}
use Rattle.model_delivery.specs.Calls.{Call, sent, after, case, delivered}
use Rattle.model_delivery.specs.Book.{too_short, valid, valid_ones, call_entries, entries, written}
use Rattle.model_delivery.proofs.Latest.{AllValid, valid_append, latest_same, covered_members}
use Rattle.model_delivery.proofs.Run.{valid_in, valid_out, call_entries_short, call_entries_long, valid_call_entries, case_short, case_long, after_written, written_same}

-- the valid messages of a list are its valid ones
valid_ones_sent : (h : Head) (m : Message) (ms : List Message) → Memᴰ m (valid_ones h ms) → Memᴰ m ms
unfolding valid_ones
valid_ones_sent h m [] i = i
valid_ones_sent h m (x ∷ xs) i =
    by_test (valid h x)
    (λ t. elim (Memᴰ.cases_cons (subst (Memᴰ m) (valid_in h x xs t) i)) [ inl q ↦ Memᴰ.head q | inr j ↦ Memᴰ.tail (valid_ones_sent h m xs j) ])
    (λ n. Memᴰ.tail (valid_ones_sent h m xs (subst (Memᴰ m) (valid_out h x xs n) i)))

sent_valid_ones : (h : Head) (m : Message) → T (valid h m) → (ms : List Message) → Memᴰ m ms → Memᴰ m (valid_ones h ms)
unfolding valid_ones
sent_valid_ones h m v [] i = i
sent_valid_ones h m v (x ∷ xs) i =
    elim (Memᴰ.cases_cons i) [
      | inl q ↦ subst (Memᴰ m) (sym (valid_in h x xs (subst (λ (y : Message). T (valid h y)) q v))) (Memᴰ.head q)
      | inr j ↦
          by_test (valid h x)
          (λ t. subst (Memᴰ m) (sym (valid_in h x xs t)) (Memᴰ.tail (sent_valid_ones h m v xs j)))
          (λ n. subst (Memᴰ m) (sym (valid_out h x xs n)) (sent_valid_ones h m v xs j))
    ]

module _ (h : Head) (few : h.operators ≤ 200) (few' : h.rides ≤ 60) where
  -- what a call delivers
  abbrev deliver : Board → Call → List Message
  deliver b c = elim (case b c) [ zero ↦ sent c | suc k ↦ [] ]

  module _ (es : List Message) (a : AllValid h es) (c : Call) where
    deliver_short : T (too_short h c) → deliver (written h es) c ≡ []
    deliver_short t = ap (λ (n : ℕ). elim n [ zero ↦ sent c | suc k ↦ [] ]) (case_short h few few' es c t)

    deliver_long : (T (too_short h c) → ⊥) → deliver (written h es) c ≡ sent c
    deliver_long n = ap (λ (n : ℕ). elim n [ zero ↦ sent c | suc k ↦ [] ]) (case_long h few few' es a c n)

    -- a call enters the valid messages that it delivers
    entered_deliver : (m : Message) → Memᴰ m (call_entries h c) → Memᴰ m (deliver (written h es) c)
    entered_deliver m i =
        by_test (too_short h c)
        (λ t. absurd (Memᴰ.not-nil (subst (Memᴰ m) (call_entries_short h c t) i)))
        (λ n. subst (Memᴰ m) (sym (deliver_long n)) (valid_ones_sent h m (sent c) (subst (Memᴰ m) (call_entries_long h c n) i)))

    deliver_entered : (m : Message) → T (valid h m) → Memᴰ m (deliver (written h es) c) → Memᴰ m (call_entries h c)
    deliver_entered m v i =
        by_test (too_short h c)
        (λ t. absurd (Memᴰ.not-nil (subst (Memᴰ m) (deliver_short t) i)))
        (λ n. subst (Memᴰ m) (sym (call_entries_long h c n)) (sent_valid_ones h m v (sent c) (subst (Memᴰ m) (deliver_long n) i)))

    next : AllValid h (es ++ call_entries h c)
    next = valid_append h es (call_entries h c) a (valid_call_entries h c)

  -- and so does a list of calls
  pub entries_delivered : (cs : List Call) (es : List Message) → AllValid h es → (m : Message) → Memᴰ m (entries h cs) → Memᴰ m (delivered (written h es) cs)
  unfolding entries delivered
  entries_delivered [] es a m i = i
  entries_delivered (c ∷ cs) es a m i =
      elim (Memᴰ.append_cases (call_entries h c) i) [
        | inl j ↦ Memᴰ.append_left (delivered (after (written h es) c) cs) (entered_deliver es a c m j)
        | inr j ↦ Memᴰ.append_right (deliver (written h es) c) (subst (λ (b : Board). Memᴰ m (delivered b cs)) (sym (after_written h few few' es a c)) (entries_delivered cs (es ++ call_entries h c) (next es a c) m j))
      ]

  pub delivered_entries : (cs : List Call) (es : List Message) → AllValid h es → (m : Message) → T (valid h m) → Memᴰ m (delivered (written h es) cs) → Memᴰ m (entries h cs)
  unfolding entries delivered
  delivered_entries [] es a m v i = i
  delivered_entries (c ∷ cs) es a m v i =
      elim (Memᴰ.append_cases (deliver (written h es) c) i) [
        | inl j ↦ Memᴰ.append_left (entries h cs) (deliver_entered es a c m v j)
        | inr j ↦ Memᴰ.append_right (call_entries h c) (delivered_entries cs (es ++ call_entries h c) (next es a c) m v (subst (λ (b : Board). Memᴰ m (delivered b cs)) (after_written h few few' es a c) j))
      ]

-- books with the same set of entries give the same board
pub written_set : (h : Head) (es fs : List Message) → ((m : Message) → Memᴰ m es → Memᴰ m fs) → ((m : Message) → Memᴰ m fs → Memᴰ m es) → written h es ≡ written h fs
written_set h es fs there back =
    written_same h es fs
    (λ t _. latest_same es fs t (covered_members es fs t (λ e i _. there e i)) (covered_members fs es t (λ e i _. back e i)))
