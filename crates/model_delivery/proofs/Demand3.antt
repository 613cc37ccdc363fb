-- Demand 3.
use mathlib.Core.Path.{◌≡◌, sym, ap, ap₂, ◌∙◌, subst}
use mathlib.Core.Logic.{inl, inr}
use mathlib.Core.List.Memᴰ
use mathlib.Core.List.{List, ◌++◌, Memᴰ}
use Prim.Native.Nat.{ℕ}
use native.Mathlib.Omega.{arith}
use lib.Dec.{T}
use Rattle.model.specs.declared.Head.{Head}
use Rattle.model.specs.declared.Message.{Message}
use Rattle.model.specs.Layout.{Operators, Rides, Board}
use Rattle.model.specs.Refusal.{build_refusal}
use Rattle.model_delivery.specs.Calls.{Call, run, built_board, returned, case, delivered}
use Rattle.model_delivery.specs.Book.{valid, entries, grants, book, written}
use Rattle.model_delivery.specs.Demand3.{BoardIsBook, OnlyThree, BookValid, AnyOrder, Demand3}
use Rattle.model_delivery.proofs.Latest.{test_valid, AllValid, valid_append, latest_laws}
use Rattle.model_delivery.proofs.Run.{valid_entries, run_written, case_written, returned_short}
use Rattle.model_delivery.proofs.Build.{table, valid_grants, built_written, grants_same}
use Rattle.model_delivery.proofs.Order.{entries_delivered, delivered_entries, written_set}
use Rattle.model_delivery.proofs.OneMessage.{one_message}
use Rattle.model_delivery.proofs.ListIsCalls.{list_is_calls}

pub board_is_book : BoardIsBook
unfolding book
board_is_book b start calls e =
    let t = table b start e in
    ap (λ (x : Board). run x calls) (built_written b start e) ∙
    run_written b.head t.few_operators t.few_rides calls (grants b.head.pairs (b.part Operators) (b.part Rides) start) (valid_grants b start e)

module _ (b : Board) (start : ℕ) (calls : List Call) (e : build_refusal b start ≡ 0) where
  abbrev h : Head
  h = b.head

  pub valid_book : AllValid h (book h (b.part Operators) (b.part Rides) start calls)
  unfolding book
  valid_book = valid_append h (grants h.pairs (b.part Operators) (b.part Rides) start) (entries h calls) (valid_grants b start e) (valid_entries h calls)

  -- a valid message is entered exactly if it is delivered
  entered_delivered : (m : Message) → Memᴰ m (entries h calls) → Memᴰ m (delivered (built_board b start) calls)
  entered_delivered m i =
      let t = table b start e in
      subst (λ (x : Board). Memᴰ m (delivered x calls)) (sym (built_written b start e)) (entries_delivered h t.few_operators t.few_rides calls (grants h.pairs (b.part Operators) (b.part Rides) start) (valid_grants b start e) m i)

  delivered_entered : (m : Message) → T (valid h m) → Memᴰ m (delivered (built_board b start) calls) → Memᴰ m (entries h calls)
  delivered_entered m v i =
      let t = table b start e in
      delivered_entries h t.few_operators t.few_rides calls (grants h.pairs (b.part Operators) (b.part Rides) start) (valid_grants b start e) m v (subst (λ (x : Board). Memᴰ m (delivered x calls)) (built_written b start e) i)

pub only_three : OnlyThree
only_three =
    record {
      case_three = λ b start calls c e.
          let t = table b start e in
          ap (λ (x : Board). case x c) (board_is_book b start calls e) ∙ case_written b.head t.few_operators t.few_rides (book b.head (b.part Operators) (b.part Rides) start calls) (valid_book b start calls e) c;
      returns_three = λ b start calls c e s.
          let t = table b start e in
          ap (λ (x : Board). returned x c) (board_is_book b start calls e) ∙ returned_short b.head t.few_operators t.few_rides (book b.head (b.part Operators) (b.part Rides) start calls) c s;
    }

pub book_valid : BookValid
book_valid b start calls e m i = test_valid b.head m (valid_book b start calls e m i)

-- one part of two lists joined to the same first list
join_right : (xs ys zs : List Message) → ((m : Message) → Memᴰ m ys → Memᴰ m zs) → (m : Message) → Memᴰ m (xs ++ ys) → Memᴰ m (xs ++ zs)
join_right xs ys zs f m i = elim (Memᴰ.append_cases xs i) [ inl j ↦ Memᴰ.append_left zs j | inr j ↦ Memᴰ.append_right xs (f m j) ]

pub any_order : AnyOrder
unfolding book
any_order b b' start calls calls' e e' same sets =
    let h : Head = b.head in
    let first : List Message = grants h.pairs (b.part Operators) (b.part Rides) start in
    let alike : book b'.head (b'.part Operators) (b'.part Rides) start calls' ≡ first ++ entries h calls' = subst (λ (x : Head). grants x.pairs (b'.part Operators) (b'.part Rides) start ++ entries x calls' ≡ first ++ entries h calls') same.head (ap (λ (x : List Message). x ++ entries h calls') (sym (grants_same (b.part Operators) (b.part Rides) (b'.part Operators) (b'.part Rides) start h.pairs h.pairs (omega arith) same.operators same.rides))) in
    let there : (m : Message) → Memᴰ m (entries h calls) → Memᴰ m (entries h calls') = λ m i. subst (λ (x : Head). Memᴰ m (entries x calls')) (sym same.head) (delivered_entered b' start calls' e' m (subst (λ (x : Head). T (valid x m)) same.head (test_valid h m (valid_entries h calls m i))) ((sets m (test_valid h m (valid_entries h calls m i))).0 (entered_delivered b start calls e m i))) in
    let back : (m : Message) → Memᴰ m (entries h calls') → Memᴰ m (entries h calls) = λ m i. delivered_entered b start calls e m (test_valid h m (valid_entries h calls' m i)) ((sets m (test_valid h m (valid_entries h calls' m i))).1 (entered_delivered b' start calls' e' m (subst (λ (x : Head). Memᴰ m (entries x calls')) same.head i))) in
    board_is_book b start calls e ∙
    written_set h (first ++ entries h calls) (first ++ entries h calls') (join_right first (entries h calls) (entries h calls') there) (join_right first (entries h calls') (entries h calls) back) ∙
    ap₂ written same.head (sym alike) ∙
    sym (board_is_book b' start calls' e')

pub demand_3 : Demand3
demand_3 =
    record {
      board_is_book = board_is_book;
      only_three = only_three;
      latest_laws = latest_laws;
      book_valid = book_valid;
      any_order = any_order;
      one_message = one_message;
      list_is_calls = list_is_calls;
    }
