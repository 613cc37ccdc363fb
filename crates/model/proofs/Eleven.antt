-- No call gives 11: a call gives the number of its refusal, which is one of its list.
use mathlib.Core.Path.{◌≡◌, refl, sym, ap, ◌∙◌, subst}
use mathlib.Core.Logic.{◌≢◌}
use mathlib.Core.Bool.{Bool, true, ◌&&◌, not}
use mathlib.Core.List.{List, [], ◌∷◌}
use Prim.Native.Nat.{ℕ, zero, suc, ◌+◌, ◌≤◌, ◌<◌}
use native.Mathlib.Omega.{arith}
use native.Mathlib.Decide.{dec_lt}
use lib.Dec.{T, eqb, T_not}
use borrow.Author.Tests.{eq-eqb}
use lib.ListN.{length, get_or, set, length-set, get_or-eq_default}
use lib.Seq.{get_or-set_same, get_or-set_other}
use Rattle.model.specs.declared.Head.{Head}
use Rattle.model.specs.declared.Message.{Message}
use Rattle.model.specs.Layout.{Board}
use Rattle.model.specs.Refusal.{first_number, build_refusal, query_refusal, message_refusal, preview_refusal, list_refusal, peel_refusal, own_cover_refusal}
use Rattle.model.specs.Calls.{counts, board_build, board_query, peeled, board_peel}
use Rattle.model.specs.Crowd.{crowd_refusal, crowd_cover_refusal}
use Rattle.model.specs.Message.{ListOutcome, in_order, board_message, board_messages}
use Rattle.model.specs.Demand1.{NeverEleven}
use Rattle.model.proofs.Count.{by_test, and_left, and_right}
use Rattle.model.proofs.Chain.{first_here, first_skip}
use Rattle.model.proofs.CrowdTable.{limits_code}
use Rattle.model.proofs.OwnCover.{own_code}
use Rattle.model.proofs.CrowdCover.{crowd_code}
use Rattle.model.proofs.Taken.{message_code, list_taken, list_refused}
use Rattle.model.proofs.Preview.{preview_code}

-- no number of a list is this one: a test that is computed, for the numbers are written out
abbrev pub lacks : ℕ → List (ℕ × Bool) → Bool
lacks k [] = true
lacks k (c ∷ cs) = not (eqb c.0 k) && lacks k cs

pub first_lacks : (k : ℕ) → 0 ≢ k → (cs : List (ℕ × Bool)) → T (lacks k cs) → first_number cs ≢ k
unfolding first_number
first_lacks k z [] w e = z e
first_lacks k z (c ∷ cs) w e =
    by_test c.1
    (λ t. T_not (eqb c.0 k) (and_left (not (eqb c.0 k)) (lacks k cs) w) (subst T (sym (eq-eqb c.0 k (sym (first_here c.0 c.1 cs t) ∙ e))) tt))
    (λ n. first_lacks k z cs (and_right (not (eqb c.0 k)) (lacks k cs) w) (sym (first_skip c.0 c.1 cs n) ∙ e))

-- ---- the number of a call is that of its refusal

pub build_code : (b : Board) (start k : ℕ) → build_refusal b start ≡ k → (board_build b start).code ≡ k
unfolding board_build
build_code b start zero e = rw (e, board_build)
build_code b start (suc k) e = rw (e, board_build)

query_code : (h : Head) (index presence : List ℕ) (α β : ℕ) (marks : List ℕ) (k : ℕ) → query_refusal h index presence marks ≡ k → (board_query h index presence α β marks).answer.code ≡ k
unfolding board_query counts
query_code h index presence α β marks zero e = rw (e, board_query)
query_code h index presence α β marks (suc k) e = rw (e, board_query)

peel_code : (h : Head) (operators rides presence minimums marks : List ℕ) (α β allowed k : ℕ) → peel_refusal h operators rides presence minimums marks ≡ k → (board_peel h operators rides presence minimums marks α β allowed).answer.code ≡ k
unfolding board_peel peeled
peel_code h operators rides presence minimums marks α β allowed zero e = rw (e, board_peel)
peel_code h operators rides presence minimums marks α β allowed (suc k) e = rw (e, board_peel)

order_code : (ms : List Message) (at : ℕ) (b : Board) (answers : List ℕ) → (in_order ms at b answers).code ≡ 0
unfolding in_order
order_code [] at b answers = refl
order_code (m ∷ ms) at b answers = order_code ms (suc at) (board_message b m).board (set answers at (board_message b m).answer.code)

list_code : (b : Board) (ms : List Message) (answers : List ℕ) (k : ℕ) → list_refusal b (length ms) answers ≡ k → (board_messages b ms answers).code ≡ k
list_code b ms answers zero e = ap (λ (o : ListOutcome). o.code) (list_taken b ms answers e) ∙ order_code ms 0 b answers
list_code b ms answers (suc k) e = ap (λ (o : ListOutcome). o.code) (list_refused b ms answers k e)

-- ---- and 11 is in no list

message_never : (b : Board) (m : Message) → (board_message b m).answer.code ≢ 11
unfolding message_refusal
message_never b m e = first_lacks 11 (λ q. omega arith) _ tt (sym (message_code b m) ∙ e)

-- the places of the answer list before a message's stay
order_before : (ms : List Message) (at : ℕ) (b : Board) (answers : List ℕ) (j : ℕ) → j < at → get_or (in_order ms at b answers).answers j 0 ≡ get_or answers j 0
unfolding in_order
order_before [] at b answers j l = refl
order_before (m ∷ ms) at b answers j l =
    let code : ℕ = (board_message b m).answer.code in
    order_before ms (suc at) (board_message b m).board (set answers at code) j (omega arith) ∙ get_or-set_other answers at j code 0 (λ e. omega arith)

order_never : (ms : List Message) (at : ℕ) (b : Board) (answers : List ℕ) (i : ℕ) → i < length ms → get_or (in_order ms at b answers).answers (at + i) 0 ≢ 11
unfolding in_order
order_never [] at b answers i l e = omega arith
order_never (m ∷ ms) at b answers zero l e =
    let code : ℕ = (board_message b m).answer.code in
    let here : get_or (set answers at code) at 0 ≡ 11 = sym (order_before ms (suc at) (board_message b m).board (set answers at code) at (omega arith)) ∙ subst (λ (k : ℕ). get_or (in_order ms (suc at) (board_message b m).board (set answers at code)).answers k 0 ≡ 11) (let q : at + 0 ≡ at = omega arith in q) e in
    elim (dec_lt at (length answers)) [
      | yes k ↦ message_never b m (sym (get_or-set_same answers at code 0 k) ∙ here)
      | no k ↦ omega (arith, here, get_or-eq_default (set answers at code) 0 (let q : length (set answers at code) ≤ at = omega (arith, length-set answers at code) in q))
    ]
order_never (m ∷ ms) at b answers (suc i) l e =
    order_never ms (suc at) (board_message b m).board (set answers at (board_message b m).answer.code) i (omega arith)
    (subst (λ (k : ℕ). get_or (in_order ms (suc at) (board_message b m).board (set answers at (board_message b m).answer.code)).answers k 0 ≡ 11) (let q : at + suc i ≡ suc at + i = omega arith in q) e)

list_never : (b : Board) (ms : List Message) (answers : List ℕ) (i : ℕ) → (board_messages b ms answers).code ≡ 0 → i < length ms → get_or (board_messages b ms answers).answers i 0 ≢ 11
list_never b ms answers i z l e =
    let none : list_refusal b (length ms) answers ≡ 0 = sym (list_code b ms answers _ refl) ∙ z in
    order_never ms 0 b answers i l
    (subst (λ (k : ℕ). get_or (in_order ms 0 b answers).answers k 0 ≡ 11) (let q : i ≡ 0 + i = omega arith in q)
    (subst (λ (o : ListOutcome). get_or o.answers i 0 ≡ 11) (list_taken b ms answers none) e))

pub never_eleven : NeverEleven
unfolding build_refusal query_refusal peel_refusal own_cover_refusal crowd_refusal crowd_cover_refusal preview_refusal list_refusal
never_eleven =
    record {
      build = λ b start e. first_lacks 11 (λ q. omega arith) _ tt (sym (build_code b start _ refl) ∙ e);
      query = λ h index presence α β marks e. first_lacks 11 (λ q. omega arith) _ tt (sym (query_code h index presence α β marks _ refl) ∙ e);
      peel = λ h operators rides presence minimums marks α β allowed e. first_lacks 11 (λ q. omega arith) _ tt (sym (peel_code h operators rides presence minimums marks α β allowed _ refl) ∙ e);
      own_cover = λ h operators rides presence minimums α β marks e. first_lacks 11 (λ q. omega arith) _ tt (sym (own_code h operators rides presence minimums α β marks _ refl) ∙ e);
      crowd_limits = λ t guests e. first_lacks 11 (λ q. omega arith) _ tt (sym (limits_code t guests _ refl) ∙ e);
      crowd_cover = λ h operators rides presence t guests minimums marks e. first_lacks 11 (λ q. omega arith) _ tt (sym (crowd_code h operators rides presence t guests minimums marks _ refl) ∙ e);
      message = message_never;
      preview = λ b m spare e. first_lacks 11 (λ q. omega arith) _ tt (sym (preview_code b m spare) ∙ e);
      messages = λ b ms answers e. first_lacks 11 (λ q. omega arith) _ tt (sym (list_code b ms answers _ refl) ∙ e);
      answers = list_never;
    }
