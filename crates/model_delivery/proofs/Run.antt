-- The board after calls is the one worked out from the book: one message, the messages of a list, one call, a list of calls.
use mathlib.Core.Path.{◌≡◌, refl, sym, ap, ◌∙◌, subst}
use mathlib.Core.Logic.{inl, inr}
use mathlib.Core.Bool.{Bool, true, false, ◌||◌, not}
use mathlib.Core.List.Memᴰ
use mathlib.Core.List.{List, [], ◌∷◌, ◌++◌, append-nil, append_assoc, Memᴰ}
use mathlib.Core.Option.{Option, none, some}
use Prim.Native.Nat.{ℕ, zero, suc, ◌≤◌}
use native.Mathlib.Omega.{arith}
use lib.Dec.{T, ltb, T_not, not_T}
use lib.ListN.{length, set}
use Rattle.model.specs.declared.Head.{Head}
use Rattle.model.specs.declared.Message.{Message}
use Rattle.model.specs.Layout.{Parts, Board, onto}
use Rattle.model.specs.Contents.{Slot, Pair, Operator, Ride, Entry, gives, Contents, later, slot, entry, unheard, put, contents}
use Rattle.model.specs.Refusal.{refused_3, refused_10, first_number, board_short, message_refusal, list_refusal}
use Rattle.model.specs.Message.{MessageOutcome, board_after, board_message, ListOutcome, in_order}
use Rattle.model.proofs.Count.{by_test, test_true, test_false, or_left, or_right, or_cases}
use Rattle.model.proofs.Chain.{first_nil, first_here, first_skip, enough}
use Rattle.model.proofs.Parts.{board_long}
use Rattle.model.proofs.Refusal.{Within, Accepted, Valid, valid_sizes, short_three, taken_none, message_valid, list_accepted}
use Rattle.model.proofs.Contents.{by_slot, put_same, put_other, Plain, plain_bit, plain_entry, length_words, places_of, extend, contents_of, accepted_of, board_of_same, board_of_sizes, onto_extend}
use Rattle.model.proofs.Taken.{message_taken, message_refused, list_taken, list_refused}
use Rattle.model_delivery.specs.Calls.{Lending, Call, message, messages, sent, lend, take_back, after, run, returned, case}
use Rattle.model_delivery.specs.Book.{parts_short, too_short, valid, valid_ones, call_entries, entries, latest, said, written}
use Rattle.model_delivery.proofs.Latest.{valid_test, test_valid, Is, latest_is, AllValid, valid_append, newer, entry_newer, entry_older, entry_other}
use Rattle.model_delivery.proofs.Lending.{take_back_same, Laid, take_back_new, lend_whole, parts_short_board}

-- ---- valid messages

module _ (h : Head) (m : Message) where
  module _ (ms : List Message) where
    pub valid_in : T (valid h m) → valid_ones h (m ∷ ms) ≡ m ∷ valid_ones h ms
    unfolding valid_ones
    valid_in t = rw (test_true (valid h m) t, valid_ones)

    pub valid_out : (T (valid h m) → ⊥) → valid_ones h (m ∷ ms) ≡ valid_ones h ms
    unfolding valid_ones
    valid_out n = rw (test_false (valid h m) n, valid_ones)

    valid_first : valid_ones h (m ∷ ms) ≡ valid_ones h (m ∷ []) ++ valid_ones h ms
    unfolding valid_ones
    valid_first = elim (valid h m) as (λ (t : Bool). elim t [ true ↦ m ∷ valid_ones h ms | false ↦ valid_ones h ms ] ≡ elim t [ true ↦ m ∷ [] | false ↦ [] ] ++ valid_ones h ms) [ true ↦ refl | false ↦ refl ]

pub all_valid : (h : Head) (ms : List Message) → AllValid h (valid_ones h ms)
unfolding valid_ones
all_valid h [] e i = absurd (Memᴰ.not-nil i)
all_valid h (m ∷ ms) e i =
    by_test (valid h m)
    (λ t. elim (Memᴰ.cases_cons (subst (Memᴰ e) (valid_in h m ms t) i)) [ inl q ↦ subst (Valid h) (sym q) (valid_test h m t) | inr j ↦ all_valid h ms e j ])
    (λ n. all_valid h ms e (subst (Memᴰ e) (valid_out h m ms n) i))

-- ---- boards worked out from a book

module _ (h : Head) (es : List Message) where
  -- what the book says
  abbrev pub says : Contents
  says t = said t (latest es t)

  pub laid_written : Laid h (written h es)
  unfolding written
  laid_written = length_words h says

  said_stamped : AllValid h es → (u v : ℕ) (o : Option Message) → Is es (Pair u v) o → T (gives (said (Pair u v) o)) → 1 ≤ (said (Pair u v) o).stamp
  said_stamped a u v none is g = absurd g
  said_stamped a u v (some e) is g = (a e is.member).stamp

  -- it says a pair's word by 1 or 0
  pub said_plain : (t : Slot) (o : Option Message) → Plain t (said t o)
  said_plain (Pair u v) none = plain_bit (Pair u v) (unheard (Pair u v)) false refl
  said_plain (Operator u) none = tt
  said_plain (Ride v) none = tt
  said_plain t (some e) = plain_entry t e

  -- 1 to 6 do not apply to them, as they are lent
  pub accepted_written : h.operators ≤ 200 → h.rides ≤ 60 → AllValid h es → (more : Parts) → Accepted (extend (written h es) more)
  unfolding written
  accepted_written few few' a more = accepted_of h says more few few' (λ u v p q. said_stamped a u v (latest es (Pair u v)) (latest_is es (Pair u v)))

  pub written_same : (fs : List Message) → ((t : Slot) → Within h t → said t (latest es t) ≡ said t (latest fs t)) → written h es ≡ written h fs
  unfolding written
  written_same fs e = board_of_same h says (λ t. said t (latest fs t)) e

-- ---- one message

module _ (h : Head) (few : h.operators ≤ 200) (few' : h.rides ≤ 60) (more : Parts) where
  -- the board of a book as it is lent
  abbrev lent_board : List Message → Board
  lent_board es = extend (written h es) more

  module _ (es : List Message) (es_valid : AllValid h es) (m : Message) where
    module _ (v : Valid h m) where
      abbrev board : Board
      board = lent_board es

      valid_board : Valid board.head m
      unfolding written
      valid_board = valid_sizes h board.head m refl refl v

      -- the board says of each slot what the book says
      board_says : (t : Slot) → Within h t → contents board t ≡ said t (latest es t)
      unfolding written
      board_says t w = contents_of h (says h es) more t w (said_plain h es t (latest es t))

      -- 10, by the book
      ten : refused_10 board m ≡ not (newer h m v es)
      unfolding refused_10
      ten = ap (λ (e : Entry). not (later (entry m) e)) (board_says (slot m) v.within)

      decided : message_refusal board m ≡ first_number ((10, refused_10 board m) ∷ [])
      decided = message_valid board m (accepted_written h es few few' es_valid more) valid_board

      abbrev fs : List Message
      fs = es ++ (m ∷ [])

      next_says : T (newer h m v es) → (t : Slot) → Within h t → put (contents board) (slot m) (entry m) t ≡ said t (latest fs t)
      next_says n t w =
          by_slot t (slot m)
          (λ q. subst (λ (x : Slot). put (contents board) (slot m) (entry m) x ≡ said x (latest fs x)) (sym q) (put_same (contents board) (slot m) (entry m) ∙ sym (entry_newer h m v es n)))
          (λ k. put_other (contents board) (slot m) (entry m) t k ∙ board_says t w ∙ sym (entry_other h m v es t k))

      newer_taken : T (newer h m v es) → (board_message board m).board ≡ lent_board fs
      unfolding written board_after
      newer_taken t =
          ap (λ (x : MessageOutcome). x.board) (message_taken board m (decided ∙ first_skip 10 (refused_10 board m) [] (λ x. T_not (newer h m v es) (subst T ten x) t) ∙ first_nil)) ∙
          ap (λ (b : Board). onto b board.part) (board_of_sizes h (says h es) (put (contents board) (slot m) (entry m)) ∙ board_of_same h (put (contents board) (slot m) (entry m)) (says h fs) (next_says t)) ∙
          onto_extend h (says h fs) (says h es) more

      older_refused : (T (newer h m v es) → ⊥) → (board_message board m).board ≡ lent_board fs
      older_refused n =
          ap (λ (x : MessageOutcome). x.board) (message_refused board m 9 (decided ∙ first_here 10 (refused_10 board m) [] (subst T (sym ten) (not_T (newer h m v es) n)))) ∙
          ap (λ (b : Board). extend b more)
          (written_same h es fs
          (λ t _. by_slot t (slot m)
          (λ q. subst (λ (x : Slot). said x (latest es x) ≡ said x (latest fs x)) (sym q) (sym (entry_older h m v es n)))
          (λ k. sym (entry_other h m v es t k))))

    -- a message that is taken is valid
    pub taken_valid : message_refusal (lent_board es) m ≡ 0 → T (valid h m)
    unfolding written
    taken_valid e =
        test_valid h m (valid_sizes (lent_board es).head h m refl refl (taken_none (lent_board es) m e).1)

    invalid_refused : (T (valid h m) → ⊥) → (board_message (lent_board es) m).board ≡ lent_board es
    invalid_refused n = go (message_refusal (lent_board es) m) refl
      where
        go : (k : ℕ) → message_refusal (lent_board es) m ≡ k → (board_message (lent_board es) m).board ≡ lent_board es
        go zero e = absurd (n (taken_valid e))
        go (suc k) e = ap (λ (x : MessageOutcome). x.board) (message_refused (lent_board es) m k e)

    pub message_written : (board_message (lent_board es) m).board ≡ lent_board (es ++ valid_ones h (m ∷ []))
    unfolding valid_ones
    message_written =
        by_test (valid h m)
        (λ t. let v = valid_test h m t in
        by_test (newer h m v es) (newer_taken v) (older_refused v) ∙
        ap (λ (x : List Message). lent_board (es ++ x)) (sym (valid_in h m [] t)))
        (λ n. invalid_refused n ∙ ap lent_board (sym (append-nil es)) ∙ ap (λ (x : List Message). lent_board (es ++ x)) (sym (valid_out h m [] n)))

  -- ---- the messages of a list

  pub in_order_written : (ms es : List Message) → AllValid h es → (at : ℕ) (answers : List ℕ) → (in_order ms at (lent_board es) answers).board ≡ lent_board (es ++ valid_ones h ms)
  unfolding in_order valid_ones
  in_order_written [] es a at answers = ap lent_board (sym (append-nil es))
  in_order_written (m ∷ ms) es a at answers =
      let fs : List Message = es ++ valid_ones h (m ∷ []) in
      let next = set answers at (board_message (lent_board es) m).answer.code in
      ap (λ (b : Board). (in_order ms (suc at) b next).board) (message_written es a m) ∙
      in_order_written ms fs (valid_append h es (valid_ones h (m ∷ [])) a (all_valid h (m ∷ []))) (suc at) next ∙
      ap lent_board (append_assoc es (valid_ones h (m ∷ [])) (valid_ones h ms) ∙ ap (λ (x : List Message). es ++ x) (sym (valid_first h m ms)))

-- ---- one call

module _ (h : Head) (c : Call) where
  pub call_entries_short : T (too_short h c) → call_entries h c ≡ []
  call_entries_short t = rw (test_true (too_short h c) t, call_entries)

  pub call_entries_long : (T (too_short h c) → ⊥) → call_entries h c ≡ valid_ones h (sent c)
  call_entries_long n = rw (test_false (too_short h c) n, call_entries)

  pub valid_call_entries : AllValid h (call_entries h c)
  valid_call_entries =
      by_test (too_short h c)
      (λ t e i. absurd (Memᴰ.not-nil (subst (Memᴰ e) (call_entries_short t) i)))
      (λ n e i. all_valid h (sent c) e (subst (Memᴰ e) (call_entries_long n) i))

module _ (h : Head) (few : h.operators ≤ 200) (few' : h.rides ≤ 60) (es : List Message) where
  abbrev written_es : Board
  written_es = written h es

  -- the parts are too short by their lengths exactly if the lent board's are
  short_written : (l : Lending) → board_short (lend l written_es) ≡ parts_short h l
  unfolding written
  short_written l = parts_short_board h l written_es (laid_written h es) (places_of h (says h es))

  -- lent long enough, the board has some words behind it
  lend_written : (l : Lending) → (T (parts_short h l) → ⊥) → (more : Parts) × (lend l written_es ≡ extend written_es more)
  unfolding written
  lend_written l n =
      lend_whole h l written_es (laid_written h es)
      (λ p. omega (arith, board_long (lend l written_es) (λ t. n (subst T (short_written l) t)) p, places_of h (says h es) p))

  -- ---- case 3

  short_message : (l : Lending) (m : Message) → T (parts_short h l) → message_refusal (lend l written_es) m ≡ 3
  unfolding written message_refusal
  short_message l m t = short_three (lend l written_es) (board_short (lend l written_es)) _ few few' (subst T (sym (short_written l)) t)

  short_list : (l : Lending) (n : ℕ) (answers : List ℕ) → T (parts_short h l || ltb (length answers) n) → list_refusal (lend l written_es) n answers ≡ 3
  unfolding written list_refusal
  short_list l n answers t =
      short_three (lend l written_es) (board_short (lend l written_es) || refused_3 n answers) _ few few' (subst (λ (x : Bool). T (x || ltb (length answers) n)) (sym (short_written l)) t)

  pub after_short : (c : Call) → T (too_short h c) → after written_es c ≡ written_es
  unfolding after too_short
  after_short (message l m) t =
      ap (λ (x : MessageOutcome). take_back written_es x.board) (message_refused (lend l written_es) m 2 (short_message l m t)) ∙
      take_back_same l written_es
  after_short (messages l ms answers) t =
      ap (λ (x : ListOutcome). take_back written_es x.board) (list_refused (lend l written_es) ms answers 2 (short_list l (length ms) answers t)) ∙
      take_back_same l written_es

  pub returned_short : (c : Call) → T (too_short h c) → returned written_es c ≡ 3
  unfolding returned too_short
  returned_short (message l m) t = ap (λ (x : MessageOutcome). x.answer.code) (message_refused (lend l written_es) m 2 (short_message l m t))
  returned_short (messages l ms answers) t = ap (λ (x : ListOutcome). x.code) (list_refused (lend l written_es) ms answers 2 (short_list l (length ms) answers t))

  -- ---- and the others of 1 to 6

  long_list : AllValid h es → (l : Lending) (n : ℕ) (answers : List ℕ) → (T (parts_short h l || ltb (length answers) n) → ⊥) → list_refusal (lend l written_es) n answers ≡ 0
  long_list a l n answers long =
      let w = lend_written l (λ t. long (or_left (parts_short h l) (ltb (length answers) n) t)) in
      ap (λ (b : Board). list_refusal b n answers) w.1 ∙
      list_accepted (extend written_es w.0) n answers (accepted_written h es few few' a w.0) (enough (length answers) n (λ t. long (or_right (parts_short h l) (ltb (length answers) n) t)))

  pub case_short : (c : Call) → T (too_short h c) → case written_es c ≡ 3
  unfolding case too_short
  case_short (message l m) t = short_list l 0 [] (or_left (parts_short h l) (ltb 0 0) t)
  case_short (messages l ms answers) t = short_list l (length ms) answers t

  pub case_long : AllValid h es → (c : Call) → (T (too_short h c) → ⊥) → case written_es c ≡ 0
  unfolding case too_short
  case_long a (message l m) n = long_list a l 0 [] (λ t. n (or_cases (parts_short h l) (ltb 0 0) t (λ s. s) (λ s. absurd s)))
  case_long a (messages l ms answers) n = long_list a l (length ms) answers n

  pub case_written : AllValid h es → (c : Call) → case written_es c ≡ elim (too_short h c) [ true ↦ 3 | false ↦ 0 ]
  case_written a c =
      by_test (too_short h c)
      (λ t. case_short c t ∙ ap (λ (b : Bool). elim b [ true ↦ 3 | false ↦ 0 ]) (sym (test_true (too_short h c) t)))
      (λ n. case_long a c n ∙ ap (λ (b : Bool). elim b [ true ↦ 3 | false ↦ 0 ]) (sym (test_false (too_short h c) n)))

  -- ---- what it leaves

  after_long : AllValid h es → (c : Call) → (T (too_short h c) → ⊥) → after written_es c ≡ written h (es ++ valid_ones h (sent c))
  unfolding after too_short
  after_long a (message l m) n =
      let w = lend_written l n in
      let fs : List Message = es ++ valid_ones h (m ∷ []) in
      ap (λ (b : Board). take_back written_es (board_message b m).board) w.1 ∙
      ap (take_back written_es) (message_written h few few' w.0 es a m) ∙
      take_back_new h written_es (written h fs) w.0 (laid_written h es) (laid_written h fs)
  after_long a (messages l ms answers) n =
      let w = lend_written l (λ t. n (or_left (parts_short h l) (ltb (length answers) (length ms)) t)) in
      let fs : List Message = es ++ valid_ones h ms in
      ap (λ (x : ListOutcome). take_back written_es x.board) (list_taken (lend l written_es) ms answers (long_list a l (length ms) answers n)) ∙
      ap (λ (b : Board). take_back written_es (in_order ms 0 b answers).board) w.1 ∙
      ap (take_back written_es) (in_order_written h few few' w.0 ms es a 0 answers) ∙
      take_back_new h written_es (written h fs) w.0 (laid_written h es) (laid_written h fs)

  pub after_written : AllValid h es → (c : Call) → after written_es c ≡ written h (es ++ call_entries h c)
  after_written a c =
      by_test (too_short h c)
      (λ t. after_short c t ∙ ap (written h) (sym (append-nil es) ∙ ap (λ (x : List Message). es ++ x) (sym (call_entries_short h c t))))
      (λ n. after_long a c n ∙ ap (λ (x : List Message). written h (es ++ x)) (sym (call_entries_long h c n)))

-- ---- a list of calls

pub valid_entries : (h : Head) (cs : List Call) → AllValid h (entries h cs)
unfolding entries
valid_entries h [] e i = absurd (Memᴰ.not-nil i)
valid_entries h (c ∷ cs) e i = valid_append h (call_entries h c) (entries h cs) (valid_call_entries h c) (valid_entries h cs) e i

pub run_written : (h : Head) → h.operators ≤ 200 → h.rides ≤ 60 → (cs : List Call) (es : List Message) → AllValid h es → run (written h es) cs ≡ written h (es ++ entries h cs)
unfolding run entries
run_written h few few' [] es a = ap (written h) (sym (append-nil es))
run_written h few few' (c ∷ cs) es a =
    ap (λ (b : Board). run b cs) (after_written h few few' es a c) ∙
    run_written h few few' cs (es ++ call_entries h c) (valid_append h es (call_entries h c) a (valid_call_entries h c)) ∙
    ap (written h) (append_assoc es (call_entries h c) (entries h cs))
