-- Request U6 over lists of calls: an object made as data is data while it lives, and so are its numbers. By
-- induction over the calls, from what one call makes (`AllocationsMake`), keeps (`NumbersStay`) and writes
-- (`NumbersWritten`).
use mathlib.Core.Path.{◌≡◌, refl, sym, ap, ◌∙◌, subst}
use mathlib.Core.Logic.{◌≢◌}
use mathlib.Core.Bool.{true, false}
use mathlib.Core.List.{List, [], ◌∷◌, ◌++◌}
use Prim.Native.Nat.{ℕ, ◌+◌, ◌*◌, ◌<◌}
use native.Mathlib.Decide.{ℕ_discrete}
use lib.ListN.{get_or}
use Rattle.rules.specs.Heap.{Memory, is_data}
use Rattle.rules_calls.specs.Calls.{Call, allocate_data, write_number, read_number, Answer, outcome, answer, last_memory}
use Rattle.rules_calls.specs.Promise.{Promise}
use Rattle.types.specs.declared.Reply.{Reply}
use Rattle.rules_calls.proofs.Replies.{one_applies, number_is, accepted_outcome}
use Rattle.theory_memories.specs.Words.{Object}
use Rattle.theory.specs.CallWords.{copied_over, Made, left_by}
use Rattle.theory.specs.Stuck.{LivesOn}
use Rattle.theory.specs.Demand.{Finds, Chain}
use Rattle.theory.specs.Data.{StaysSo, Unwritten, StillData, DataWhileItLives, Makes}
use Rattle.theory_memories.proofs.Memories.Fit.{Fit}
use Rattle.theory_memories.proofs.Memories.Accepted.{accepted_fit}
use Rattle.theory.proofs.EachCall.Answers.{answer-fit}
use Rattle.theory.proofs.EachCall.Makes.{allocations_make}
use Rattle.theory.proofs.EachCall.Numbers.{numbers_written}
use Rattle.theory.proofs.EachCall.Stay.{answer_stays}
use Rattle.theory.proofs.Calls.{finds_fit, stays_fit}
use Rattle.theory.proofs.Demand.{found, stands}

-- ---- one call

-- a refused call changes nothing
refused_same : (N w : ℕ) (h : Memory) (c : Call) → (answer N w h c).0.number ≢ 0 → (answer N w h c).1 ≡ h
refused_same N w h c refusal =
    ap (λ (x : Answer). x.1) (one_applies N w h c (λ e. refusal (number_is N w h c ∙ e)))

-- cell j of the data at block b, in whatever memory
abbrev cell_of : ℕ → ℕ → Memory → ℕ
cell_of b j h = get_or h.cells (4 * b + j) 0

-- the call m of a list, made on what h left, with the object of n blocks at b standing before it and after it
module _ (N w b n : ℕ) {h : Memory} (fit : Fit N w h) (m : Made) (finds : Finds N h m.before)
    (promise : Promise N w m.call m.before m.reply m.after) (living : copied_over m.call m.reply ≡ false) where
  accepted_so : m.reply.number ≡ 0 → (answer N w m.before m.call).0.number ≡ 0
  accepted_so taken = ap (λ (x : Reply). x.number) (sym promise.reply_is) ∙ taken

  stays : Object N h b n → Object N m.after b n → StaysSo m.before m.after m.call b n
  stays was is =
      subst (λ (g : Memory). StaysSo m.before g m.call b n) (sym promise.after_is)
      (answer_stays N w m.before (finds_fit N w finds fit) m.call b n (subst (λ (x : Reply). copied_over m.call x ≡ false) promise.reply_is living) (found N finds was)
      (subst (λ (g : Memory). Object N g b n) promise.after_is is))

  found_data : is_data h.d b ≡ true → is_data m.before.d b ≡ true
  found_data made = ap (λ (k : Memory). is_data k.d b) finds.same_heap ∙ made

  -- it is data as before ..
  data_stays : Object N h b n → Object N m.after b n → is_data h.d b ≡ true → is_data m.after.d b ≡ true
  data_stays was is made = (stays was is).same_kind ∙ found_data made

  -- .. with the number as before, where none is written there
  number_stays : Object N h b n → Object N m.after b n → is_data h.d b ≡ true → (j : ℕ) → j < 4 * n
      → ((x : ℕ) → m.call ≡ write_number b j x → m.reply.number ≢ 0) → cell_of b j m.after ≡ cell_of b j h
  number_stays was is made j l unwritten = same ∙ ap (λ (k : Memory). cell_of b j k) finds.same_heap
    where
      same : cell_of b j m.after ≡ cell_of b j m.before
      same = elim (ℕ_discrete m.reply.number 0) [
        | yes e ↦ (stays was is).same_numbers (found_data made) j l (λ x q. unwritten x q e)
        | no e ↦
            ap (λ (k : Memory). cell_of b j k)
            (promise.after_is
            ∙ refused_same N w m.before m.call (λ z. e (ap (λ (x : Reply). x.number) promise.reply_is ∙ z)))
      ]

  -- a number that is written stands there
  number_stands : (j x : ℕ) → m.call ≡ write_number b j x → m.reply.number ≡ 0 → cell_of b j m.after ≡ x
  unfolding outcome
  number_stands j x is taken =
      let c : Call = write_number b j x in
      let accepted = subst (λ (d : Call). (answer N w m.before d).0.number ≡ 0) is (accepted_so taken) in
      let g : Memory = (answer N w m.before c).1 in
      let read = (numbers_written N w m.before b j x accepted).reads_itself_back in
      let value =
      ap (λ (y : Answer). y.0.value) (sym (accepted_outcome N w g (read_number b j) (ap (λ (y : Reply). y.number) read)))
      ∙ ap (λ (y : Reply). y.value) read in
      ap (λ (k : Memory). cell_of b j k) (promise.after_is ∙ ap (λ (d : Call). (answer N w m.before d).1) is) ∙ value

-- ---- a list of calls

-- what holds of data that lives on through the calls, which found h
record Kept (b n : ℕ) (since : List Made) (h g : Memory) : Type 0 where
  kind : is_data g.d b ≡ true
  same_numbers : (j : ℕ) → j < 4 * n → Unwritten b j since → cell_of b j g ≡ cell_of b j h

kept :
    (N w b n : ℕ) {h : Memory} (since others : List Made) → Fit N w h → Chain N w h (since ++ others) → LivesOn N b n h since
    → is_data h.d b ≡ true → Kept b n since h (left_by h since)
unfolding last_memory
kept N w b n [] others fit chain lives made = record { kind = made; same_numbers = λ j l u. refl }
kept N w b n (m ∷ since) others fit (Chain.next finds promise rest) (LivesOn.next was living lives) made =
    let is = stands N lives in
    let later =
    kept N w b n since others (stays_fit N w fit m finds promise) rest lives (data_stays N w b n fit m finds promise living was is made) in
    record {
      kind = later.kind;
      same_numbers = λ j l u.
          later.same_numbers j l (tail u) ∙ number_stays N w b n fit m finds promise living was is made j l (head u);
    }
  where
    head : {j : ℕ} → Unwritten b j (m ∷ since) → (x : ℕ) → m.call ≡ write_number b j x → m.reply.number ≢ 0
    head (Unwritten.next here rest) = here

    tail : {j : ℕ} → Unwritten b j (m ∷ since) → Unwritten b j since
    tail (Unwritten.next here rest) = rest

-- the number that was written last
last_number :
    (N w b n : ℕ) {h : Memory} (earlier later others : List Made) (m : Made) → Fit N w h
    → Chain N w h ((earlier ++ (m ∷ later)) ++ others) → LivesOn N b n h (earlier ++ (m ∷ later)) → is_data h.d b ≡ true
    → (j x : ℕ) → j < 4 * n → m.call ≡ write_number b j x → m.reply.number ≡ 0 → Unwritten b j later
    → cell_of b j (left_by h (earlier ++ (m ∷ later))) ≡ x
unfolding last_memory
last_number N w b n [] later others m fit (Chain.next finds promise rest) (LivesOn.next was living lives) made j x l is taken u =
    (kept N w b n later others (stays_fit N w fit m finds promise) rest lives
    (data_stays N w b n fit m finds promise living was (stands N lives) made)).same_numbers j l u
    ∙ number_stands N w b n fit m finds promise living j x is taken
last_number N w b n (k ∷ earlier) later others m fit (Chain.next finds promise rest) (LivesOn.next was living lives) made j x l is taken u =
    last_number N w b n earlier later others m (stays_fit N w fit k finds promise) rest lives
    (data_stays N w b n fit k finds promise living was (stands N lives) made) j x l is taken u

-- ---- from the allocation on

-- calls that were made after others
chain_after :
    (N w : ℕ) {h : Memory} (earlier : List Made) {rest : List Made} → Chain N w h (earlier ++ rest)
    → Chain N w (left_by h earlier) rest
unfolding last_memory
chain_after N w [] chain = chain
chain_after N w (m ∷ earlier) (Chain.next finds promise rest) = chain_after N w earlier rest

pub data_while_it_lives : DataWhileItLives
data_while_it_lives N w start earlier since others m chain n r is taken lives = from (chain_after N w earlier chain)
  where
    from : {h : Memory} → Chain N w h (m ∷ (since ++ others)) → StillData m.reply.value n since (left_by m.after since)
    from (Chain.next finds promise rest) =
        let b = m.reply.value in
        let c : Call = allocate_data n r in
        let same : ◌≡◌ {A = Answer} (answer N w m.before c) (m.reply, m.after) =
        ap (answer N w m.before) (sym is) ∙ (λ i. (sym promise.reply_is i, sym promise.after_is i)) in
        let accepted = ap (λ (y : Answer). y.0.number) same ∙ taken in
        let makes =
        subst (λ (y : Answer). Makes N true n y.0.value y.1) same (allocations_make N w m.before true n r accepted) in
        let fit =
        subst (λ (y : Answer). Fit N w y.1) same (answer-fit N w m.before (accepted_fit N w m.before c refl accepted) c) in
        let stays = kept N w b n since others fit rest lives makes.kind in
        record {
          kind = stays.kind;
          none_written = λ j l u. stays.same_numbers j l u ∙ makes.cells j l;
          last_written = λ before later k e j x l writes accepts u.
              subst (λ (ms : List Made). cell_of b j (left_by m.after ms) ≡ x) (sym e)
              (last_number N w b n before later others k fit (subst (λ (ms : List Made). Chain N w m.after (ms ++ others)) e rest)
              (subst (λ (ms : List Made). LivesOn N b n m.after ms) e lives) makes.kind j x l writes accepts u);
        }
