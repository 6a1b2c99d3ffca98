-- Laws of the check: what its reply says of a heap, and what every call that makes the check first promises by it.
use mathlib.Core.Path.{◌≡◌, refl, sym, ap, ◌∙◌}
use mathlib.Core.Bool.{Bool, true, false, not}
use mathlib.Core.Option.{Option, none}
use mathlib.Core.List.{[]}
use Prim.Native.Nat.{ℕ}
use native.Mathlib.Omega.{arith}
use lib.Dec.{eqb}
use borrow.Author.Tests.{eq-eqb, ne_eqb}
use Rattle.bitmap.specs.Bit.{zeros}
use Rattle.rules.specs.Heap.{Memory, memory, lent_memory, shaped}
use Rattle.rules.specs.Damage.{damage}
use Rattle.rules.specs.Sections.{stale_figures}
use Rattle.rules_steps.specs.Steps.{is_untidy}
use Rattle.rules_calls.specs.Calls.{Call, check, free_blocks, look, read_number, reply, accepted, tests_heap, Other, other_heap, refusals, refused_with, outcome, answer}
use Rattle.rules_calls.specs.Promise.{Promise}
use Rattle.types.specs.declared.Reply.{Reply}
use Rattle.rules.proofs.Tests.{first_past, first_found}
use Rattle.rules_calls.proofs.Replies.{refused_with_lem, accepted_none, Passed, undamaged_passed, alone_shaped, refused_as_check}
use Rattle.theory_memories.specs.Heaps.{Intact, Undamaged}
use Rattle.theory_memories.proofs.Memories.Fit.{undamaged_fit}
use Rattle.theory_memories.proofs.Memories.Accepted.{fit_accepted}
use Rattle.rules_calls.proofs.Promised.{promised}
use Rattle.test_arguments.specs.Replies.{look_reply, read_reply}
use Rattle.test_arguments.proofs.ArgumentTests.{look_answered, read_answered}

-- the call tests the heap, and is lent no other
abbrev pub TestsOne : Call → Type 0
TestsOne call = ◌≡◌ {A = Bool × Option Other} (tests_heap call, other_heap call) (true, none)

module _ {N w : ℕ} {h : Memory} where
  -- ---- the check itself

  pub check_unshaped : {x : Reply} → shaped N w h ≡ false → x ≡ reply 1 0 0 → Promise N w check h x h
  unfolding refused_with refusals
  check_unshaped {x} e x_is =
      promised N w h check _ (refused_with_lem N w h check 1 (omega arith) (first_found 1 (not (shaped N w h)) _ (ap not e))) x h x_is refl

  pub check_damaged : {kind : ℕ} → shaped N w h ≡ true → kind ≡ damage N w h → (kind ≡ 0 → ⊥) → Promise N w check h (reply 2 kind 0) h
  unfolding refused_with refusals
  check_damaged {kind} e is-kind some =
      let damaged = ne_eqb (damage N w h) 0 (λ none. some (is-kind ∙ none)) in
      let two =
      first_past 1 (not (shaped N w h)) _ (ap not e) ∙ first_found 2 (not (eqb (damage N w h) 0)) _ (ap not damaged) in
      promised N w h check _ (refused_with_lem N w h check 2 (omega arith) two) (reply 2 kind 0) h (ap (λ (k : ℕ). reply 2 k 0) is-kind) refl

  pub check_stale :
      {x : Reply} → shaped N w h ≡ true → damage N w h ≡ 0 → stale_figures N h.a h.sections ≡ true → x ≡ reply 11 0 0 → Promise N w check h x h
  unfolding refused_with refusals
  check_stale {x} e undamaged stale x_is =
      let eleven =
      first_past 1 (not (shaped N w h)) _ (ap not e)
      ∙ first_past 2 (not (eqb (damage N w h) 0)) _ (ap not (eq-eqb (damage N w h) 0 undamaged))
      ∙ first_found 11 (stale_figures N h.a h.sections) _ stale in
      promised N w h check _ (refused_with_lem N w h check 11 (omega arith) eleven) x h x_is refl

  -- past number 11, the second list and the marks are tested
  pub check_untidy :
      {x : Reply} → Intact N w h → stale_figures N h.a h.sections ≡ false → is_untidy N h ≡ true → x ≡ reply 13 0 0 → Promise N w check h x h
  unfolding refused_with refusals
  check_untidy {x} intact fresh untidy x_is =
      let thirteen =
      first_past 1 (not (shaped N w h)) _ (ap not intact.right_shape)
      ∙ first_past 2 (not (eqb (damage N w h) 0)) _ (ap not (eq-eqb (damage N w h) 0 intact.no_damage))
      ∙ first_past 11 (stale_figures N h.a h.sections) _ fresh
      ∙ first_found 13 (is_untidy N h) _ untidy in
      promised N w h check _ (refused_with_lem N w h check 13 (omega arith) thirteen) x h x_is refl

  -- ---- where it refuses, every call that tests the heap, and no other, is refused alike

  pub refused_alike :
      {call : Call} → TestsOne call → {x : Reply} → Promise N w check h x h → (x.number ≡ 0 → ⊥) → Promise N w call h x h
  refused_alike {call} tests {x} checked fails =
      promised N w h call (answer N w h check)
      (refused_as_check N w h call (ap (λ y. y.0) tests) (alone_shaped h call (ap (λ y. y.1) tests)) (λ e. fails (ap (λ (y : Reply). y.number) checked.reply_is ∙ e)))
      x h checked.reply_is checked.after_is

  -- ---- what passes the check

  pub checked_fit : {x : Reply} → Promise N w check h x h → x.number ≡ 0 → Undamaged N w h
  checked_fit checked accepts =
      let none = accepted_none N w h check (ap (λ (y : Reply). y.number) (sym checked.reply_is) ∙ accepts) in
      let all = undamaged_passed N w h check refl none in
      record { intact = record { right_shape = all.0; no_damage = all.1 }; true_list = all.2; tidy = all.3 }

  -- ---- the calls that read

  pub check_passed : {x : Reply} → Undamaged N w h → x ≡ reply 0 0 0 → Promise N w check h x h
  unfolding outcome Passed
  check_passed {x} fit x_is = promised N w h check (accepted h 0) (fit_accepted N w h (undamaged_fit N w h fit) check refl tt) x h x_is refl

  module _ {y : Reply} (checked : Promise N w check h y h) (accepts : y.number ≡ 0) where
    pub free_blocks_passed : {x : Reply} {n : ℕ} → x ≡ reply 0 n 0 → n ≡ zeros h.a → Promise N w free_blocks h x h
    unfolding outcome Passed
    free_blocks_passed {x} x_is counted =
        promised N w h free_blocks (accepted h (zeros h.a))
        (fit_accepted N w h (undamaged_fit N w h (checked_fit checked accepts)) free_blocks refl tt)
        x h (x_is ∙ ap (λ (v : ℕ). reply 0 v 0) counted) refl

    -- the maps and the counts alone are read
    pub look_passed : {at : ℕ} {x : Reply} → x ≡ look_reply N w (memory h.a h.b h.counts [] [] []) at → Promise N w (look at) h x h
    look_passed {at} {x} x_is =
        promised N w h (look at) _ (look_answered N w h (undamaged_fit N w h (checked_fit checked accepts)) at) x h x_is refl

    -- the maps and the cells alone are read
    pub read_passed :
        {at j : ℕ} {x : Reply} → x ≡ read_reply N (lent_memory h.a h.b [] h.cells [] [] [] h.d [] []) at j
        → Promise N w (read_number at j) h x h
    read_passed {at} {j} {x} x_is =
        promised N w h (read_number at j) _ (read_answered N w h (undamaged_fit N w h (checked_fit checked accepts)) at j) x h x_is refl
