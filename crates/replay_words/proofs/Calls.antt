-- What a list of calls passes, and what an accepted one has passed.
use mathlib.Core.Path.{◌≡◌, refl, sym, ap, ◌∙◌}
use mathlib.Core.Bool.{Bool, true, false, not}
use mathlib.Core.List.{List}
use Prim.Native.Nat.{ℕ, zero, suc, ◌+◌, ◌*◌, ◌/◌, ◌%◌, ◌≤◌, ◌<◌}
use native.Mathlib.Omega.{arith}
use lib.ListN.{length}
use lib.Dec.{leb, eqb}
use denote.Param.Members.{Mut}
use Rattle.std.proofs.Common.{Option}
use Rattle.std.proofs.iter.Yields.{nat_range_steps}
use Rattle.std.proofs.lemmas.Iterator.{YieldsList-from_range}
use Rattle.std.proofs.lemmas.Iterator.Search.{all_from_yields_List}
use Rattle.std.specs.declared.ops.Range.{Range}
use Rattle.std.specs.Fn.{Called}
use Rattle.std.specs.Iterator.{YieldsThen}
use Rattle.std.specs.List.{range_with_len, list_all, FoldsTo}
use Rattle.std.specs.Option.{MatchOption}
use borrow.Author.Tests.{leb-true, not-true, not-false}
use Rattle.rules.specs.Tools.{some_below}
use Rattle.rules.proofs.Tests.{true_some, some_false, some_next, first_not}
use Rattle.replay_words.specs.Encoding.{is_call_at, are_calls}
use Rattle.replay_words.specs.Refusals.{list_refusals, reply_on}

-- the test of each of the numbers from m on, where those before pass
numbers_pass :
    (words : List ℕ) (m n : ℕ) → some_below (λ i. not (is_call_at words i)) m ≡ false
    → list_all (is_call_at words) (range_with_len m n) ≡ not (some_below (λ i. not (is_call_at words i)) (m + n))
numbers_pass words m zero none =
    let end : m + 0 ≡ m = omega arith in
    sym (ap (λ (k : ℕ). not (some_below (λ i. not (is_call_at words i)) k)) end ∙ ap not none)
numbers_pass words m (suc n) none =
    let fails = λ (i : ℕ). not (is_call_at words i) in
    let step : m + 1 + n ≡ m + suc n = omega arith in
    let here :
    (t : Bool) → is_call_at words m ≡ t
    → list_all (is_call_at words) (range_with_len m (suc n)) ≡ not (some_below fails (m + suc n)) =
    λ t. elim t as (λ (t : Bool).
    is_call_at words m ≡ t → list_all (is_call_at words) (range_with_len m (suc n)) ≡ not (some_below fails (m + suc n))) [
      | true ↦ λ e.
          rw e
          (numbers_pass words (m + 1) n (some_next fails m none ∙ ap not e) ∙ ap (λ (k : ℕ). not (some_below fails k)) step)
      | false ↦ λ e. rw e (sym (ap not (true_some fails (m + suc n) m (omega arith) (ap not e))))
    ] in
    here (is_call_at words m) refl

-- `all` over the numbers of the calls
pub all_calls :
    {F : Type 0} {g : Mut F (ℕ × Unit {0}) Bool} (words : List ℕ) (n : ℕ) (u : Range ℕ) (f : F) (r : Bool)
    → ((xs : List ℕ) × (o : Option ℕ) × (j : F) × YieldsThen nat_range_steps (record { start = 0; end = n }) xs o u
    × FoldsTo (λ p x q. Called g p (x, tt) true q) f xs j × MatchOption o (r ≡ true) (λ x. (r ≡ false) × ((h : F) × Called g j (x, tt) false h)))
    → ((x : ℕ) (b : Bool) (q : F) → Called g f (x, tt) b q → (q ≡ f) × (b ≡ is_call_at words x)) → r ≡ are_calls words n
unfolding are_calls some_below
all_calls words n u f r ran call =
    let whole : 0 + n ≡ n = omega arith in
    all_from_yields_List (is_call_at words) u f r ran (YieldsList-from_range 0 n n refl (omega arith)) call
    ∙ numbers_pass words 0 n refl
    ∙ ap (λ (k : ℕ). not (some_below (λ i. not (is_call_at words i)) k)) whole

pub call_at : (words : List ℕ) (n : ℕ) → are_calls words n ≡ true → (i : ℕ) → i < n → is_call_at words i ≡ true
unfolding are_calls
call_at words n e i l =
    let none = not-true (some_below (λ i. not (is_call_at words i)) n) e in
    not-false (is_call_at words i) (some_false (λ i. not (is_call_at words i)) n none i l)

-- ---- the reply

-- what an accepted replay has passed
pub record Passed (shape : Bool) (words : List ℕ) (room : ℕ) : Type 0 where
  pub right_shape : shape ≡ true
  pub calls : are_calls words (length words / 4) ≡ true
  pub enough_room : 3 * (length words / 4) ≤ room

pub accepted_passed : (shape : Bool) (words : List ℕ) (room : ℕ) → (reply_on shape words room).number ≡ 0 → Passed shape words room
unfolding reply_on list_refusals
accepted_passed shape words room e =
    let n : ℕ = length words / 4 in
    let fits = first_not 1 shape _ (omega arith) e in
    let whole = first_not 10 (eqb (length words % 4) 0) _ (omega arith) fits.1 in
    let calls = first_not 9 (are_calls words n) _ (omega arith) whole.1 in
    let enough = first_not 18 (leb (3 * n) room) _ (omega arith) calls.1 in
    record { right_shape = fits.0; calls = calls.0; enough_room = leb-true (3 * n) room enough.0 }
