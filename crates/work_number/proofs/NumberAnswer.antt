-- The answer of a number write whose test is passed: one cell is changed, and nothing is freed.
use mathlib.Core.Path.{◌≡◌, refl, sym, ap, ◌∙◌, subst}
use mathlib.Core.Bool.{false}
use mathlib.Core.List.{List}
use Prim.Native.Nat.{ℕ, ◌+◌, ◌*◌}
use native.Mathlib.Omega.{arith}
use lib.ListN.{set}
use Rattle.rules.specs.Heap.{Memory, with_cells}
use Rattle.rules_calls.specs.Calls.{Call, write_number, Answer, reply, accepted, outcome, answer}
use Rattle.rules_calls.proofs.Replies.{own_passed}
use Rattle.rules_calls.proofs.Promised.{promised}
use Rattle.theory_memories.specs.Heaps.{Undamaged}
use Rattle.theory.specs.Balance.{freed_blocks, allocates, allocated_by}
use Rattle.theory_memories.specs.Words.{in_use}
use Rattle.theory.specs.Usable.{outcome_of, Worked}
use Rattle.theory_memories.proofs.Memories.Fit.{Fit, undamaged_fit}
use Rattle.theory_memories.proofs.Memories.Accepted.{fit_accepted}
use Rattle.theory.proofs.EachCall.Balance.{even_alone}
use Rattle.theory.proofs.Usable.WorkDone.{accepted_allocates}
use Rattle.test_arguments.specs.Replies.{own_test}
use Rattle.work_number.specs.Written.{Written}

module _ (N w : ℕ) (h : Memory) (fit : Fit N w h) (a j x : ℕ) (passes : (own_test N h (write_number a j x)).number ≡ 0) where
  abbrev call : Call
  call = write_number a j x

  -- the heap with the number in its cell
  abbrev left : Memory
  left = with_cells (set h.cells (4 * a + j) x) h

  number_answered : answer N w h call ≡ accepted left 0
  unfolding outcome own_test
  number_answered = fit_accepted N w h fit call refl (own_passed N h call refl passes)

  number_freed : 0 ≡ freed_blocks N h left
  unfolding allocates
  number_freed =
      let even : in_use N h + allocated_by call (reply 0 0 0) ≡ freed_blocks N h left + in_use N left =
      subst (λ (y : Answer). in_use N h + allocated_by call y.0 ≡ freed_blocks N h y.1 + in_use N y.1) number_answered
      (even_alone N w h fit call refl) in
      omega (arith, even, accepted_allocates call (reply 0 0 0) refl)

  pub number_worked : Worked N w call h (outcome_of 0 0 0 false) left
  number_worked = record {
    promise = promised N w h call (accepted left 0) number_answered (reply 0 0 0) left refl refl;
    freed_is = number_freed;
  }

pub number_written : (cells : List ℕ) (a j x : ℕ) → Written cells a j x (outcome_of 0 0 0 false) (set cells (4 * a + j) x)
number_written cells a j x =
    record {
      worked = λ N w h undamaged same passes.
          subst (λ (l : List ℕ). Worked N w (write_number a j x) h (outcome_of 0 0 0 false) (with_cells (set l (4 * a + j) x) h)) same
          (number_worked N w h (undamaged_fit N w h undamaged) a j x passes);
    }
