-- Laws of the stack in the waiting list: a push, a pop, its start and its end.
use mathlib.Core.Path.{◌≡◌, refl, sym, ap, ap₂, ◌∙◌}
use mathlib.Core.Bool.{Bool}
use mathlib.Core.List.{List, ◌∷◌}
use Prim.Native.Nat.{ℕ, zero, suc, ◌+◌, ◌-◌, ◌≤◌, ◌<◌}
use native.Mathlib.Numerals.{add-one}
use native.Mathlib.Decide.{ℕ_discrete}
use native.Mathlib.Omega.{arith}
use lib.ListN.{length, get_or, set, replicate, length-set, length-replicate}
use lib.Seq.{get_or-set_same, get_or-set_other, ext_get_or}
use Rattle.count_up.specs.Stack.{top_first, Stack}
use Rattle.count_up.proofs.Counts.{passing_le}

-- what is written behind the stack doesn't show
pub top_first_kept : (waiting : List ℕ) (k n v : ℕ) → n ≤ k → top_first (set waiting k v) n ≡ top_first waiting n
unfolding top_first
top_first_kept waiting k zero v h = refl
top_first_kept waiting k (suc n) v h =
    ap₂ {C = List ℕ} (λ x xs. x ∷ xs) (get_or-set_other waiting k n v 0 (λ e. omega arith)) (top_first_kept waiting k n v (omega arith))

pub top_first_push : (waiting : List ℕ) (n v : ℕ) → n < length waiting → top_first (set waiting n v) (n + 1) ≡ v ∷ top_first waiting n
unfolding top_first
top_first_push waiting n v h = rw (add-one, get_or-set_same, top_first_kept waiting n n v (omega arith))

pub top_first_pop : (waiting : List ℕ) (n : ℕ) → 0 < n → top_first waiting n ≡ get_or waiting (n - 1) 0 ∷ top_first waiting (n - 1)
unfolding top_first
top_first_pop waiting n h =
    let one_more : n ≡ suc (n - 1) = omega arith in
    ap (λ (k : ℕ). top_first waiting k) one_more

zero_replicate : (n k : ℕ) → ◌≡◌ {A = ℕ} (get_or (replicate n 0) k 0) 0
zero_replicate zero k = refl
zero_replicate (suc n) zero = refl
zero_replicate (suc n) (suc k) = zero_replicate n k

module _ {test : ℕ → Bool} {N w : ℕ} {counts waiting : List ℕ} where
  -- a cleared waiting list is an empty stack, and back
  pub stack_empty : waiting ≡ replicate N 0 → Stack test N w counts waiting 0
  stack_empty e = record {
    length_is = ap length e ∙ length-replicate N 0;
    blocks = λ k l. absurd (omega arith);
    come = λ k l. absurd (omega arith);
    clear = λ k l. ap (λ (x : List ℕ). get_or x k 0) e ∙ zero_replicate N k;
    room = omega (arith, passing_le test N w counts);
  }

  pub stack_emptied : Stack test N w counts waiting 0 → waiting ≡ replicate N 0
  stack_emptied s =
      ext_get_or 0 waiting (replicate N 0) (s.length_is ∙ sym (length-replicate N 0))
      (λ k l. s.clear k (omega arith) ∙ sym (zero_replicate N k))

  -- the top place taken and made 0
  pub stack_pop : {top : ℕ} → 0 < top → Stack test N w counts waiting top → Stack test N w counts (set waiting (top - 1) 0) (top - 1)
  stack_pop {top} h s = record {
    length_is = length-set waiting (top - 1) 0 ∙ s.length_is;
    blocks = λ k l. rw (get_or-set_other waiting (top - 1) k 0 0 (λ e. omega arith)) (s.blocks k (omega arith));
    come = λ k l. rw (get_or-set_other waiting (top - 1) k 0 0 (λ e. omega arith)) (s.come k (omega arith));
    clear = λ k l. cleared k l (ℕ_discrete k (top - 1));
    room = omega (arith, s.room);
  }
    where
      cleared : (k : ℕ) → top - 1 ≤ k → Dec (k ≡ top - 1) → get_or (set waiting (top - 1) 0) k 0 ≡ 0
      cleared k l (yes e) =
          let inside : top - 1 < length waiting = omega (arith, s.length_is, s.room) in
          rw (e, get_or-set_same)
      cleared k l (no d) = rw (get_or-set_other waiting (top - 1) k 0 0 d) (s.clear k (omega arith))
