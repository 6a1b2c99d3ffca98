-- Laws of the tally of references, number by number, to 255 at most.
use mathlib.Core.Path.{◌≡◌, refl, sym, ap, ◌∙◌, subst}
use mathlib.Core.List.{List}
use Prim.Native.Nat.{ℕ, zero, suc, ◌+◌, ◌-◌, ◌≤◌, ◌<◌, min}
use native.Mathlib.Decide.{ℕ_discrete}
use native.Mathlib.Omega.{arith}
use lib.Dec.{eqb}
use lib.ListN.{length, get_or, set, length-set}
use lib.Seq.{get_or-set_same, get_or-set_other}
use borrow.Author.Tests.{eq-eqb, ne_eqb}
use Rattle.bitmap.specs.Bit.{count_below}
use Rattle.bitmap.proofs.Zeros.{count_same}
use Rattle.check_references.specs.Tally.{Room, Tallied}
use Rattle.check_references.proofs.Counting.{count_passed, count_failed, count_on}

module _ (read : ℕ → ℕ) (at₀ : List ℕ) where
  -- how many of the first n numbers name block b
  abbrev naming : ℕ → ℕ → ℕ
  naming b n = count_below (λ j. eqb (read j) (b + 1)) n

  pub tallied_start : Room at₀ → Tallied read 0 at₀ at₀
  unfolding count_below
  tallied_start room = record { same_length = refl; named = λ b l. omega (arith, room b l) }

  -- a number that names no block adds nothing ..
  pub tallied_none : (j : ℕ) (at : List ℕ) → read j ≡ 0 → Tallied read j at₀ at → Tallied read (j + 1) at₀ at
  tallied_none j at e t = record {
    same_length = t.same_length;
    named = λ b l.
        let other = ne_eqb (read j) (b + 1) (λ p. omega arith) in
        omega (arith, t.named b l, count_failed (λ i. eqb (read i) (b + 1)) j other);
  }

  -- .. and one that names block i adds 1 there
  pub tallied_one : (j : ℕ) (at : List ℕ) (i v : ℕ) → read j ≡ i + 1 → i < length at₀ → v ≡ min 255 (get_or at i 0 + 1) → Tallied read j at₀ at
      → Tallied read (j + 1) at₀ (set at i v)
  tallied_one j at i v e inside up t =
      record { same_length = length-set at i v ∙ t.same_length; named = λ b l. go b l (ℕ_discrete b i) }
    where
      here : get_or (set at i v) i 0 ≡ min 255 (get_or at₀ i 0 + naming i (j + 1))
      here = omega (
        arith,
        get_or-set_same at i v 0 (omega (arith, t.same_length)),
        t.named i inside,
        count_passed (λ k. eqb (read k) (i + 1)) j (eq-eqb (read j) (i + 1) e),
      )

      go : (b : ℕ) → b < length at₀ → Dec (b ≡ i) → get_or (set at i v) b 0 ≡ min 255 (get_or at₀ b 0 + naming b (j + 1))
      go b l (yes p) = subst (λ (k : ℕ). get_or (set at i v) k 0 ≡ min 255 (get_or at₀ k 0 + naming k (j + 1))) (sym p) here
      go b l (no p) = omega (
        arith,
        get_or-set_other at i b v 0 p,
        t.named b l,
        count_failed (λ k. eqb (read k) (b + 1)) j (ne_eqb (read j) (b + 1) (λ q. p (omega arith))),
      )

  -- what is tallied are bytes
  pub tallied_room : (n : ℕ) (at : List ℕ) → Tallied read n at₀ at → Room at
  tallied_room n at t b l = omega (arith, t.named b (omega (arith, t.same_length)))

  -- n numbers more, tallied by themselves
  pub tallied_more : (more : ℕ → ℕ) (m n : ℕ) (at next : List ℕ) → ((k : ℕ) → k < n → read (m + k) ≡ more k) → Tallied read m at₀ at
      → Tallied more n at next → Tallied read (m + n) at₀ next
  tallied_more more m n at next same t u = record {
    same_length = u.same_length ∙ t.same_length;
    named = λ b l.
        omega (
          arith,
          t.named b l,
          u.named b (omega (arith, t.same_length)),
          count_on (λ j. eqb (read j) (b + 1)) m n,
          count_same (λ k. eqb (read (m + k)) (b + 1)) (λ k. eqb (more k) (b + 1)) n
              (λ k inside. ap (λ (x : ℕ). eqb x (b + 1)) (same k inside)),
        );
  }

  -- one number more, tallied by itself
  pub tallied_next : (v j : ℕ) (at next : List ℕ) → read j ≡ v → Tallied read j at₀ at → Tallied (λ k. v) 1 at next
      → Tallied read (j + 1) at₀ next
  tallied_next v j at next e t u =
      tallied_more (λ k. v) j 1 at next (λ k l. let place : j + k ≡ j = omega arith in ap read place ∙ e) t u

-- numbers that name no block leave a tally as it is
pub tallied_nothing : (n : ℕ) (at : List ℕ) → Room at → Tallied (λ k. 0) n at at
tallied_nothing zero at room = tallied_start (λ k. 0) at room
tallied_nothing (suc n) at room =
    let next : n + 1 ≡ suc n = omega arith in
    subst (λ (m : ℕ). Tallied (λ k. 0) m at at) next (tallied_none (λ k. 0) at n at refl (tallied_nothing n at room))

-- .. and so do those from m to n
pub tallied_past : (read : ℕ → ℕ) (at₀ at : List ℕ) (m n : ℕ) → m ≤ n → ((j : ℕ) → m ≤ j → j < n → read j ≡ 0) → Tallied read m at₀ at
    → Tallied read n at₀ at
tallied_past read at₀ at m n below none t =
    let end : m + (n - m) ≡ n = omega arith in
    subst (λ (k : ℕ). Tallied read k at₀ at) end
    (tallied_more read at₀ (λ k. 0) m (n - m) at at (λ k l. none (m + k) (omega arith) (omega arith)) t
    (tallied_nothing (n - m) at (tallied_room read at₀ m at t)))
