-- The second list of an open collection that 13 passes ends with its first 0.
use mathlib.Core.Path.{◌≡◌, sym, ap, ◌∙◌}
use mathlib.Core.Bool.{Bool, true, false, not, ◌&&◌, ◌||◌}
use Prim.Native.Nat.{ℕ, zero, suc, ◌+◌, ◌-◌, ◌<◌}
use native.Mathlib.Decide.{ℕ_discrete}
use native.Mathlib.Omega.{arith}
use lib.Dec.{eqb, leb}
use lib.ListN.{length, get_or}
use borrow.Author.Tests.{eqb-false, ne_eqb}
use Rattle.rules.specs.Tools.{some_below}
use Rattle.rules.specs.Heap.{Memory}
use Rattle.rules_steps.specs.Steps.{is_open, bad_next, bad_place, stray_mark, root_missed, cell_missed, is_untidy}
use Rattle.rules.proofs.Tests.{and_false, or_false, some_false}
use Rattle.step_advance.specs.Steps.{Ended}

pub listed_ended : (N : ℕ) (h : Memory) → is_open N h ≡ true → is_untidy N h ≡ false → Ended N h.list
unfolding is_untidy bad_next
listed_ended N h was_open passes = record {
  zeros = λ k none j from within.
      let there : k + (j - k) ≡ j = omega arith in
      ap (λ (m : ℕ). get_or h.list m 0) (sym there) ∙ run k none (j - k) (omega arith);
}
  where
    all :
        some_below (bad_next h) (N - 1) || some_below (bad_place N h) N || some_below (stray_mark N h) N
        || some_below (root_missed h) (length h.roots) || some_below (cell_missed N h) N
        ≡ false
    all = rw (was_open, is_untidy) at passes

    nexts : some_below (bad_next h) (N - 1) ≡ false
    nexts = (or_false _ _ (or_false _ _ (or_false _ _ (or_false _ _ all).0).0).0).0

    next : (m : ℕ) → m + 1 < N → get_or h.list m 0 ≡ 0 → get_or h.list (m + 1) 0 ≡ 0
    next m l none =
        let v : ℕ = get_or h.list m 0 in
        let follows : ℕ = get_or h.list (m + 1) 0 in
        elim (ℕ_discrete follows 0) [
          | yes z ↦ z
          | no some ↦
              let right = some_false (bad_next h) (N - 1) nexts m (omega arith) in
              let both = and_false (not (eqb follows 0)) (eqb v 0 || leb follows v) right (ap not (ne_eqb follows 0 some)) in
              absurd (eqb-false v 0 (or_false (eqb v 0) (leb follows v) both).0 none)
        ]

    run : (k : ℕ) → get_or h.list k 0 ≡ 0 → (m : ℕ) → k + m < N → get_or h.list (k + m) 0 ≡ 0
    run k none zero l = let here : k + 0 ≡ k = omega arith in ap (λ (i : ℕ). get_or h.list i 0) here ∙ none
    run k none (suc m) l =
        let after : k + suc m ≡ k + m + 1 = omega arith in
        ap (λ (i : ℕ). get_or h.list i 0) after ∙ next (k + m) (omega arith) (run k none m (omega arith))
