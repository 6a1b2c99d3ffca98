-- The bits of the mark maps that code writes (request U8), and that each is the map before it with some bits written.
use mathlib.Core.Path.{◌≡◌, refl, sym, ap, ◌∙◌, subst}
use mathlib.Core.Logic.{◌≢◌}
use mathlib.Core.Bool.{Bool, true, false, ◌||◌, or-true, or-false, or_assoc}
use mathlib.Core.List.{List}
use Prim.Native.Nat.{ℕ, zero, suc, ◌+◌, ◌-◌, ◌*◌, ◌≤◌, ◌<◌}
use native.Mathlib.Decide.{ℕ_discrete, dec_lt}
use native.Mathlib.Omega.{arith}
use lib.Dec.{eqb}
use lib.ListN.{length, get_or}
use borrow.Author.Tests.{eq-eqb, ne_eqb}
use Rattle.bitmap.specs.Bit.{set_bit}
use Rattle.bitmap.proofs.Rewrites.{Rewritten, bit}
use Rattle.rules.specs.Tools.{some_below}
use Rattle.step_marks.specs.Marks.{mark_one, mark_named, mark_touched}
use Rattle.step_marks.proofs.Marked.{mark_none, mark_past, mark_some, length_mark_one, length_mark_named}
use Rattle.step_list.specs.Lists.{is_set}
use Rattle.step_list.proofs.Bits.{made_set, others_same}

-- ---- one reference

module _ (N : ℕ) (map : List ℕ) (v : ℕ) where
  pub one_rewritten : {old : List ℕ} → Rewritten old map → Rewritten old (mark_one N map v)
  one_rewritten {old} r =
      elim (ℕ_discrete v 0) [
        | yes e ↦ subst (λ (m : List ℕ). Rewritten old m) (mark_none N map e) r
        | no some ↦ elim (dec_lt N v) [
          | yes past ↦ subst (λ (m : List ℕ). Rewritten old m) (mark_past N map some past) r
          | no within ↦ subst (λ (m : List ℕ). Rewritten old m) (mark_some N map some (omega arith)) (bit (v - 1) 1 (omega arith) r)
        ]
      ]

  -- another block's bit stays
  others_kept : (b : ℕ) → v ≢ b + 1 → is_set (mark_one N map v) b ≡ is_set map b
  others_kept b other =
      elim (ℕ_discrete v 0) [
        | yes e ↦ ap (λ (m : List ℕ). is_set m b) (sym (mark_none N map e))
        | no some ↦ elim (dec_lt N v) [
          | yes past ↦ ap (λ (m : List ℕ). is_set m b) (sym (mark_past N map some past))
          | no within ↦
              ap (λ (m : List ℕ). is_set m b) (sym (mark_some N map some (omega arith)))
              ∙ others_same map (v - 1) 1 b (omega arith) (λ e. other (omega arith))
        ]
      ]

  -- where v names block b, the block is one of the heap's
  pub one_bits : 8 * length map ≡ N → (b : ℕ) → (v ≡ b + 1 → v ≤ N) → is_set (mark_one N map v) b ≡ is_set map b || eqb v (b + 1)
  one_bits long b within =
      elim (ℕ_discrete v (b + 1)) [
        | yes e ↦
            let at : v - 1 ≡ b = omega arith in
            let inside = within e in
            ap (λ (m : List ℕ). is_set m b) (sym (mark_some N map (λ z. omega arith) inside))
            ∙ ap (λ (i : ℕ). is_set (set_bit map i 1) b) at ∙ made_set map b (omega arith)
            ∙ sym (or-true (is_set map b)) ∙ ap (λ (t : Bool). is_set map b || t) (sym (eq-eqb v (b + 1) e))
        | no n ↦ others_kept b n ∙ sym (or-false (is_set map b)) ∙ ap (λ (t : Bool). is_set map b || t) (sym (ne_eqb v (b + 1) n))
      ]

-- ---- what a run of cells names

some_more : (test : ℕ → Bool) (n : ℕ) → some_below test n || test n ≡ some_below test (suc n)
unfolding some_below
some_more test n = go (some_below test n)
  where
    go : (s : Bool) → s || test n ≡ elim s [ true ↦ true | false ↦ test n ]
    go true = refl
    go false = refl

module _ (N : ℕ) (map cells : List ℕ) (j : ℕ) where
  pub named_rewritten : {old : List ℕ} → Rewritten old map → (n : ℕ) → Rewritten old (mark_named N map cells j n)
  unfolding mark_named
  named_rewritten r zero = r
  named_rewritten r (suc n) = one_rewritten N (mark_named N map cells j n) (get_or cells (j + n) 0) (named_rewritten r n)

  -- cell j + k names block b
  abbrev naming : ℕ → ℕ → Bool
  naming b k = eqb (get_or cells (j + k) 0) (b + 1)

  pub named_bits : 8 * length map ≡ N → (n b : ℕ) → b < N → is_set (mark_named N map cells j n) b ≡ is_set map b || some_below (naming b) n
  unfolding mark_named some_below
  named_bits long zero b l = sym (or-false (is_set map b))
  named_bits long (suc n) b l =
      one_bits N (mark_named N map cells j n) (get_or cells (j + n) 0) (omega (arith, length_mark_named N map cells j n)) b (λ e. omega arith)
      ∙ ap (λ (t : Bool). t || naming b n) (named_bits long n b l)
      ∙ or_assoc (is_set map b) (some_below (naming b) n) (naming b n) ∙ ap (λ (t : Bool). is_set map b || t) (some_more (naming b) n)

-- ---- the three of a store

module _ (N : ℕ) (map : List ℕ) (owner old new : ℕ) where
  pub touched_rewritten : {before : List ℕ} → Rewritten before map → Rewritten before (mark_touched N map owner old new)
  touched_rewritten r =
      one_rewritten N (mark_one N (mark_one N map owner) old) new
      (one_rewritten N (mark_one N map owner) old (one_rewritten N map owner r))

  pub touched_bits :
      8 * length map ≡ N → owner ≤ N → old ≤ N → new ≤ N → (b : ℕ)
      → is_set (mark_touched N map owner old new) b ≡ is_set map b || ((eqb owner (b + 1) || eqb old (b + 1)) || eqb new (b + 1))
  touched_bits long owner_le old_le new_le b =
      let first = length_mark_one N map owner in
      let second = length_mark_one N (mark_one N map owner) old in
      one_bits N (mark_one N (mark_one N map owner) old) new (omega arith) b (λ _. new_le)
      ∙ ap (λ (t : Bool). t || eqb new (b + 1))
      (one_bits N (mark_one N map owner) old (omega arith) b (λ _. old_le)
      ∙ ap (λ (t : Bool). t || eqb old (b + 1)) (one_bits N map owner long b (λ _. owner_le))
      ∙ or_assoc (is_set map b) (eqb owner (b + 1)) (eqb old (b + 1)))
      ∙ or_assoc (is_set map b) (eqb owner (b + 1) || eqb old (b + 1)) (eqb new (b + 1))
