use mathlib.Core.Path.{◌≡◌, sym, ap, ◌∙◌, subst}
use mathlib.Core.List.{List}
use Prim.Native.Nat.{ℕ, ◌≤◌, ◌<◌, ◌+◌, ◌-◌, ◌*◌, ◌%◌, ◌^◌}
use native.Mathlib.Decide.{ℕ_discrete}
use native.Mathlib.Omega.{arith}
use lib.Bits.{bit_or}
use lib.ListN.{length, get_or, take, drop}
use Rattle.std.proofs.lemmas.List.{length-take, length-drop, get_or-take, get_or-drop}
use Rattle.bitmap.specs.Bit.{bit_of}
use Rattle.bitmap.proofs.Digits.{digit_or, digit_mod, digit_shl}
use Rattle.check_references.proofs.filled_cells.Goals as goal
use Rattle.check_references.proofs.filled_cells.Goals.{then-v-ne0, else-v-ne0}
use Rattle.check_references.proofs.filled_cells.Invariants.{FilledBelow}

-- the stretch of byte k
abbrev stretch : List ℕ → ℕ → List ℕ
stretch cells k = take (32 * (k + 1) - 32 * k) (drop (32 * k) cells)

stretch_length : (cells : List ℕ) (k : ℕ) → 32 * (k + 1) ≤ length cells → length (stretch cells k) ≡ 32
stretch_length cells k l =
    omega (arith, length-take (32 * (k + 1) - 32 * k) (drop (32 * k) cells), length-drop (32 * k) cells)

stretch_item : (cells : List ℕ) (k i : ℕ) → i < 32 → get_or (stretch cells k) i 0 ≡ get_or cells (32 * k + i) 0
stretch_item cells k i l =
    get_or-take (32 * (k + 1) - 32 * k) (drop (32 * k) cells) i 0 (omega arith) ∙ get_or-drop (32 * k) cells i 0

-- bit n raised
raised : (cells : List ℕ) (filled n : ℕ) → n < 32 → FilledBelow cells filled n → FilledBelow cells (bit_or filled (1 * 2 ^ n % 2 ^ 32)) (n + 1)
raised cells filled n inside h i l e =
    elim (ℕ_discrete i n) [
      | yes q ↦
          absurd
          (omega (
            arith,
            digit_or filled (1 * 2 ^ n % 2 ^ 32) i,
            digit_mod (1 * 2 ^ n) 32 i (omega arith),
            ap (bit_of (1 * 2 ^ n)) (let place : i ≡ n + 0 = omega arith in place),
            digit_shl 1 n 0,
          ))
      | no q ↦ h i (omega arith) (omega (arith, digit_or filled (1 * 2 ^ n % 2 ^ 32) i))
    ]

-- bit n left
left : (cells : List ℕ) (filled n : ℕ) → get_or cells n 0 ≡ 0 → FilledBelow cells filled n → FilledBelow cells filled (n + 1)
left cells filled n empty h i l e =
    elim (ℕ_discrete i n) [
      | yes q ↦ ap (λ (x : ℕ). get_or cells x 0) q ∙ empty
      | no q ↦ h i (omega arith) e
    ]

pub loop-j-init : goal.loop-j-init
loop-j-init c = λ i l e. absurd (omega arith)

pub loop-j-preserved : goal.loop-j-preserved
loop-j-preserved c =
    let cells = stretch c.args.cells.now c.args.k in
    let j : ℕ = c.loop-j.j in
    let inside : j < 32 = omega (arith, c.loop-j-test.true, stretch_length c.args.cells.now c.args.k c.requires.0) in
    elim c.if-v-ne0.branch [
      | then-v-ne0 w ↦ subst (λ (x : ℕ). FilledBelow cells x (j + 1)) (sym w.filled-is) (raised cells c.loop-j.filled j inside c.loop-j.invariant)
      | else-v-ne0 w ↦ subst (λ (x : ℕ). FilledBelow cells x (j + 1)) (sym w.filled-is) (left cells c.loop-j.filled j w.if-v-ne0.false c.loop-j.invariant)
    ]

pub returns-after-loop-j : goal.returns-after-loop-j
returns-after-loop-j c = λ i u e.
    sym (stretch_item c.args.cells.now c.args.k i u)
    ∙ c.loop-j.invariant i (omega (arith, c.loop-j-test.false, stretch_length c.args.cells.now c.args.k c.requires.0)) e

pub returns-else-has_filled : goal.returns-else-has_filled
returns-else-has_filled c = λ i u e.
    sym (stretch_item c.args.cells.now c.args.k i u)
    ∙ c.has_filled.ensures c.if-has_filled.false i (omega (arith, stretch_length c.args.cells.now c.args.k c.requires.0))
