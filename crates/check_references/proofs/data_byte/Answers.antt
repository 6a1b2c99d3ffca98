use mathlib.Core.Path.{◌≡◌, sym, ap, ◌∙◌, subst}
use mathlib.Core.Bool.{Bool, true, false, not}
use Prim.Native.Nat.{ℕ, ◌<◌, ◌+◌, ◌-◌, ◌*◌, ◌%◌, ◌^◌}
use native.Mathlib.Decide.{ℕ_discrete}
use native.Mathlib.Omega.{arith}
use lib.Bits.{bit_or}
use lib.Dec.{eqb}
use borrow.Author.Tests.{eq-eqb, ne_eqb}
use Rattle.bitmap.specs.Bit.{bit_of}
use Rattle.bitmap.proofs.Bits.{bit_zero, shift_exact}
use Rattle.bitmap.proofs.Digits.{digit_or, digit_shl, digit_shl_low, digit_past}
use Rattle.rules.specs.Heap.{in_data}
use Rattle.map_objects.specs.Walk.{data_before}
use Rattle.map_objects.proofs.Walk.{walk_next}
use Rattle.check_references.proofs.Eights.{eight_outside, eight_within}
use Rattle.check_references.proofs.data_byte.Goals as goal
use Rattle.check_references.proofs.data_byte.Goals.{then-in_data, else-in_data}
use Rattle.check_references.proofs.data_byte.Invariants.{MadeBelow}

-- bit t of a byte whose one bit is bit n
same_bit : (n : ℕ) → n < 8 → bit_of (1 * 2 ^ n % 256) n ≡ 1
same_bit n inside =
    let place : n ≡ n + 0 = omega arith in
    rw (shift_exact 1 n (omega arith) inside) (ap (bit_of (1 * 2 ^ n)) place ∙ digit_shl 1 n 0)

lower_bit : (n t : ℕ) → n < 8 → t < n → bit_of (1 * 2 ^ n % 256) t ≡ 0
lower_bit n t inside l = rw (shift_exact 1 n (omega arith) inside) (digit_shl_low 1 n t l)

upper_bit : (n t : ℕ) → n < 8 → n < t → bit_of (1 * 2 ^ n % 256) t ≡ 0
upper_bit n t inside l =
    let place : t ≡ n + (t - n) = omega arith in
    rw (shift_exact 1 n (omega arith) inside)
    (ap (bit_of (1 * 2 ^ n)) place ∙ digit_shl 1 n (t - n) ∙ digit_past 1 1 (t - n) (omega arith) (omega arith))

-- bit n raised
raised : (test : ℕ → Bool) (from made n : ℕ) → n < 8 → test (from + n) ≡ true → MadeBelow test from made n
    → MadeBelow test from (bit_or made (1 * 2 ^ n % 256)) (n + 1)
raised test from made n inside e h = (
  λ t l. omega (arith, digit_or made (1 * 2 ^ n % 256) t, h.0 t (omega arith), upper_bit n t inside (omega arith)),
  λ t l. elim (ℕ_discrete t n) [
    | yes q ↦
        ap (λ (x : ℕ). test (from + x)) q ∙ e
        ∙ sym (ap (λ (x : ℕ). not (eqb (bit_of (bit_or made (1 * 2 ^ n % 256)) x) 0)) q
        ∙ ap not (ne_eqb (bit_of (bit_or made (1 * 2 ^ n % 256)) n) 0
        (λ z. omega (arith, z, digit_or made (1 * 2 ^ n % 256) n, same_bit n inside))))
    | no q ↦
        let same : bit_of made t ≡ bit_of (bit_or made (1 * 2 ^ n % 256)) t =
        omega (arith, digit_or made (1 * 2 ^ n % 256) t, lower_bit n t inside (omega arith)) in
        h.1 t (omega arith) ∙ ap (λ (x : ℕ). not (eqb x 0)) same
  ],
)

-- bit n left
left : (test : ℕ → Bool) (from made n : ℕ) → test (from + n) ≡ false → MadeBelow test from made n → MadeBelow test from made (n + 1)
left test from made n e h = (
  λ t l. h.0 t (omega arith),
  λ t l. elim (ℕ_discrete t n) [
    | yes q ↦
        ap (λ (x : ℕ). test (from + x)) q ∙ e ∙ sym (ap not (eq-eqb (bit_of made t) 0 (h.0 t (omega arith))))
    | no q ↦ h.1 t (omega arith)
  ],
)

pub returns-then-not-before : goal.returns-then-not-before
returns-then-not-before c =
    eight_outside c.args.blocks c.args.a.now c.args.b.now c.args.d.now c.args.k c.requires.4
    (sym c.if-not-before.true ∙ c.requires.5) c.if-d-k-eq0.true

pub returns-then-first_byte-eq0 : goal.returns-then-first_byte-eq0
returns-then-first_byte-eq0 c =
    eight_within c.args.blocks c.args.a.now c.args.b.now c.args.d.now c.args.k c.requires.4
    (sym c.if-not-before.false ∙ c.requires.5) c.if-a-k.true c.first_byte.result
    (c.first_byte.ensures c.args.blocks c.requires.4) c.if-first_byte-eq0.true

pub loop-s-init : goal.loop-s-init
loop-s-init c =
    let place : 8 * c.args.k ≡ 8 * c.args.k + 0 = omega arith in (
      c.requires.5 ∙ ap (data_before c.args.blocks c.args.a.now c.args.b.now c.args.d.now) place,
      (λ t l. bit_zero t, λ t l. absurd (omega arith)),
    )

pub loop-s-preserved : goal.loop-s-preserved
loop-s-preserved c =
    let at : ℕ = c.loop-s.s in
    let place : 8 * c.args.k + at + 1 ≡ 8 * c.args.k + (at + 1) = omega arith in
    let test = in_data c.args.blocks c.args.a.now c.args.b.now c.args.d.now in (
      walk_next c.args.blocks c.args.a.now c.args.b.now c.args.d.now (8 * c.args.k + at) _ c.is_in_data-in_data.ensures
          ∙ ap (data_before c.args.blocks c.args.a.now c.args.b.now c.args.d.now) place,
      elim c.if-in_data.branch [
        | then-in_data w ↦
            subst (λ (x : ℕ). MadeBelow test (8 * c.args.k) x (at + 1)) (sym w.made-is)
            (raised test (8 * c.args.k) c.loop-s.made at (omega arith) (sym c.is_in_data-in_data.ensures ∙ w.if-in_data.true) c.loop-s.invariant.1)
        | else-in_data w ↦
            subst (λ (x : ℕ). MadeBelow test (8 * c.args.k) x (at + 1)) (sym w.made-is)
            (left test (8 * c.args.k) c.loop-s.made at (sym c.is_in_data-in_data.ensures ∙ w.if-in_data.false) c.loop-s.invariant.1)
      ],
    )

pub returns : goal.returns
returns c = λ t u. c.loop-s.invariant.1.1 t (omega arith)
