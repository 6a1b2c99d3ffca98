use mathlib.Core.Path.{◌≡◌, sym, ap, ◌∙◌}
use mathlib.Core.Logic.{inl, inr}
use mathlib.Core.Bool.{Bool, not, ◌&&◌}
use Prim.Native.Nat.{ℕ, ◌<◌, ◌+◌, ◌*◌, ◌/◌}
use native.Mathlib.Omega.{arith}
use lib.Dec.{eqb}
use lib.ListN.{get_or}
use Rattle.planes.specs.Plane.{count_at}
use Rattle.rules.specs.Tools.{some_below}
use Rattle.rules.proofs.Searches.{searched_start, searched_all}
use Rattle.rules.proofs.Stretches.{some_further, eight_hit, eight_past}
use Rattle.rules.proofs.Tests.{test_cases_lem, true_or, false_or, done, also, first_found, first_past, first_none}
use Rattle.check_counts.specs.Late.{count_off, stray_tally, off_tally, stray_in, off_in}
use Rattle.check_counts.proofs.late_kind.Goals as goal

pub loop-k-init : goal.loop-k-init
loop-k-init c =
    let start = searched_start (off_tally c.args.blocks c.args.width c.args.a.now c.args.b.now c.args.counts.now c.args.at.now) c.args.blocks in
    (searched_start (stray_tally c.args.blocks c.args.a.now c.args.b.now c.args.at.now) c.args.blocks, sym start.1)

-- the two tests
abbrev strays-Then-is_stray : (c : goal.Then-is_stray) → ℕ → Bool
strays-Then-is_stray c = stray_tally c.args.blocks c.args.a.now c.args.b.now c.args.at.now

-- the tests at the eight blocks of byte k
stray-here-Then-is_stray : (c : goal.Then-is_stray) → (i : ℕ) → i < 8 → strays-Then-is_stray c (8 * c.loop-k.k + i) ≡ stray_in c.first_byte-first.result c.args.at.now c.loop-k.k i
unfolding stray_in
stray-here-Then-is_stray c i u =
    ap (λ (t : Bool). not t && not (eqb (get_or c.args.at.now (8 * c.loop-k.k + i) 0) 0))
    (c.first_byte-first.ensures c.args.blocks (omega (arith, c.loop-k-test.true)) i u)

pub returns-then-is_stray : goal.returns-then-is_stray
returns-then-is_stray c =
    let k : ℕ = c.loop-k.k in
    sym
    (first_found 4 _ _
    (some_further (strays-Then-is_stray c) (8 * (k + 1)) c.args.blocks (omega (arith, c.loop-k-test.true))
    (eight_hit (strays-Then-is_stray c) (stray_in c.first_byte-first.result c.args.at.now k) k (stray-here-Then-is_stray c)
    (sym c.is_stray.ensures ∙ c.if-is_stray.true))))

-- the two tests
abbrev strays-After-is_off-off : (c : goal.After-is_off-off) → ℕ → Bool
strays-After-is_off-off c = stray_tally c.args.blocks c.args.a.now c.args.b.now c.args.at.now

abbrev offs-After-is_off-off : (c : goal.After-is_off-off) → ℕ → Bool
offs-After-is_off-off c = off_tally c.args.blocks c.args.width c.args.a.now c.args.b.now c.args.counts.now c.args.at.now

-- the tests at the eight blocks of byte k
stray-here-After-is_off-off : (c : goal.After-is_off-off) → (i : ℕ) → i < 8 → strays-After-is_off-off c (8 * c.loop-k.k + i) ≡ stray_in c.first_byte-first.result c.args.at.now c.loop-k.k i
unfolding stray_in
stray-here-After-is_off-off c i u =
    ap (λ (t : Bool). not t && not (eqb (get_or c.args.at.now (8 * c.loop-k.k + i) 0) 0))
    (c.first_byte-first.ensures c.args.blocks (omega (arith, c.loop-k-test.true)) i u)

off-here : (c : goal.After-is_off-off) → (i : ℕ) → i < 8
    → offs-After-is_off-off c (8 * c.loop-k.k + i)
    ≡ off_in c.first_byte-first.result (c.args.blocks / 8) c.args.width c.args.counts.now c.args.at.now c.loop-k.k i
unfolding off_in
off-here c i u =
    ap (λ (t : Bool).
    count_off t c.args.width (count_at (c.args.blocks / 8) c.args.width c.args.counts.now (8 * c.loop-k.k + i))
    (get_or c.args.at.now (8 * c.loop-k.k + i) 0))
    (c.first_byte-first.ensures c.args.blocks (omega (arith, c.loop-k-test.true)) i u)

pub loop-k-preserved : goal.loop-k-preserved
loop-k-preserved c =
    let k : ℕ = c.loop-k.k in
    let other = off_in c.first_byte-first.result (c.args.blocks / 8) c.args.width c.args.counts.now c.args.at.now k in (
      (
        omega (arith, c.loop-k-test.true),
        eight_past (strays-After-is_off-off c) (stray_in c.first_byte-first.result c.args.at.now k) k (stray-here-After-is_off-off c)
            (sym c.is_stray.ensures ∙ c.if-is_stray.false) c.loop-k.invariant.0.1,
      ),
      elim (test_cases_lem c.is_off-off.result) [
        | inl t ↦ true_or c.loop-k.off c.is_off-off.result (inr t) ∙ sym (eight_hit (offs-After-is_off-off c) other k (off-here c) (sym c.is_off-off.ensures ∙ t))
        | inr f ↦ elim (test_cases_lem (some_below (offs-After-is_off-off c) (8 * k))) [
          | inl e ↦
              true_or c.loop-k.off c.is_off-off.result (inl (c.loop-k.invariant.1 ∙ e))
              ∙ sym (some_further (offs-After-is_off-off c) (8 * k) (8 * (k + 1)) (omega arith) e)
          | inr e ↦
              false_or c.loop-k.off c.is_off-off.result (c.loop-k.invariant.1 ∙ e) f
              ∙ sym (eight_past (offs-After-is_off-off c) other k (off-here c) (sym c.is_off-off.ensures ∙ f) e)
        ]
      ],
    )

-- the two tests
abbrev strays-Then-off : (c : goal.Then-off) → ℕ → Bool
strays-Then-off c = stray_tally c.args.blocks c.args.a.now c.args.b.now c.args.at.now

abbrev offs-Then-off : (c : goal.Then-off) → ℕ → Bool
offs-Then-off c = off_tally c.args.blocks c.args.width c.args.a.now c.args.b.now c.args.counts.now c.args.at.now

pub returns-then-off : goal.returns-then-off
returns-then-off c =
    let done : 8 * c.loop-k.k ≡ c.args.blocks = omega (arith, c.loop-k.invariant.0.0) in
    sym
    (first_past 4 (some_below (strays-Then-off c) c.args.blocks) _ (sym (searched_all (strays-Then-off c) c.args.blocks (8 * c.loop-k.k) c.loop-k.invariant.0 (omega arith)))
    ∙ first_found 5 _ _ (ap (some_below (offs-Then-off c)) (sym done) ∙ sym c.loop-k.invariant.1 ∙ c.if-off.true))

-- the two tests
abbrev strays-Else-off : (c : goal.Else-off) → ℕ → Bool
strays-Else-off c = stray_tally c.args.blocks c.args.a.now c.args.b.now c.args.at.now

abbrev offs-Else-off : (c : goal.Else-off) → ℕ → Bool
offs-Else-off c = off_tally c.args.blocks c.args.width c.args.a.now c.args.b.now c.args.counts.now c.args.at.now

pub returns-else-off : goal.returns-else-off
returns-else-off c =
    let end : 8 * c.loop-k.k ≡ c.args.blocks = omega (arith, c.loop-k.invariant.0.0) in
    sym
    (first_none _
    (also (sym (searched_all (strays-Else-off c) c.args.blocks (8 * c.loop-k.k) c.loop-k.invariant.0 (omega arith)))
    (also (ap (some_below (offs-Else-off c)) (sym end) ∙ sym c.loop-k.invariant.1 ∙ c.if-off.false) done)))
