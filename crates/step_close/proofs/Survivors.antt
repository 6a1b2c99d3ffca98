-- Survivors: the references that name them, a run of cells, and the stack when a count is made 0.
use mathlib.Core.Path.{◌≡◌, refl, sym, ap, ◌∙◌}
use mathlib.Core.Logic.{◌≢◌, inl, inr}
use mathlib.Core.Bool.{Bool, true, false}
use mathlib.Core.List.{List}
use Prim.Native.Nat.{ℕ, ◌+◌, ◌-◌, ◌*◌, ◌/◌, ◌^◌, ◌≤◌, ◌<◌}
use native.Mathlib.Nat.{eq-zero-or-pos}
use native.Mathlib.Numerals.{add-one}
use native.Mathlib.Decide.{ℕ_discrete}
use native.Mathlib.Omega.{arith}
use lib.ListN.{length, get_or}
use lib.Pow.{pow_pos}
use Rattle.bitmap.specs.Bit.{bit_at, one}
use Rattle.bitmap.proofs.Maps.{bit_past_end}
use Rattle.planes.specs.Plane.{count_at, set_count}
use Rattle.rules_stores.specs.Store.{Work, work, count_down}
use Rattle.count_up.specs.Ready.{Planes}
use Rattle.count_up.specs.Stack.{top_first, counted, passing, remaining, Stack, Worked}
use Rattle.count_up.proofs.Counts.{count_written, count_kept, passing_set}
use Rattle.count_up.proofs.Worked.{worked_next}
use Rattle.step_list.specs.Lists.{is_set}
use Rattle.step_list.proofs.Bits.{set_is, clear_is}
use Rattle.step_close.specs.Close.{to_survivor, count_down_survivors}

-- ---- one reference

module _ (v : ℕ) (marks : List ℕ) where
  survivor_none : v ≡ 0 → 0 ≡ to_survivor marks v
  unfolding to_survivor
  survivor_none e = go (is_set marks (v - 1))
    where
      go : (t : Bool) → ◌≡◌ {A = ℕ} 0 (elim t [ true ↦ v | false ↦ 0 ])
      go true = sym e
      go false = refl

  dead : is_set marks (v - 1) ≡ false → 0 ≡ to_survivor marks v
  unfolding to_survivor
  dead e = rw (e, to_survivor)

  survivor_past : {N : ℕ} → N ≡ 8 * length marks → N < v → 0 ≡ to_survivor marks v
  survivor_past whole past = dead (clear_is marks (v - 1) (λ q. omega (arith, bit_past_end marks (v - 1) (omega arith))))

  -- v names no block
  pub survivor_unnamed : {N : ℕ} → N ≡ 8 * length marks → (1 ≤ v → N < v) → 0 ≡ to_survivor marks v
  survivor_unnamed whole past = elim (eq-zero-or-pos v) [ inl e ↦ survivor_none e | inr some ↦ survivor_past whole (past some) ]

  -- v names a block
  module _ (block : ℕ) (named : block + 1 ≡ v) where
    there : v - 1 ≡ block
    there = omega arith

    pub survivor_unmarked : bit_at marks block ≢ 1 → 0 ≡ to_survivor marks v
    survivor_unmarked n = dead (rw there (clear_is marks block n))

    pub survivor_marked : bit_at marks block ≡ 1 → v ≡ to_survivor marks v
    unfolding to_survivor
    survivor_marked e = rw (there, set_is marks block e, to_survivor)

-- ---- a run of cells

pub survivors_more :
    {N w left top top' : ℕ} {counts waiting counts' waiting' : List ℕ} (marks : List ℕ) (s : Work) (cells : List ℕ) (j i : ℕ) {v : ℕ}
    → v ≡ to_survivor marks (get_or cells (j + i) 0)
    → Worked counted N w (count_down_survivors N w marks s cells j i) left counts waiting top
    → Worked counted N w (count_down N w (work counts (top_first waiting top)) v) (remaining counted N w counts top) counts' waiting' top'
    → Worked counted N w (count_down_survivors N w marks s cells j (i + 1)) left counts' waiting' top'
unfolding count_down_survivors
survivors_more {N} {w} marks s cells j i {v} at = worked_next (λ x. count_down N w x v) (rw (add-one, at))

-- ---- a count made 0

module _ {N w : ℕ} {counts waiting : List ℕ} {top : ℕ} (p : Planes N w counts) (s : Stack counted N w counts waiting top) where
  pub stack_zeroed : (i : ℕ) → i < N → {counts' : List ℕ} → counts' ≡ set_count (N / 8) w counts i 0 → Stack counted N w counts' waiting top
  stack_zeroed i inside {counts'} written = record {
    length_is = s.length_is;
    blocks = s.blocks;
    come = λ k l. came (get_or waiting k 0) (s.blocks k l) (s.come k l);
    clear = s.clear;
    room = omega (arith, fewer, s.room);
  }
    where
      fits : 0 < 2 ^ w
      fits = pow_pos w

      fewer : passing counted N w counts' + one (counted (count_at (N / 8) w counts i)) ≡ passing counted N w counts + 0
      fewer = rw written (passing_set p i 0 inside counted fits)

      came : (b : ℕ) → b < N → counted (count_at (N / 8) w counts b) ≡ false → counted (count_at (N / 8) w counts' b) ≡ false
      came b l e = rw written (by_block (ℕ_discrete b i))
        where
          by_block : Dec (b ≡ i) → counted (count_at (N / 8) w (set_count (N / 8) w counts i 0) b) ≡ false
          by_block (yes d) = rw d (ap counted (count_written p i 0 inside fits))
          by_block (no d) = ap counted (count_kept p i 0 inside b l d) ∙ e
