-- What a call adds to the figures, accepted and refused.
use mathlib.Core.Path.{◌≡◌, refl}
use mathlib.Core.Bool.{Bool, true, false}
use Prim.Native.Nat.{ℕ, ◌≤◌}
use native.Mathlib.Omega.{arith}
use lib.Dec.{eqb}
use borrow.Author.Tests.{eq-eqb, ne_eqb}
use Rattle.bitmap.specs.Bit.{one}
use Rattle.theory.specs.CallWords.{Made}
use Rattle.history_figures.specs.declared.tally.Tally.{Tally}
use Rattle.history_figures.specs.Figures.{allocated, counted_in, told_stuck, moment_in, noted}
use Rattle.history_turns.specs.Outcomes.{done, with_allocation}

-- a reply tells of a stuck object by 1
pub told_stuck_lem : (s : Bool) → eqb (one s) 1 ≡ s
told_stuck_lem true = refl
told_stuck_lem false = refl

-- a refused call adds nothing
pub noted_refused : (m : Made) (t : Tally) → (m.reply.number ≡ 0 → ⊥) → noted m t ≡ t
unfolding noted
noted_refused m t refused = rw (ne_eqb m.reply.number 0 refused, noted)

pub noted_accepted : (m : Made) (t : Tally) → m.reply.number ≡ 0 → noted m t ≡ moment_in (told_stuck m.call m.reply) (counted_in m.call m.reply t)
unfolding noted
noted_accepted m t accepted = rw (eq-eqb m.reply.number 0 accepted, noted)

pub with_allocated : (n : ℕ) (c : Bool) (number freed : ℕ) (s : Bool) (t : Tally) → 1 ≤ n → with_allocation (done number n c freed s) t ≡ allocated n t
unfolding with_allocation
with_allocated n c number freed s t some = rw (ne_eqb n 0 (λ z. omega arith), with_allocation)
