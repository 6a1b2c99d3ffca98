-- `step_advance::take_steps` meets its contract.
use Prim.Native.Nat.{ℕ, ◌/◌}
use lib.ListN.{length-replicate}
use Rattle.rules.specs.Heap.{max_blocks}
use Rattle.step_advance.proofs.Flags.{flags_all}
use native.Mathlib.Omega.{arith}
use Rattle.step_advance.proofs.take_steps.Goals as goal

pub step_all-requires : goal.step_all-requires
step_all-requires c =
    (c.requires.0, c.requires.1, c.requires.2, c.requires.3, c.requires.4, c.requires.5, c.requires.6, omega (arith, c.requires.1, length-replicate {A = ℕ} (max_blocks / 256) 1), flags_all (max_blocks / 256) (omega (arith, c.requires.1)))
