-- A heap that code can work on, and what the work of a call gives there: for contracts of inner functions.
use Rattle.std.specs.Prelude.{ℕ, ◌≡◌, Bool}
use Rattle.rules.specs.Heap.{Memory}
use Rattle.rules_calls.specs.Calls.{Call}
use Rattle.rules_calls.specs.Promise.{Promise}
use Rattle.types.specs.Told.{Came, reply_of}
use Rattle.theory.specs.Balance.{freed_blocks}

abbrev pub outcome_of : (number value freed : ℕ) → (stuck : Bool) → Came
outcome_of number value freed stuck = record { number = number; value = value; freed = freed; stuck = stuck }

-- Call c was made on h and left g, accepted or refused: its promise, and the blocks that it freed.
pub record Worked (N w : ℕ) (c : Call) (h : Memory) (done : Came) (g : Memory) : Type 0 where
  pub promise : Promise N w c h (reply_of done) g
  pub freed_is : done.freed ≡ freed_blocks N h g
