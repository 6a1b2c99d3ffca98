-- The reply that tells what a test or a call came to.
use Rattle.std.specs.Prelude.{ℕ, Bool, false, Result, Ok, Err, Option, Some, None}
use Rattle.bitmap.specs.Bit.{one}
use Rattle.types.specs.declared.Outcome.{Outcome}
use Rattle.types.specs.declared.Reply.{Reply}
use Rattle.types.specs.declared.refusals.Damage.{Damage}
use Rattle.types.specs.declared.refusals.Refusal.{Refusal}
use Rattle.types.specs.Refusals.{kind_of, number_of, told_by}

-- acceptance with one value
abbrev pub accepted : ℕ → Reply
accepted value = record { number = 0; value = value; second = 0 }

abbrev pub refused : Refusal → Reply
refused refusal = record { number = number_of refusal; value = told_by refusal; second = 0 }

-- of what answers a value
abbrev pub replied : Result ℕ Refusal → Reply
replied (Ok value) = accepted value
replied (Err refusal) = refused refusal

-- of a test, which answers none
abbrev pub tested : Result (Unit {0}) Refusal → Reply
tested (Ok passed) = accepted 0
tested (Err refusal) = refused refusal

-- the damage kind, or 0
abbrev pub damage_kind : Option Damage → ℕ
damage_kind None = 0
damage_kind (Some damage) = kind_of damage

-- what came of a call, accepted or refused: the number and the value of its reply, the blocks that it freed, and whether it
-- brought a count to the capacity
pub record Came : Type 0 where
  pub number : ℕ
  pub value : ℕ
  pub freed : ℕ
  pub stuck : Bool

abbrev pub came_of : Result Outcome Refusal → Came
came_of (Ok outcome) = record { number = 0; value = outcome.value; freed = outcome.freed; stuck = outcome.stuck }
came_of (Err refusal) = record { number = number_of refusal; value = told_by refusal; freed = 0; stuck = false }

-- the reply that tells it
abbrev pub reply_of : Came → Reply
reply_of came = record { number = came.number; value = came.value; second = one came.stuck }
