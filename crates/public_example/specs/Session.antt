-- What public calls made one after another come to: a chain, and demand 3's claim of it.
use Rattle.std.specs.Prelude.{ℕ, ◌≡◌, List, [], ◌∷◌}
use Rattle.rules.specs.Heap.{Memory}
use Rattle.rules_calls.specs.Calls.{Call, format, allocate, store_root, open_collection, take_steps, run, last_memory}
use Rattle.rules_calls.specs.Promise.{Promise}
use Rattle.types.specs.declared.Reply.{Reply}
use Rattle.theory.specs.CallWords.{Made, calls_of, left_by}
use Rattle.theory.specs.Demand.{Chain, Claim}

-- an object is made in root 0; a collection is opened (request U8); the object is let go; a step is taken
abbrev pub life_calls : List Call
life_calls = allocate 1 0 ∷ open_collection ∷ store_root 0 0 ∷ take_steps 1 ∷ []

-- The heap was formatted, and these calls were made. Every lent number of all ten lists is the plain machine's.
pub record Life (N w : ℕ) (h : Memory) (x : Reply) (g : Memory) : Type 0 where
  pub start : Memory
  pub formatting : Promise N w format h x start
  pub made : List Made
  pub calls_are : calls_of made ≡ life_calls
  pub chain : Chain N w start made
  pub left_is : g ≡ left_by start made
  pub after_is : g ≡ last_memory start (run N w start life_calls)
  pub claim : Claim N w start made

pub record Lived (N w : ℕ) (h : Memory) (x : Reply) (g : Memory) : Type 0 where
  -- a refused format changes nothing, and no other call is made
  pub refused : (x.number ≡ 0 → ⊥) → Promise N w format h x g
  pub lived : x.number ≡ 0 → Life N w h x g
