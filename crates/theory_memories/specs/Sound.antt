-- The parts of demand 3 that speak of heaps alone: what holds at every moment, and what a full collection leaves.
use Rattle.std.specs.Prelude.{ℕ, ◌*◌, ◌/◌, ◌%◌, ◌^◌, ◌<◌, min, ◌≡◌, ◌⊎◌, ◌↔◌, Bool, true, get_or}
use Rattle.bitmap.specs.Bit.{bit_at}
use Rattle.rules.specs.Heap.{Memory, capacity, count_of, is_first, exponent}
use Rattle.rules.specs.Sections.{figures}
use Rattle.rules_stores.specs.Collection.{references_from}
use Rattle.theory_memories.specs.Words.{Object, Names, Leads, number_of_references, InExtent}

-- ---- at every moment

pub record Sound (N w : ℕ) (h : Memory) : Type 0 where
  -- every reference names an object
  pub named : (b : ℕ) → Names N h b → is_first N h b ≡ true
  -- every count is the number of references or at capacity: "The top of a count's field is the capacity."
  pub counted : (b : ℕ) → is_first N h b ≡ true → (count_of N w h b ≡ capacity w) ⊎ (count_of N w h b ≡ number_of_references N h b)
  -- "Extents are disjoint if each allocated block lies in exactly one, and no free block in any."
  pub covered : (i : ℕ) → i < N → bit_at h.a i ≡ 1 → (b : ℕ) × InExtent N h i b
  pub disjoint : (i b c : ℕ) → InExtent N h i b → InExtent N h i c → b ≡ c
  pub allocated : (i b : ℕ) → InExtent N h i b → (i < N) × (bit_at h.a i ≡ 1)
  -- "It is aligned if it starts at a multiple of the least power of two that is its size or more."
  pub aligned : (b n : ℕ) → Object N h b n → b % 2 ^ exponent n ≡ 0
  -- the cells of free blocks are 0, so that no cell but those of objects holds anything
  pub cleared : (j : ℕ) → j < 4 * N → bit_at h.a (j / 4) ≡ 0 → get_or h.cells j 0 ≡ 0
  -- request U4: "every accepted call, format too, leaves the list true"
  pub listed : h.sections ≡ figures N h.a
  -- request U6: the D-map "has 1 on the first block of an object made as data", and nowhere else
  pub data_first : (i : ℕ) → i < N → bit_at h.d i ≡ 1 → is_first N h i ≡ true

-- "After an accepted full collection the objects are exactly those that a root led to before it, at their first blocks and sizes, and
-- each has the count given under Collect."
pub record ExactCollection (N w : ℕ) (h g : Memory) : Type 0 where
  pub exactly : (b n : ℕ) → Object N g b n ↔ (Object N h b n × Leads N h b)
  -- the set of the objects that a root led to
  pub led : ℕ → Bool
  pub led_is : (b : ℕ) → (led b ≡ true) ↔ Leads N h b
  pub counted : (b : ℕ) → is_first N g b ≡ true → count_of N w g b ≡ min (capacity w) (references_from N h led b)
