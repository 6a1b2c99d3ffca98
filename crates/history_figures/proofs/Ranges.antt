-- Laws of a run in range.
use mathlib.Core.Path.{◌≡◌, sym, ap, ◌∙◌}
use mathlib.Core.Bool.{true, not}
use Prim.Native.Nat.{ℕ, ◌+◌, ◌*◌, ◌≤◌}
use native.Mathlib.Decide.{ℕ_discrete}
use native.Mathlib.Omega.{arith}
use lib.Dec.{leb, eqb}
use borrow.Author.Tests.{leb-true, le-leb, eq-eqb, ne_eqb}
use mir.Val.{bool_byte}
use Rattle.rules.specs.Tools.{all}
use Rattle.rules.specs.Heap.{max_blocks}
use Rattle.rules.proofs.Tests.{done, also, all_at, all_one, all_passed}
use Rattle.history_figures.specs.declared.tally.Run.{Run}
use Rattle.history_figures.specs.Figures.{most_records, most_collections, in_range}

pub record Within (r : Run) : Type 0 where
  pub few : r.records ≤ most_records
  pub allocations_few : r.tally.allocations ≤ r.records
  pub blocks_few : r.tally.blocks ≤ max_blocks * r.records
  pub stuck_few : r.tally.stuck ≤ r.records
  pub collections_few : r.tally.collections ≤ most_collections r

module _ (r : Run) where
  pub in_range_within : in_range r ≡ true → Within r
  unfolding in_range
  in_range_within e =
      record {
        few = leb-true r.records most_records (all_at _ e 0);
        allocations_few = leb-true r.tally.allocations r.records (all_at _ e 1);
        blocks_few = leb-true r.tally.blocks (max_blocks * r.records) (all_at _ e 2);
        stuck_few = leb-true r.tally.stuck r.records (all_at _ e 3);
        collections_few = leb-true r.tally.collections (most_collections r) (all_at _ e 4);
      }

  pub within_in_range : Within r → in_range r ≡ true
  unfolding in_range
  within_in_range w =
      all_passed _
      (also (le-leb r.records most_records w.few)
      (also (le-leb r.tally.allocations r.records w.allocations_few)
      (also (le-leb r.tally.blocks (max_blocks * r.records) w.blocks_few)
      (also (le-leb r.tally.stuck r.records w.stuck_few)
      (also (le-leb r.tally.collections (most_collections r) w.collections_few)
      done)))))

  -- a run that goes on, and one that was stopped
  pub going_collections : r.number ≡ 0 → most_collections r ≡ r.records
  unfolding most_collections
  going_collections e = rw (eq-eqb r.number 0 e, most_collections)

  pub stopped_collections : (r.number ≡ 0 → ⊥) → most_collections r ≡ r.records + 1
  unfolding most_collections
  stopped_collections stopped = rw (ne_eqb r.number 0 stopped, most_collections)

  -- both at once, as the code counts it
  pub most_told : most_collections r ≡ r.records + bool_byte (not (eqb r.number 0))
  unfolding most_collections
  most_told = elim (ℕ_discrete r.number 0) [
    | yes goes_on ↦ rw (eq-eqb r.number 0 goes_on, most_collections) (omega arith)
    | no stopped ↦ rw (ne_eqb r.number 0 stopped, most_collections)
  ]

  -- past the first four tests the last one decides
  pub last_decides :
      r.records ≤ most_records → r.tally.allocations ≤ r.records → r.tally.blocks ≤ max_blocks * r.records
      → r.tally.stuck ≤ r.records → (most : ℕ)
      → most_collections r ≡ most → leb r.tally.collections most ≡ in_range r
  unfolding in_range all
  last_decides records allocations blocks stuck most e =
      ap (leb r.tally.collections) (sym e)
      ∙ sym (all_one (leb r.tally.collections (most_collections r)))
      ∙ sym
      (rw (
        le-leb r.records most_records records,
        le-leb r.tally.allocations r.records allocations,
        le-leb r.tally.blocks (max_blocks * r.records) blocks,
        le-leb r.tally.stuck r.records stuck,
        all,
      ))
