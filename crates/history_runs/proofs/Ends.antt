-- Laws of the end of a piece: where its bytes go on behind the whole records, the run is stopped with 10.
use mathlib.Core.Path.{◌≡◌, refl, sym, ◌∙◌, subst}
use mathlib.Core.Logic.{◌≢◌}
use mathlib.Core.Bool.{true}
use Prim.Native.Nat.{ℕ, ◌*◌}
use native.Mathlib.Decide.{ℕ_discrete}
use native.Mathlib.Omega.{arith}
use borrow.Author.Tests.{eq-eqb, ne_eqb}
use Rattle.history_records.specs.Records.{record_length, wide}
use Rattle.history_figures.specs.declared.tally.Run.{Run}
use Rattle.history_figures.specs.Figures.{run, in_range}
use Rattle.history_figures.proofs.Ranges.{in_range_within, within_in_range, going_collections, stopped_collections}
use Rattle.history_runs.specs.Runs.{ended}

pub ended_stopped : (size n : ℕ) (r : Run) → r.number ≢ 0 → ended wide size n r ≡ r
unfolding ended
ended_stopped size n r stopped = rw (ne_eqb r.number 0 stopped, ended)

pub ended_whole : (size n : ℕ) (r : Run) → size ≡ record_length wide * n → ended wide size n r ≡ r
unfolding ended
ended_whole size n r e = elim (ℕ_discrete r.number 0) [
  | yes going ↦ rw (eq-eqb r.number 0 going, eq-eqb size (record_length wide * n) e, ended)
  | no stopped ↦ rw (ne_eqb r.number 0 stopped, ended)
]

pub ended_past : (size n : ℕ) (r : Run) → size ≢ record_length wide * n → r.number ≡ 0 → ended wide size n r ≡ run 10 r.records r.tally
unfolding ended
ended_past size n r past going = rw (eq-eqb r.number 0 going, ne_eqb size (record_length wide * n) past, ended)

-- two ends behind which the bytes go on, or don't
pub ended_alike :
    (size n other m : ℕ) (r : Run) → (size ≡ record_length wide * n → other ≡ record_length wide * m)
    → (other ≡ record_length wide * m → size ≡ record_length wide * n)
    → ended wide size n r ≡ ended wide other m r
ended_alike size n other m r there back = elim (ℕ_discrete r.number 0) [
  | no stopped ↦ ended_stopped size n r stopped ∙ sym (ended_stopped other m r stopped)
  | yes going ↦ elim (ℕ_discrete size (record_length wide * n)) [
    | yes e ↦ ended_whole size n r e ∙ sym (ended_whole other m r (there e))
    | no e ↦ ended_past size n r e going ∙ sym (ended_past other m r (λ f. e (back f)) going)
  ]
]

-- what holds of a run that goes on or was stopped, and of one that is stopped with 10 where it stood, holds at the end of a piece
ended_keeps : (P : Run → Type 0) (size n : ℕ) (r : Run) → P r → (r.number ≡ 0 → P (run 10 r.records r.tally)) → P (ended wide size n r)
ended_keeps P size n r as-it-stands stopped-here = elim (ℕ_discrete r.number 0) [
  | no stopped ↦ subst P (sym (ended_stopped size n r stopped)) as-it-stands
  | yes going ↦ elim (ℕ_discrete size (record_length wide * n)) [
    | yes e ↦ subst P (sym (ended_whole size n r e)) as-it-stands
    | no e ↦ subst P (sym (ended_past size n r e going)) (stopped-here going)
  ]
]

-- the number 10 leaves the figures ..
pub ended_figures : (size n : ℕ) (r : Run) → (ended wide size n r).tally ≡ r.tally
ended_figures size n r = ended_keeps (λ s. s.tally ≡ r.tally) size n r refl (λ _. refl)

-- .. and the range
pub ended_range : (size n : ℕ) (r : Run) → in_range r ≡ true → in_range (ended wide size n r) ≡ true
ended_range size n r range = ended_keeps (λ s. in_range s ≡ true) size n r range stopped_range
  where
    stopped_range : r.number ≡ 0 → in_range (run 10 r.records r.tally) ≡ true
    stopped_range going =
        let within = in_range_within r range in
        within_in_range (run 10 r.records r.tally)
        record {
          few = within.few;
          allocations_few = within.allocations_few;
          blocks_few = within.blocks_few;
          stuck_few = within.stuck_few;
          collections_few =
              omega (
                arith,
                within.collections_few,
                going_collections r going,
                stopped_collections (run 10 r.records r.tally) (λ z. omega arith),
              );
        }
