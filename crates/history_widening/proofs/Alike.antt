-- A widened history runs as the old one does.
use mathlib.Core.Path.{◌≡◌, refl, sym, ap, ◌∙◌}
use mathlib.Core.Bool.{Bool, true, false, not, ◌&&◌}
use mathlib.Core.List.{List, []}
use Prim.Native.Nat.{ℕ, zero, suc, ◌+◌, ◌-◌, ◌*◌, ◌≤◌, min}
use native.Mathlib.Decide.{ℕ_discrete}
use native.Mathlib.Omega.{arith}
use lib.Dec.{eqb}
use lib.ListN.{length}
use borrow.Author.Tests.{eq-eqb, ne_eqb}
use Rattle.rules.specs.Heap.{Memory}
use Rattle.rules_stores.specs.Store.{formatted}
use Rattle.history_records.specs.declared.Fields.{Fields}
use Rattle.history_records.specs.Records.{record_length, wide, old}
use Rattle.history_plans.specs.Asked.{asked}
use Rattle.history_figures.specs.declared.tally.Run.{Run}
use Rattle.history_figures.specs.Figures.{run, new_run, most_records}
use Rattle.history_line.specs.Line.{line}
use Rattle.history_turns.specs.Turns.{Turn, turn_of, after_turn}
use Rattle.history_runs.specs.Runs.{Came, came, record_at, ran_from, whole_records, ended, ran}
use Rattle.history_runs.proofs.WholeRecords.{joined}
use Rattle.history_widening.specs.Widening.{old_records, widened}
use Rattle.history_widening.specs.Claims.{WidenedRunsAlike, WidenedPrintsAlike}
use Rattle.history_widening.proofs.Records.{length_widened, fields_widened}

-- n records from number i on
records_alike :
    (n N w : ℕ) (bytes : List ℕ) (i : ℕ) (h : Memory) (r : Run) → i + n ≤ old_records bytes
    → ran_from wide n N w (widened bytes) i h r ≡ ran_from old n N w bytes i h r
unfolding ran_from
records_alike zero N w bytes i h r inside = refl
records_alike (suc n) N w bytes i h r inside =
    let x : Turn = record_at old N w bytes i h in
    let same : record_at wide N w (widened bytes) i h ≡ x =
    ap (λ (f : Fields). turn_of N w h (asked N h f)) (fields_widened i bytes (omega arith)) in
    ap (λ (y : Turn). joined N r y (ran_from wide n N w (widened bytes) (i + 1) y.after (after_turn N y r))) same
    ∙ ap (joined N r x) (records_alike n N w bytes (i + 1) x.after (after_turn N x r) (omega arith))

-- as many whole records
whole_alike : (bytes : List ℕ) (r : Run) → whole_records wide (widened bytes) r ≡ whole_records old bytes r
whole_alike bytes r = ap (λ (n : ℕ). min n (most_records - r.records)) (omega (arith, length_widened bytes))

-- something is left of both behind them, or of neither
left_alike :
    (bytes : List ℕ) (n : ℕ) → n ≤ old_records bytes
    → eqb (length (widened bytes)) (record_length wide * n) ≡ eqb (length bytes) (record_length old * n)
left_alike bytes n inside = elim (ℕ_discrete (length bytes) (record_length old * n)) [
  | yes e ↦
      eq-eqb (length (widened bytes)) (record_length wide * n) (omega (arith, length_widened bytes))
      ∙ sym (eq-eqb (length bytes) (record_length old * n) e)
  | no e ↦
      ne_eqb (length (widened bytes)) (record_length wide * n) (λ f. e (omega (arith, length_widened bytes)))
      ∙ sym (ne_eqb (length bytes) (record_length old * n) e)
]

pub widened_runs_alike : WidenedRunsAlike
unfolding ran ended
widened_runs_alike N w bytes h r =
    let n : ℕ = whole_records old bytes r in
    let closed : Came → Bool → Came = λ x whole.
    elim (eqb r.number 0) [
      | true ↦
          came (elim (eqb x.run.number 0 && not whole) [ true ↦ run 10 x.run.records x.run.tally | false ↦ x.run ])
          x.memory x.made
      | false ↦ came r h []
    ] in
    ap
    (λ (k : ℕ). closed (ran_from wide k N w (widened bytes) 0 h r) (eqb (length (widened bytes)) (record_length wide * k)))
    (whole_alike bytes r)
    ∙ ap (λ (x : Came). closed x (eqb (length (widened bytes)) (record_length wide * n))) (records_alike n N w bytes 0 h r (omega arith))
    ∙ ap (closed (ran_from old n N w bytes 0 h r)) (left_alike bytes n (omega arith))

pub widened_prints_alike : WidenedPrintsAlike
widened_prints_alike N w roots bytes = ap (λ (x : Came). line x.run) (widened_runs_alike N w bytes (formatted N w roots) new_run)
