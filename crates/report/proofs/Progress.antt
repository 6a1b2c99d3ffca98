-- A piece that leaves the run going was run whole: all its records are counted, and they are no more than a run may have.
use mathlib.Core.Path.{◌≡◌, sym, ap, ◌∙◌}
use mathlib.Core.List.{List}
use Prim.Native.Nat.{ℕ, zero, suc, ◌+◌, ◌*◌, ◌%◌, ◌≤◌, ◌<◌}
use native.Mathlib.Decide.{ℕ_discrete}
use native.Mathlib.Omega.{arith}
use lib.ListN.{length}
use borrow.Author.Tests.{eq-eqb, ne_eqb}
use Rattle.rules.specs.Heap.{Memory}
use Rattle.types.specs.declared.Reply.{Reply}
use Rattle.history_figures.specs.declared.tally.Run.{Run}
use Rattle.history_records.specs.Records.{record_length, wide}
use Rattle.history_runs.specs.declared.Ran.{Ran}
use Rattle.history_runs.specs.Runs.{ran_from, whole_records, ended, ran}
use Rattle.history_runs.specs.Promised.{run_reply, cleared, Promised}
use Rattle.history_runs.proofs.WholeRecords.{ran_records}

-- the end of a piece leaves a run going only where it does nothing
end_goes :
    (size n : ℕ) (r : Run) → (ended wide size n r).number ≡ 0 → (r.number ≡ 0) × (size ≡ record_length wide * n) × ((ended wide size n r).records ≡ r.records)
unfolding ended
end_goes size n r e = elim (ℕ_discrete r.number 0) [
  | yes going ↦
      let test = eq-eqb r.number 0 going in
      elim (ℕ_discrete size (record_length wide * n)) [
        | yes whole ↦ (going, whole, rw (test, eq-eqb size (record_length wide * n) whole, ended))
        | no more ↦ absurd (omega (arith, rw (test, ne_eqb size (record_length wide * n) more, ended) at e))
      ]
  | no stopped ↦ absurd (stopped (rw (ne_eqb r.number 0 stopped, ended) at e))
]

-- a piece that leaves the run going, of n records
piece_goes :
    (N w : ℕ) (bytes : List ℕ) (h : Memory) (r : Run) → (ran wide N w bytes h r).run.number ≡ 0
    → (n : ℕ) × (length bytes ≡ record_length wide * n) × ((ran wide N w bytes h r).run.records ≡ r.records + n)
unfolding ran
piece_goes N w bytes h r e =
    let n = whole_records wide bytes r in
    let x = ran_from wide n N w bytes 0 h r in
    elim (ℕ_discrete r.number 0) [
      | yes going ↦
          let test = eq-eqb r.number 0 going in
          let end = end_goes (length bytes) n x.run (rw (test, ran) at e) in
          let counted = ran_records n N w bytes 0 h r end.0 in
          rw (test, ran) (n, end.1, end.2 ∙ counted)
      | no stopped ↦ absurd (stopped (rw (ne_eqb r.number 0 stopped, ran) at e))
    ]

module _ {N w : ℕ} {bytes : List ℕ} {h : Memory} {r : Run} {x : Ran} {g : Memory} (promised : Promised N w bytes h r x g)
    (accepted : x.reply.number ≡ 0) (going : x.run.number ≡ 0) where
  goes : (n : ℕ) × (length bytes ≡ record_length wide * n) × (x.run.records ≡ r.records + n)
  goes =
      let test = eq-eqb (run_reply N w h r).number 0 (ap (λ (y : Reply). y.number) (sym promised.reply_is) ∙ accepted) in
      let is = rw test at promised.run_is in
      rw is (piece_goes N w bytes (cleared N h) r (rw is at going))

  pub whole : length bytes % record_length wide ≡ 0
  whole = omega (arith, goes.1)

  pub further : 0 < length bytes → r.records < x.run.records
  further some = omega (arith, goes.1, goes.2)
