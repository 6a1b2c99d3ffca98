-- The run over whole records, turn by turn: what is left of it after some records is the run over the rest, from where it stands.
use mathlib.Core.Path.{◌≡◌, refl, sym, ap, ◌∙◌, subst}
use mathlib.Core.List.{List}
use Prim.Native.Nat.{ℕ, suc, ◌+◌, ◌-◌, ◌*◌, ◌≤◌, ◌<◌}
use native.Mathlib.Omega.{arith}
use lib.ListN.{length}
use borrow.Author.Tests.{eq-eqb, ne_eqb}
use Rattle.rules.specs.Heap.{Memory}
use Rattle.theory_memories.specs.Heaps.{Usable}
use Rattle.history_records.specs.Records.{record_length, fields_at, wide}
use Rattle.history_plans.specs.Asked.{asked}
use Rattle.history_records.specs.declared.Fields.{Fields}
use Rattle.history_figures.specs.declared.tally.Run.{Run}
use Rattle.history_turns.specs.declared.noting.Running.{Running}
use Rattle.history_turns.specs.Turns.{Turn, turn_of, after_turn}
use Rattle.history_turns.specs.Steps.{Going, Stepped}
use Rattle.history_turns.proofs.UsableAfterRecord.{turn_usable, after_number}
use Rattle.history_runs.specs.Runs.{record_at, ran_from}
use Rattle.history_runs.specs.RunBy.{RunBy}

-- ---- the records left

module _ (n N w : ℕ) (bytes : List ℕ) (i : ℕ) (h : Memory) (r : Run) where
  abbrev x : Turn
  x = record_at wide N w bytes i h

  -- an accepted record, and those behind it
  rest_run : x.number ≡ 0 → (ran_from wide (suc n) N w bytes i h r).run ≡ (ran_from wide n N w bytes (i + 1) x.after (after_turn N x r)).run
  unfolding ran_from
  rest_run e = rw (eq-eqb x.number 0 e, ran_from)

  rest_memory : x.number ≡ 0 → (ran_from wide (suc n) N w bytes i h r).memory ≡ (ran_from wide n N w bytes (i + 1) x.after (after_turn N x r)).memory
  unfolding ran_from
  rest_memory e = rw (eq-eqb x.number 0 e, ran_from)

  -- one that stops the run
  stop_run : (x.number ≡ 0 → ⊥) → (ran_from wide (suc n) N w bytes i h r).run ≡ after_turn N x r
  unfolding ran_from
  stop_run e = rw (ne_eqb x.number 0 e, ran_from)

  stop_memory : (x.number ≡ 0 → ⊥) → (ran_from wide (suc n) N w bytes i h r).memory ≡ x.after
  unfolding ran_from
  stop_memory e = rw (ne_eqb x.number 0 e, ran_from)

-- ---- the loop's invariant: i records are run

pub record Progress (n N w : ℕ) (bytes : List ℕ) (start : Memory) (r : Run) (i : ℕ) (h : Memory) (state : Running) : Type 0 where
  pub usable : Usable N w h
  pub going : Going N h (n - i) state
  pub made : i ≤ n
  pub roots_length : length h.roots ≡ length start.roots
  pub run_left : (ran_from wide n N w bytes 0 start r).run ≡ (ran_from wide (n - i) N w bytes i h state.run).run
  pub memory_left_lem : (ran_from wide n N w bytes 0 start r).memory ≡ (ran_from wide (n - i) N w bytes i h state.run).memory

module _ {n N w : ℕ} {bytes : List ℕ} {start : Memory} {r : Run} where
  pub progress_start :
      {state : Running} → state.run ≡ r → Usable N w start → Going N start n state → Progress n N w bytes start r 0 start state
  progress_start same usable going =
      let all : n - 0 ≡ n = omega arith in
      record {
        usable = usable;
        going = rw all going;
        made = omega arith;
        roots_length = refl;
        run_left = rw (all, same);
        memory_left_lem = rw (all, same);
      }

  module _ {i : ℕ} {h : Memory} {state : Running} (l : i < n) (p : Progress n N w bytes start r i h state) where
    abbrev left : ℕ
    left = n - (i + 1)

    more : n - i ≡ suc left
    more = omega arith

    -- one record can be run
    pub step_going : Going N h 1 state
    step_going =
        let going = p.going in
        record { goes_on = going.goes_on; in_range_lem = going.in_range_lem; more = omega (arith, going.more); used_is = going.used_is }

    module _ {f : Fields} (read : f ≡ fields_at wide bytes (record_length wide * i)) {next : Running} {g : Memory}
        (stepped : Stepped N (turn_of N w h (asked N h f)) state next g) where
      turned : Stepped N (record_at wide N w bytes i h) state next g
      turned = subst (λ (y : Fields). Stepped N (turn_of N w h (asked N h y)) state next g) read stepped

      number_is : next.run.number ≡ (record_at wide N w bytes i h).number
      number_is = ap (λ (y : Run). y.number) turned.run_is ∙ after_number N (record_at wide N w bytes i h) state.run

      pub next_usable : Usable N w g
      next_usable =
          subst (λ (m : Memory). Usable N w m) (sym turned.after_is)
          (turn_usable N w h p.usable (asked N h (fields_at wide bytes (record_length wide * i))))

      -- the record was accepted
      records_next : next.run.number ≡ 0 → next.run.records ≡ state.run.records + 1
      unfolding after_turn
      records_next e =
          ap (λ (y : Run). y.records) turned.run_is ∙ rw (eq-eqb (record_at wide N w bytes i h).number 0 (sym number_is ∙ e), after_turn)

      pub progress_next :
          length g.roots ≡ length h.roots → next.run.number ≡ 0 → Progress n N w bytes start r (i + 1) g next
      progress_next kept e =
          let accepted = sym number_is ∙ e in
          record {
            usable = next_usable;
            going =
                record {
                  goes_on = e;
                  in_range_lem = turned.in_range_lem;
                  more = omega (arith, p.going.more, records_next e);
                  used_is = turned.used_is;
                };
            made = omega arith;
            roots_length = kept ∙ p.roots_length;
            run_left =
                p.run_left
                ∙ ap (λ (k : ℕ). (ran_from wide k N w bytes i h state.run).run) more
                ∙ rest_run left N w bytes i h state.run accepted
                ∙ sym (rw (turned.run_is, turned.after_is));
            memory_left_lem =
                p.memory_left_lem
                ∙ ap (λ (k : ℕ). (ran_from wide k N w bytes i h state.run).memory) more
                ∙ rest_memory left N w bytes i h state.run accepted
                ∙ sym (rw (turned.run_is, turned.after_is));
          }

      -- the record stopped the run
      pub progress_stop : (next.run.number ≡ 0 → ⊥) → RunBy N w (ran_from wide n N w bytes 0 start r) next.run g
      progress_stop stopped =
          let refused : (record_at wide N w bytes i h).number ≡ 0 → ⊥ = λ e. stopped (number_is ∙ e) in
          record {
            run_is =
                turned.run_is
                ∙ sym
                (p.run_left
                ∙ ap (λ (k : ℕ). (ran_from wide k N w bytes i h state.run).run) more
                ∙ stop_run left N w bytes i h state.run refused);
            memory_is =
                turned.after_is
                ∙ sym
                (p.memory_left_lem
                ∙ ap (λ (k : ℕ). (ran_from wide k N w bytes i h state.run).memory) more
                ∙ stop_memory left N w bytes i h state.run refused);
            in_range_lem = turned.in_range_lem;
            usable = next_usable;
          }

  -- all records are run
  pub progress_done :
      {i : ℕ} {h : Memory} {state : Running} → n ≤ i → Progress n N w bytes start r i h state
      → RunBy N w (ran_from wide n N w bytes 0 start r) state.run h
  unfolding ran_from
  progress_done {i} {h} {state} past p =
      let none : n - i ≡ 0 = omega arith in
      record {
        run_is = sym (p.run_left ∙ ap (λ (k : ℕ). (ran_from wide k N w bytes i h state.run).run) none);
        memory_is = sym (p.memory_left_lem ∙ ap (λ (k : ℕ). (ran_from wide k N w bytes i h state.run).memory) none);
        in_range_lem = p.going.in_range_lem;
        usable = p.usable;
      }
