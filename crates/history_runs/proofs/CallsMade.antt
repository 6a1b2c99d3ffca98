-- A run of records counts as the calls it makes.
use mathlib.Core.Path.{◌≡◌, refl, sym, ap, ◌∙◌, subst}
use mathlib.Core.Bool.{Bool, true, false}
use mathlib.Core.List.{List, [], ◌∷◌, ◌++◌}
use Prim.Native.Nat.{ℕ, zero, suc, ◌+◌, ◌*◌}
use native.Mathlib.Decide.{ℕ_discrete}
use native.Mathlib.Omega.{arith}
use lib.Dec.{eqb}
use lib.ListN.{length}
use borrow.Author.Tests.{eq-eqb, ne_eqb}
use Rattle.rules.specs.Heap.{Memory}
use Rattle.rules_calls.specs.Calls.{
  Call,
  format,
  check,
  collect,
  free_blocks,
  allocate,
  store_root,
  store_cell,
  look,
  return_roots,
  allocate_data,
  write_number,
  read_number,
  open_collection,
  take_steps,
  write_reason,
  write_shape,
  copy_from,
  copy_into,
}
use Rattle.rules_calls.specs.Calls.{answer, last_memory}
use Rattle.types.specs.declared.Reply.{Reply}
use Rattle.rules.proofs.Shape.{shape_facts}
use Rattle.theory.specs.CallWords.{Made, left_by}
use Rattle.theory.specs.Demand.{Chain}
use Rattle.theory_memories.specs.Heaps.{Undamaged}
use Rattle.theory.specs.Balance.{allocates, allocated_by, blocks_allocated}
use Rattle.theory.proofs.Theorems.{theory}
use Rattle.history_records.specs.Records.{fields_at, record_length, wide}
use Rattle.history_plans.specs.Asked.{Asked, makes, stops, asked}
use Rattle.history_figures.specs.declared.tally.Tally.{Tally}
use Rattle.history_figures.specs.declared.tally.Run.{Run}
use Rattle.history_figures.specs.Figures.{counted_in, moment_in, told_stuck, noted, noted_all, run}
use Rattle.history_turns.specs.Turns.{made_on, Turn, tried_again, turn_of, after_turn}
use Rattle.history_turns.proofs.Turns.{turn_once, turn_again}
use Rattle.history_runs.specs.Runs.{Came, came, record_at, ran_from, whole_records, ran}
use Rattle.history_runs.specs.Claims.{with_peak, RunsAreCalls}
use Rattle.history_runs.proofs.Ends.{ended_figures}

-- ---- lists of calls, one behind the other

pub left_append : (h : Memory) (made more : List Made) → left_by h (made ++ more) ≡ left_by (left_by h made) more
unfolding last_memory
left_append h [] more = refl
left_append h (m ∷ made) more = left_append m.after made more

allocated_append : (made more : List Made) → blocks_allocated (made ++ more) ≡ blocks_allocated made + blocks_allocated more
unfolding blocks_allocated
allocated_append [] more = omega arith
allocated_append (m ∷ made) more = omega (arith, allocated_append made more)

noted_append : (made more : List Made) (t : Tally) → noted_all (made ++ more) t ≡ noted_all more (noted_all made t)
unfolding noted_all
noted_append [] more t = refl
noted_append (m ∷ made) more t = noted_append made more (noted m t)

-- ---- figures: the peak is looked at by no call, and blocks are allocated as the calls say

counted_peak : (c : Call) (x : Reply) (p : ℕ) (t : Tally) → counted_in c x (with_peak p t) ≡ with_peak p (counted_in c x t)
unfolding counted_in
counted_peak (allocate n r) x p t = refl
counted_peak collect x p t = refl
counted_peak format x p t = refl
counted_peak check x p t = refl
counted_peak free_blocks x p t = refl
counted_peak (store_root r v) x p t = refl
counted_peak (store_cell a j v) x p t = refl
counted_peak (look a) x p t = refl
counted_peak (return_roots chosen) x p t = refl
counted_peak (allocate_data n r) x p t = refl
counted_peak (write_number a j v) x p t = refl
counted_peak (read_number a j) x p t = refl
counted_peak open_collection x p t = refl
counted_peak (take_steps budget) x p t = refl
counted_peak (write_reason at room) x p t = refl
counted_peak (write_shape room) x p t = refl
counted_peak (copy_from K u first) x p t = refl
counted_peak (copy_into M v second) x p t = refl

moment_peak : (s : Bool) (p : ℕ) (t : Tally) → moment_in s (with_peak p t) ≡ with_peak p (moment_in s t)
unfolding moment_in
moment_peak true p t = refl
moment_peak false p t = refl

noted_peak : (m : Made) (p : ℕ) (t : Tally) → noted m (with_peak p t) ≡ with_peak p (noted m t)
unfolding noted
noted_peak m p t = go (eqb m.reply.number 0)
  where
    stuck : Bool
    stuck = told_stuck m.call m.reply

    go : (b : Bool) → (elim b [ true ↦ moment_in stuck (counted_in m.call m.reply (with_peak p t)) | false ↦ with_peak p t ])
        ≡ with_peak p (elim b [ true ↦ moment_in stuck (counted_in m.call m.reply t) | false ↦ t ])
    go true = ap (moment_in stuck) (counted_peak m.call m.reply p t) ∙ moment_peak stuck p (counted_in m.call m.reply t)
    go false = refl

noted_all_peak : (made : List Made) (p : ℕ) (t : Tally) → noted_all made (with_peak p t) ≡ with_peak p (noted_all made t)
unfolding noted_all
noted_all_peak [] p t = refl
noted_all_peak (m ∷ made) p t = ap (noted_all made) (noted_peak m p t) ∙ noted_all_peak made p (noted m t)

counted_blocks : (c : Call) (x : Reply) (t : Tally) → (counted_in c x t).blocks ≡ t.blocks + allocates c x
unfolding counted_in allocates
counted_blocks (allocate n r) x t = refl
counted_blocks collect x t = omega arith
counted_blocks format x t = omega arith
counted_blocks check x t = omega arith
counted_blocks free_blocks x t = omega arith
counted_blocks (store_root r v) x t = omega arith
counted_blocks (store_cell a j v) x t = omega arith
counted_blocks (look a) x t = omega arith
counted_blocks (return_roots chosen) x t = omega arith
counted_blocks (allocate_data n r) x t = refl
counted_blocks (write_number a j v) x t = omega arith
counted_blocks (read_number a j) x t = omega arith
counted_blocks open_collection x t = omega arith
counted_blocks (take_steps budget) x t = omega arith
counted_blocks (write_reason at room) x t = omega arith
counted_blocks (write_shape room) x t = omega arith
counted_blocks (copy_from K u first) x t = refl
counted_blocks (copy_into M v second) x t = omega arith

moment_blocks : (s : Bool) (t : Tally) → (moment_in s t).blocks ≡ t.blocks
unfolding moment_in
moment_blocks true t = refl
moment_blocks false t = refl

noted_blocks : (m : Made) (t : Tally) → (noted m t).blocks ≡ t.blocks + allocated_by m.call m.reply
unfolding noted allocated_by
noted_blocks m t = elim (ℕ_discrete m.reply.number 0) [
  | yes e ↦ rw (eq-eqb m.reply.number 0 e, noted, allocated_by)
      (moment_blocks (told_stuck m.call m.reply) (counted_in m.call m.reply t) ∙ counted_blocks m.call m.reply t)
  | no e ↦ rw (ne_eqb m.reply.number 0 e, noted, allocated_by) (omega arith)
]

noted_all_blocks : (made : List Made) (t : Tally) → (noted_all made t).blocks ≡ t.blocks + blocks_allocated made
unfolding noted_all blocks_allocated
noted_all_blocks [] t = omega arith
noted_all_blocks (m ∷ made) t = omega (arith, noted_all_blocks made (noted m t), noted_blocks m t)

-- ---- a chain of calls that ends in a memory

record Chained (N w : ℕ) (h : Memory) (made : List Made) (g : Memory) : Type 0 where
  chain : Chain N w h made
  left : g ≡ left_by h made
  undamaged : Undamaged N w g

module _ (N w : ℕ) where
  no_calls : (h : Memory) → Undamaged N w h → Chained N w h [] h
  unfolding last_memory
  no_calls h u = record { chain = Chain.none; left = refl; undamaged = u }

  -- a call on the memory as it is
  one_call : (h : Memory) → Undamaged N w h → (c : Call) → Chained N w h (made_on N w h c ∷ []) (answer N w h c).1
  unfolding last_memory
  one_call h u c =
      record {
        chain =
            Chain.next (record { same_heap = refl; space = (shape_facts N w h u.intact.right_shape).length_waiting })
            (record { reply_is = refl; after_is = refl }) Chain.none;
        left = refl;
        undamaged = theory.calls_keep_undamaged N w h u c;
      }

  both : {h k g : Memory} {made more : List Made} → Chained N w h made k → Chained N w k more g → Chained N w h (made ++ more) g
  both {h} {k} {g} {made} {more} first second =
      record {
        chain =
            theory.chains_append N w h made more first.chain
            (subst (λ (m : Memory). Chain N w m more) first.left second.chain);
        left = second.left ∙ ap (λ (m : Memory). left_by m more) first.left ∙ sym (left_append h made more);
        undamaged = second.undamaged;
      }

  -- ---- a turn

  turn_chained : (h : Memory) → Undamaged N w h → (x : Asked) → Chained N w h (turn_of N w h x).made (turn_of N w h x).after
  unfolding turn_of tried_again
  turn_chained h u (stops number) = no_calls h u
  turn_chained h u (makes c) =
      let first = one_call h u c in
      let forced = one_call _ first.undamaged collect in
      let second = one_call _ forced.undamaged c in
      elim (ℕ_discrete (answer N w h c).0.number 5) [
        | yes e ↦ subst (λ (x : Turn). Chained N w h x.made x.after) (sym (turn_again N w h c e)) (both first (both forced second))
        | no e ↦ subst (λ (x : Turn). Chained N w h x.made x.after) (sym (turn_once N w h c e)) first
      ]

-- the figures after a turn, but the peak
after_figures :
    (N : ℕ) (x : Turn) (r : Run)
    → (after_turn N x r).tally ≡ with_peak (after_turn N x r).tally.peak (noted_all x.made r.tally)
unfolding after_turn
after_figures N x r = elim (ℕ_discrete x.number 0) [
  | yes e ↦ rw (eq-eqb x.number 0 e, after_turn)
  | no e ↦ rw (ne_eqb x.number 0 e, after_turn)
]

-- ---- records

record Makes (N w : ℕ) (h : Memory) (r : Run) (x : Came) : Type 0 where
  chained : Chained N w h x.made x.memory
  figures_are : x.run.tally ≡ with_peak x.run.tally.peak (noted_all x.made r.tally)

module _ (N w : ℕ) where
  -- a turn, and what came of the records behind it
  turn_then :
      (h : Memory) (r : Run) (x : Turn) (rest : Came) → Chained N w h x.made x.after → Makes N w x.after (after_turn N x r) rest
      → Makes N w h r (came rest.run rest.memory (x.made ++ rest.made))
  turn_then h r x rest first behind =
      record {
        chained = both N w first behind.chained;
        figures_are =
            behind.figures_are
            ∙ ap (with_peak rest.run.tally.peak)
            (ap (noted_all rest.made) (after_figures N x r)
            ∙ noted_all_peak rest.made (after_turn N x r).tally.peak (noted_all x.made r.tally)
            ∙ ap (with_peak (after_turn N x r).tally.peak) (sym (noted_append x.made rest.made r.tally)));
      }

  records_make : (n : ℕ) (bytes : List ℕ) (i : ℕ) (h : Memory) → Undamaged N w h → (r : Run) → Makes N w h r (ran_from wide n N w bytes i h r)
  unfolding ran_from noted_all
  records_make zero bytes i h u r = record { chained = no_calls N w h u; figures_are = refl }
  records_make (suc n) bytes i h u r =
      let x : Turn = record_at wide N w bytes i h in
      let first = turn_chained N w h u (asked N h (fields_at wide bytes (record_length wide * i))) in
      let rest = records_make n bytes (i + 1) x.after first.undamaged (after_turn N x r) in
      elim (ℕ_discrete x.number 0) [
        | yes e ↦
            rw (eq-eqb x.number 0 e, ran_from)
            (turn_then h r x (ran_from wide n N w bytes (i + 1) x.after (after_turn N x r)) first rest)
        | no e ↦ rw (ne_eqb x.number 0 e, ran_from) record { chained = first; figures_are = after_figures N x r }
      ]

  run_makes : (bytes : List ℕ) (h : Memory) → Undamaged N w h → (r : Run) → Makes N w h r (ran wide N w bytes h r)
  unfolding ran noted_all
  run_makes bytes h u r =
      let n : ℕ = whole_records wide bytes r in
      let x : Came = ran_from wide n N w bytes 0 h r in
      let all = records_make n bytes 0 h u r in
      elim (ℕ_discrete r.number 0) [
        | yes e ↦
            rw (eq-eqb r.number 0 e, ran)
            record {
              chained = all.chained;
              figures_are =
                  ended_figures (length bytes) n x.run
                  ∙ all.figures_are
                  ∙ ap (λ (t : Tally). with_peak t.peak (noted_all x.made r.tally)) (sym (ended_figures (length bytes) n x.run));
            }
        | no e ↦ rw (ne_eqb r.number 0 e, ran) record { chained = no_calls N w h u; figures_are = refl }
      ]

-- a run keeps a heap undamaged
pub run_undamaged : (N w : ℕ) (bytes : List ℕ) (h : Memory) → Undamaged N w h → (r : Run) → Undamaged N w (ran wide N w bytes h r).memory
run_undamaged N w bytes h u r = (run_makes N w bytes h u r).chained.undamaged

pub runs_are_calls : RunsAreCalls
runs_are_calls N w bytes h r u =
    let all = run_makes N w bytes h u r in
    let x : Came = ran wide N w bytes h r in
    let chain = all.chained.chain in
    record {
      chain = chain;
      memory_is = all.chained.left;
      claim = theory.claim_from_undamaged N w h u x.made chain;
      figures_are = all.figures_are;
      allocated = ap (λ (t : Tally). t.blocks) all.figures_are ∙ noted_all_blocks x.made r.tally;
      balance = rw all.chained.left (theory.blocks_balance N w h u x.made chain);
    }
