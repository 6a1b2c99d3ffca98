-- The loop over the pieces of the input: the bytes run so far, in pieces of whole records, are one history.
use mathlib.Core.Path.{◌≡◌, refl, sym, ap, subst, ◌∙◌}
use mathlib.Core.Bool.{true}
use mathlib.Core.List.{List, [], ◌++◌}
use Prim.Native.Nat.{ℕ, zero, suc, ◌+◌, ◌-◌, ◌%◌, ◌≤◌, ◌<◌}
use native.Mathlib.Decide.{dec_lt}
use native.Mathlib.Omega.{arith}
use lib.ListN.{length, get_or, length-append, length-replicate, get_or-append}
use lib.Seq.{get_or-append-add}
use Rattle.bitmap.specs.Bit.{Bytes}
use Rattle.rules.specs.Tools.{all}
use Rattle.rules.specs.Heap.{Memory}
use Rattle.rules_stores.specs.Store.{formatted}
use Rattle.rules.specs.Sections.{figures}
use Rattle.rules_calls.specs.Calls.{reply}
use Rattle.types.specs.declared.Reply.{Reply}
use Rattle.theory_memories.specs.Heaps.{Undamaged}
use Rattle.public_read.proofs.CheckReply.{check_passed}
use Rattle.history_records.specs.Records.{record_length, wide}
use Rattle.history_figures.specs.declared.tally.Run.{Run}
use Rattle.history_figures.specs.Figures.{new_run, in_range, most_records, most_collections}
use Rattle.history_figures.proofs.Ranges.{in_range_within}
use Rattle.history_runs.specs.declared.Ran.{Ran}
use Rattle.history_runs.specs.Runs.{ran_from, ended, ran}
use Rattle.history_runs.specs.Promised.{run_reply, cleared, Promised}
use Rattle.history_runs.proofs.CallsMade.{runs_are_calls}
use Rattle.history_runs.proofs.Pieces.{accepted, reply_passed}
use Rattle.history_runs.proofs.TwoCalls.{calls_are_one}
use Rattle.report.specs.declared.run.Outcome.{Outcome}
use Rattle.report.specs.declared.run.Outcome.TheVariants.{Ran as ran_to, ReadFailed, HeapRefused}
use Rattle.report.specs.declared.run.PieceOutcome.{PieceOutcome}
use Rattle.report.specs.declared.run.PieceOutcome.TheVariants.{GoesOn, Ends}
use Rattle.report.specs.Meaning.{accepting, meaning, Reported, last_meaning, piece_meaning}
use Rattle.report_heap.specs.Heap.{report_blocks, report_width, report_roots, new_heap}
use Rattle.report_heap.proofs.NewHeap.{new_undamaged}
use Rattle.report.proofs.Progress.{whole, further}

-- ---- what a piece came to

-- an accepted answer is its run
pub as_accepting :
    {N w : ℕ} {bytes : List ℕ} {h : Memory} {r : Run} {x : Ran} {g : Memory} → Promised N w bytes h r x g → x.reply.number ≡ 0
    → Promised N w bytes h r (accepting x.run) g
as_accepting {N} {w} {bytes} {h} {r} {x} {g} promised accepts =
    let same : x.reply ≡ reply 0 0 0 = promised.reply_is ∙ (accepted promised.reply_is accepts).reply_is in
    subst (λ (y : Ran). Promised N w bytes h r y g) (λ i. record { reply = same i; run = x.run }) promised

-- ---- the bytes so far

pub no_bytes : Bytes []
unfolding Bytes
no_bytes i = get_d_nil i
  where
    get_d_nil : (i : ℕ) → get_or {A = ℕ} [] i 0 < 256
    get_d_nil zero = omega arith
    get_d_nil (suc i) = omega arith

more_bytes : (first rest : List ℕ) → Bytes first → Bytes rest → Bytes (first ++ rest)
unfolding Bytes
more_bytes first rest one two i = elim (dec_lt i (length first)) [
  | yes l ↦ rw (get_or-append first rest 0 i l) (one i)
  | no past ↦
      let there : i ≡ length first + (i - length first) = omega arith in
      subst (λ (k : ℕ). get_or (first ++ rest) k 0 < 256) (sym there)
      (rw (get_or-append-add first rest (i - length first) 0) (two (i - length first)))
]

-- the heap and the run stand as one call on a new heap, on these bytes, would have left them
pub record Kept (bytes : List ℕ) (h : Memory) (r : Run) : Type 0 where
  pub of_bytes : Bytes bytes
  pub whole_records_lem : length bytes % record_length wide ≡ 0
  pub promised : Promised report_blocks report_width bytes new_heap new_run (accepting r) h

-- a run before its first record is in range
new_range : in_range new_run ≡ true
unfolding in_range all most_collections
new_range = refl

-- a new heap keeps no bytes
module _ (N w roots : ℕ) where
  cleared_new : cleared N (formatted N w roots) ≡ formatted N w roots
  unfolding formatted
  cleared_new = refl

  listed_new : (formatted N w roots).sections ≡ figures N (formatted N w roots).a
  unfolding formatted
  listed_new = refl

  none_run : (h : Memory) → (ran wide N w [] h new_run).run ≡ new_run
  unfolding ran ran_from ended
  none_run h = refl

  none_memory : (h : Memory) → (ran wide N w [] h new_run).memory ≡ h
  unfolding ran ran_from ended
  none_memory h = refl

  none_promised : Undamaged N w (formatted N w roots) → Promised N w [] (formatted N w roots) new_run (accepting new_run) (formatted N w roots)
  none_promised fine =
      let new : Memory = formatted N w roots in
      let accepts : reply 0 0 0 ≡ run_reply N w new new_run =
      reply_passed (check_passed {x = reply 0 0 0} fine refl) new_run refl new_range refl in
      record {
        reply_is = accepts;
        run_is = sym (rw (← accepts) (none_run (cleared N new)));
        after_is = sym (rw (← accepts) (none_memory (cleared N new) ∙ cleared_new));
        idle = λ _. sym (ap (λ (h : Memory). h.waiting) cleared_new);
        listed = λ _. listed_new;
        again = λ _. new_range;
        calls = λ _. runs_are_calls N w [] (cleared N new) new_run (subst (λ (h : Memory). Undamaged N w h) (sym cleared_new) fine);
      }

pub kept_start : {g : Memory} {r : Run} → g ≡ new_heap → r ≡ new_run → Kept [] g r
kept_start new start =
    record {
      of_bytes = no_bytes;
      whole_records_lem = refl;
      promised = rw (new, start) (none_promised report_blocks report_width report_roots new_undamaged);
    }

module _ {bytes : List ℕ} {h : Memory} {r : Run} (kept : Kept bytes h r) where
  accepts : run_reply report_blocks report_width new_heap new_run ≡ reply 0 0 0
  accepts = sym kept.promised.reply_is

  pub kept_few : r.records ≤ most_records
  kept_few = (in_range_within r (kept.promised.again refl)).few

  -- a further call on the heap, with the run
  module _ (piece : List ℕ) {x : Ran} {g : Memory} (call : Promised report_blocks report_width piece h r x g) where
    both : Promised report_blocks report_width (bytes ++ piece) new_heap new_run x g
    both =
        calls_are_one report_blocks report_width bytes piece new_heap h new_run (accepting r) x h g kept.whole_records_lem kept.promised refl
        record { same_heap = refl; space = ap length (kept.promised.idle refl) ∙ length-replicate {A = ℕ} report_blocks 0 } call

  -- a piece that leaves the run going
  pub kept_next :
      (came : PieceOutcome) (next : Run) (piece : List ℕ) (g : Memory) → came ≡ GoesOn next → piece_meaning piece h r came g → Bytes piece
      → Kept (bytes ++ piece) g next × (r.records < next.records)
  kept_next came next piece g is met read =
      let goes : piece_meaning piece h r (GoesOn next) g = subst (λ (t : PieceOutcome). piece_meaning piece h r t g) is met in
      let call = goes.0 in
      let more = whole call refl goes.1 in (
        record {
          of_bytes = more_bytes bytes piece kept.of_bytes read;
          whole_records_lem = omega (arith, length-append bytes piece, kept.whole_records_lem, more);
          promised = both piece call;
        },
        further call refl goes.1 (omega (arith, goes.2)),
      )

  -- the last piece
  last_meaning_lem : (outcome : Outcome) (piece : List ℕ) (g : Memory) → last_meaning piece h r outcome g → Bytes piece → Reported outcome
  last_meaning_lem (ran_to next) piece g met read =
      let is : next ≡ (ran wide report_blocks report_width (bytes ++ piece) (cleared report_blocks new_heap) new_run).run =
      rw accepts at (both piece met.0).run_is in (
        bytes ++ piece,
        more_bytes bytes piece kept.of_bytes read,
        is ∙ ap (λ (m : Memory). (ran wide report_blocks report_width (bytes ++ piece) m new_run).run) (cleared_new report_blocks report_width report_roots),
      )
  last_meaning_lem ReadFailed piece g met read = absurd met
  last_meaning_lem HeapRefused piece g met read =
      absurd (met.2 (ap (λ (y : Reply). y.number) ((both piece met.1).reply_is ∙ accepts)))

  pub kept_ends :
      (came : PieceOutcome) (outcome : Outcome) (piece : List ℕ) (g : Memory) → came ≡ Ends outcome → piece_meaning piece h r came g
      → Bytes piece → Reported outcome
  kept_ends came outcome piece g is met read =
      last_meaning_lem outcome piece g (subst (λ (t : PieceOutcome). piece_meaning piece h r t g) is met) read
