-- Request U6: how the cells of a healthy memory are read, what a number write leaves, and where number 12 is given.
use mathlib.Core.Path.{◌≡◌, refl, sym, ap, ◌∙◌, subst}
use mathlib.Core.Logic.{◌≢◌, ◌↔◌}
use mathlib.Core.Bool.{Bool, true, false, not, false≢true}
use mathlib.Core.List.{List, [], ◌∷◌}
use Prim.Native.Nat.{ℕ, ◌+◌, ◌*◌, ◌<◌}
use native.Mathlib.Omega.{arith}
use lib.Dec.{ltb}
use lib.ListN.{set}
use lib.Seq.{get_or-set_same}
use borrow.Author.Tests.{lt-ltb, not-true}
use Rattle.rules.specs.Tools.{first_number}
use Rattle.rules.specs.Heap.{Memory, with_cells, is_first, size_at, is_ref, is_data}
use Rattle.rules_calls.specs.Calls.{Call, store_cell, write_number, read_number, Answer, reply, cell_refusals, Alone, own_refusals, outcome, answer}
use Rattle.rules.proofs.Tests.{Each, done, also, first_past, first_found, first_other}
use Rattle.rules_calls.proofs.Replies.{number_is, accepted_none, accepted_outcome, Passed, passed}
use Rattle.theory.specs.Data.{NumberStands, NumbersWritten, Twelve}
use Rattle.theory_memories.proofs.Memories.TidyHeap.{read_untidy}
use Rattle.theory_memories.proofs.Memories.Fit.{Fit}
use Rattle.theory_memories.proofs.Memories.Stores.{cell_below}
use Rattle.theory_memories.proofs.Memories.Accepted.{accepted_fit, fit_number, fit_accepted}
use Rattle.theory.proofs.EachCall.Served.{number_references, number_healthy}

-- ---- a number written

module _ (N w : ℕ) (h : Memory) (fit : Fit N w h) (at j x : ℕ) (first : is_first N h at ≡ true) (l : j < 4 * size_at N h at)
    (made : is_data h.d at ≡ true) where
  abbrev left : Memory
  left = with_cells (set h.cells (4 * at + j) x) h

  left_fit : Fit N w left
  left_fit =
      record {
        healthy = number_healthy N w h fit.healthy at j x first l made;
        listed = fit.listed;
        tidy = read_untidy N h (set h.cells (4 * at + j) x) (number_references N w h fit.healthy at j x first l made) ∙ fit.tidy;
      }

  number_stands : NumberStands N w h at j x left
  unfolding outcome Passed
  number_stands =
      record {
        one_cell = refl;
        same_references = number_references N w h fit.healthy at j x first l made;
        reads_itself_back =
            ap (λ (y : Answer). y.0) (fit_accepted N w left left_fit (read_number at j) refl (first, l, made))
            ∙ ap (λ (v : ℕ). reply 0 v 0)
            (get_or-set_same h.cells (4 * at + j) x 0
            (omega (arith, cell_below N w h fit.healthy at j first l, fit.healthy.shape.length_cells)));
      }

pub numbers_written : NumbersWritten
unfolding outcome Passed
numbers_written N w h at j x accepted =
    let c : Call = write_number at j x in
    let p = passed N w h c (accepted_none N w h c accepted) in
    subst (λ (y : Answer). NumberStands N w h at j x y.1) (sym (accepted_outcome N w h c accepted))
    (number_stands N w h (accepted_fit N w h c refl accepted) at j x p.0 p.1 p.2)

-- ---- number 12

twelve_first :
    (t : Bool) (more : List (ℕ × Bool)) → Each (λ k. k.0 ≢ 12) more → (first_number ((12, t) ∷ more) ≡ 12) ↔ (t ≡ true)
twelve_first true more others = (λ e. refl, λ e. first_found 12 true more refl)
twelve_first false more others =
    (λ e. absurd (first_other 12 more (omega arith) others (sym (first_past 12 false more refl) ∙ e)), λ e. absurd (false≢true e))

not_first : (t : Bool) → (first_number ((12, not t) ∷ []) ≡ 12) ↔ (t ≡ false)
not_first t = let both = twelve_first (not t) [] done in (λ e. not-true t (both.0 e), λ e. both.1 (ap not e))

module _ (N w : ℕ) (h : Memory) (fit : Fit N w h) (at j : ℕ) (first : is_first N h at ≡ true) (l : j < 4 * size_at N h at) where
  -- where 6 and 7 don't apply, what comes then decides
  past_seven : (c : Call) (more : List (ℕ × Bool)) → Alone c → own_refusals N h c ≡ cell_refusals N h at j more
      → (answer N w h c).0.number ≡ first_number more
  past_seven c more alone own =
      number_is N w h c ∙ fit_number N w h fit c alone ∙ ap first_number own
      ∙ first_past 6 (not (is_first N h at)) _ (ap not first)
      ∙ first_past 7 (not (ltb j (4 * size_at N h at))) _ (ap not (lt-ltb j (4 * size_at N h at) l))

  pub twelve : Twelve N w h at j
  unfolding own_refusals
  twelve =
      record {
        reference_store = λ v.
            rw (past_seven (store_cell at j v) ((12, is_data h.d at) ∷ (8, not (is_ref N h v)) ∷ []) refl refl)
            (twelve_first (is_data h.d at) ((8, not (is_ref N h v)) ∷ []) (also (omega arith) done));
        number_write = λ x.
            rw (past_seven (write_number at j x) ((12, not (is_data h.d at)) ∷ []) refl refl) (not_first (is_data h.d at));
        number_read = rw (past_seven (read_number at j) ((12, not (is_data h.d at)) ∷ []) refl refl) (not_first (is_data h.d at));
      }
