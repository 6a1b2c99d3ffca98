-- What the sentence for an object says of the heap.
use mathlib.Core.Path.{◌≡◌, refl, ap}
use mathlib.Core.Bool.{Bool, true, false, true≢false, false≢true}
use mathlib.Core.List.{List, [], ◌∷◌}
use mathlib.Core.Option.{Option, none, some}
use Prim.Native.Nat.{ℕ, ◌<◌}
use native.Mathlib.Omega.{arith}
use lib.ListN.{length}
use Rattle.rules.specs.Heap.{Memory}
use Rattle.rules_output.specs.Reason.{Reason, kept_by, no_chain, reason_from, chain_to}
use Rattle.rules_output.specs.Sentence.{sentence, sentence_for}
use Rattle.theory_walks.specs.Reason.{IsChain, chain, ReadInOneWay, SentenceSays}
use Rattle.theory_walks.proofs.Sentences.Reading.{read_sentence, sentence_one}
use Rattle.theory_walks.proofs.Sentences.Exact.{read_exact}
use Rattle.theory_walks.proofs.Walks.Best.{chain_is_best, none_exactly}

pub read_in_one_way : ReadInOneWay
read_in_one_way = record { reads_itself_back = read_sentence; only_sentences = read_exact; one_way = sentence_one }

-- the two reasons are not one
is_kept : Reason → Bool
is_kept (kept_by r cells) = true
is_kept no_chain = false

root_of : Reason → ℕ
root_of (kept_by r cells) = r
root_of no_chain = 0

cells_in : Reason → List ℕ
cells_in (kept_by r cells) = cells
cells_in no_chain = []

kept_from : (x : Option (List ℕ)) (r : ℕ) (cells : List ℕ) → reason_from x ≡ kept_by r cells → x ≡ some (r ∷ cells)
unfolding reason_from is_kept root_of cells_in
kept_from none r cells e = absurd (false≢true (ap is_kept e))
kept_from (some []) r cells e = absurd (false≢true (ap is_kept e))
kept_from (some (s ∷ js)) r cells e =
    let roots : s ≡ r = ap root_of e in
    let rest : js ≡ cells = ap cells_in e in
    cc

from_none : (x : Option (List ℕ)) → (x ≡ some [] → ⊥) → reason_from x ≡ no_chain → x ≡ none
unfolding reason_from is_kept
from_none none chained e = refl
from_none (some []) chained e = absurd (chained refl)
from_none (some (s ∷ js)) chained e = absurd (true≢false (ap is_kept e))

long_chain : {N : ℕ} {h : Memory} {at : ℕ} {c : List ℕ} → IsChain N h at c → 0 < length c
long_chain (chain r b l e rest) = omega arith

pub sentence_says : SentenceSays
unfolding sentence_for reason_from
sentence_says N w h u at =
    record {
      kept = λ r cells. (
        λ e. (chain_is_best N w h u at (r ∷ cells)).0 (kept_from (chain_to N h at) r cells (sentence_one _ _ at at e).0),
        λ best. ap (λ (x : Option (List ℕ)). sentence (reason_from x) at) ((chain_is_best N w h u at (r ∷ cells)).1 best),
      );
      unreached = (
        λ e. (none_exactly N w h u at).0
            (from_none (chain_to N h at) (λ s. let long = long_chain ((chain_is_best N w h u at []).0 s).is in omega arith)
            (sentence_one _ _ at at e).0),
        λ unled. ap (λ (x : Option (List ℕ)). sentence (reason_from x) at) ((none_exactly N w h u at).1 unled),
      );
    }
