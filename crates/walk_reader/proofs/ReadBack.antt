-- What is written is read back.
use mathlib.Core.Path.{◌≡◌, refl, sym, ap, ◌∙◌}
use mathlib.Core.Bool.{Bool, true, false}
use mathlib.Core.List.{List}
use mathlib.Core.Option.{Option, none, some}
use Prim.Native.Nat.{ℕ, ◌-◌, ◌*◌, ◌≤◌, ◌<◌}
use native.Mathlib.Omega.{arith}
use lib.ListN.{length}
use borrow.Author.Tests.{lt-ltb}
use Rattle.rules.specs.Heap.{Memory, max_blocks}
use Rattle.rules_output.specs.Reason.{Reason, reason_from, chain_to, reason_of}
use Rattle.rules_output.specs.Sentence.{sentence, sentence_for, read_back}
use Rattle.rules.proofs.Tests.{true_and}
use Rattle.rules.proofs.Objects.{size_le}
use Rattle.rules.proofs.Shape.{shape_facts}
use Rattle.theory_memories.specs.Heaps.{Intact}
use Rattle.theory_walks.specs.Reason.{Along, here, link, IsChain, chain}
use Rattle.theory_walks.proofs.Walks.Reached.{intact_named}
use Rattle.theory_walks.proofs.Walks.Best.{found_best}
use Rattle.theory.proofs.Theorems.{theory}
use Rattle.walk_reader.specs.Reader.{is_small, are_small, fits, small_back, when}
use Rattle.walk_reader.specs.ReadBack.{ReadsBack}
use Rattle.walk_reader.proofs.Fits.{keep, back_is}

every_sentence : (x : Reason) (at : ℕ) → fits (x, at) ≡ true → small_back (sentence x at) ≡ some (x, at)
unfolding keep when
every_sentence x at e =
    back_is (sentence x at)
    ∙ ap keep (theory.read_in_one_way.reads_itself_back x at)
    ∙ ap (λ (t : Bool). when {A = Reason × ℕ} t (x, at)) e

only_sentences : (text : List ℕ) (x : Reason) (at : ℕ) → small_back text ≡ some (x, at) → text ≡ sentence x at
unfolding keep when
only_sentences text x at e = theory.read_in_one_way.only_sentences text x at (read (read_back text) refl (sym (back_is text) ∙ e))
  where
    kept : (y : Reason × ℕ) (t : Bool) → when t y ≡ some (x, at) → some y ≡ some (x, at)
    kept y true e = e
    kept y false e = let z : ◌≡◌ {A = ℕ} 0 1 = cc in absurd (omega arith)

    read : (o : Option (Reason × ℕ)) → read_back text ≡ o → keep o ≡ some (x, at) → read_back text ≡ some (x, at)
    read none p e = let z : ◌≡◌ {A = ℕ} 0 1 = cc in absurd (omega arith)
    read (some y) p e = p ∙ kept y (fits y) e

-- ---- the numbers of a chain

small : (n : ℕ) → n < 4 * max_blocks → is_small n ≡ true
small n l = lt-ltb n 4294967296 (omega arith)

module _ (N : ℕ) (h : Memory) (few : N ≤ max_blocks) (at : ℕ) where
  cells_small : {b : ℕ} {cells : List ℕ} → Along N h at b cells → are_small cells ≡ true
  unfolding are_small
  cells_small here = refl
  cells_small (link b n j c {js} object l e rest) =
      true_and (is_small j) (are_small js) (small j (omega (arith, object.size, size_le (N - b) h.b b))) (cells_small rest)

  chain_fits : {c : List ℕ} → length h.roots ≤ 64 → at < N → IsChain N h at c → fits (reason_from (some c), at) ≡ true
  unfolding fits reason_from
  chain_fits roots inside (chain r b {js} l e rest) =
      true_and (is_small r) _ (small r (omega arith)) (true_and (are_small js) (is_small at) (cells_small rest) (small at (omega arith)))

every_reason : (N w : ℕ) (h : Memory) → Intact N w h → (at : ℕ) → at < N → small_back (sentence_for N h at) ≡ some (reason_of N h at, at)
unfolding sentence_for fits reason_from
every_reason N w h u at inside =
    let shape = shape_facts N w h u.right_shape in
    every_sentence (reason_of N h at) at (go shape.blocks_max shape.roots_max (chain_to N h at) refl)
  where
    go : N ≤ max_blocks → length h.roots ≤ 64 → (x : Option (List ℕ)) → chain_to N h at ≡ x → fits (reason_from x, at) ≡ true
    go few roots none e = small at (omega arith)
    go few roots (some c) e = chain_fits N h few at roots inside (found_best N h (intact_named N w h u) at c e).is

pub reads_back : ReadsBack
reads_back = record { every_reason = every_reason; every_sentence = every_sentence; only_sentences = only_sentences }
