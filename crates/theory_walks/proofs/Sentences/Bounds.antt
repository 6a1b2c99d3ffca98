-- How long the sentence of request U11 is at most.
use mathlib.Core.Path.{◌≡◌, refl}
use mathlib.Core.List.{List, [], ◌∷◌, ◌++◌}
use mathlib.Core.Option.{Option, none, some}
use Prim.Native.Nat.{ℕ, ◌+◌, ◌-◌, ◌*◌, ◌^◌, ◌≤◌, ◌<◌}
use native.Mathlib.Omega.{arith}
use lib.ListN.{length, length-append}
use Rattle.text.specs.Text.{decimal}
use Rattle.text.proofs.Decimals.{decimal_length}
use Rattle.rules.specs.Heap.{Memory, max_blocks}
use Rattle.rules_output.specs.Reason.{reason_from, chain_to}
use Rattle.rules_output.specs.Sentence.{root_text, cell_text, block_text, no_root_text, ending, links, sentence, sentence_for}
use Rattle.rules.proofs.Objects.{size_le}
use Rattle.rules.proofs.Shape.{shape_facts}
use Rattle.theory_walks.specs.Reason.{Along, here, link, IsChain, chain, SentenceBounded}
use Rattle.theory_walks.proofs.Walks.Reached.{Named, intact_named}
use Rattle.theory_walks.proofs.Walks.Best.{found_length, found_best}

module _ (N : ℕ) (h : Memory) (small : N ≤ max_blocks) (few : length h.roots ≤ 64) (at : ℕ) (inside : at < N) where
  ending_length : length (ending at) ≤ 6
  ending_length = omega (arith, length-append (decimal at) (10 ∷ []), decimal_length 5 at (omega arith) (omega arith))

  links_length : {b : ℕ} {js : List ℕ} → Along N h at b js → length (links js at) ≤ 12 * length js + 13
  unfolding links
  links_length here = omega (arith, length-append block_text (ending at), ending_length)
  links_length (link b n j c {js} object l e rest) =
      let cell : j < 10 ^ 6 = omega (arith, object.size, size_le (N - b) h.b b) in
      omega (
        arith,
        length-append cell_text (decimal j ++ links js at),
        length-append (decimal j) (links js at),
        decimal_length 6 j (omega arith) cell,
        links_length rest,
      )

  chain_length : {c : List ℕ} → IsChain N h at c → length c ≤ N → length (sentence (reason_from (some c)) at) ≤ 12 * N + 8
  unfolding sentence reason_from
  chain_length (chain r b {js} l e rest) fits =
      omega (
        arith,
        length-append root_text (decimal r ++ links js at),
        length-append (decimal r) (links js at),
        decimal_length 2 r (omega arith) (omega arith),
        links_length rest,
      )

  sentence_length : 8 ≤ N → Named N h → length (sentence_for N h at) ≤ 12 * N + 8
  unfolding sentence_for sentence reason_from
  sentence_length large named = go (chain_to N h at) refl
    where
      go : (x : Option (List ℕ)) → chain_to N h at ≡ x → length (sentence (reason_from x) at) ≤ 12 * N + 8
      go none e = omega (arith, length-append no_root_text (ending at), ending_length)
      go (some c) e = chain_length (found_best N h named at c e).is (found_length N h named at c e)

pub sentence_bounded : SentenceBounded
sentence_bounded N w h u at inside =
    let shape = shape_facts N w h u.right_shape in
    sentence_length N h shape.blocks_max shape.roots_max at inside shape.blocks_min (intact_named N w h u)
