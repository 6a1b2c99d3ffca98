-- What is told of a text, once its parts are read.
use mathlib.Core.Path.{◌≡◌, refl, sym, ap, ◌∙◌}
use mathlib.Core.List.{List, [], ◌∷◌, ◌++◌}
use mathlib.Core.Option.{Option, none, some}
use Prim.Native.Nat.{ℕ, ◌≤◌, ◌<◌}
use native.Mathlib.Omega.{arith}
use lib.ListN.{length, get_or, drop}
use borrow.Author.Tests.{eq-eqb, ne_eqb, le-leb, lt-leb}
use Rattle.rules_output.specs.Reason.{kept_by, no_chain}
use Rattle.rules_output.specs.Sentence.{root_text, no_root_text, behind, ended}
use Rattle.walk_reader.specs.declared.Reading.{Reading}
use Rattle.walk_reader.specs.Reader.{small_back, reading, reading_of, cells_after, small_at, links_in, counted, links_found}
use Rattle.walk_reader.proofs.Fits.{chained, unreached, back_no_root, back_other, back_chain, back_no_number}

-- ---- a number and its line end

pub ended_nothing : (l : List ℕ) → small_at l ≡ none → ended (small_at l) ≡ none
unfolding ended
ended_nothing l e = ap ended e

pub ended_line : (v : ℕ) (l : List ℕ) → length l ≡ 1 → get_or l 0 0 ≡ 10 → ended (some (v, l)) ≡ some v
unfolding ended
ended_line v [] n e = absurd (omega arith)
ended_line v (c ∷ []) n e = rw (eq-eqb c 10 e, ended) refl
ended_line v (c ∷ d ∷ l) n e = absurd (omega arith)

pub ended_other : (v : ℕ) (l : List ℕ) → (length l ≡ 1 → get_or l 0 0 ≡ 10 → ⊥) → ended (some (v, l)) ≡ none
unfolding ended
ended_other v [] n = refl
ended_other v (c ∷ []) n = rw (ne_eqb c 10 (λ e. n refl e), ended) refl
ended_other v (c ∷ d ∷ l) n = refl

-- ---- links and block

counted_some : (x : Option (List ℕ × ℕ)) (n at : ℕ) → counted x ≡ some (n, at) → (cells : List ℕ) × (x ≡ some (cells, at)) × (length cells ≡ n)
unfolding counted
counted_some none n at e = let z : ◌≡◌ {A = ℕ} 0 1 = cc in absurd (omega arith)
counted_some (some (cells, b)) n at e =
    let both : ◌≡◌ {A = ℕ × ℕ} (length cells, b) (n, at) = cc in
    let block : b ≡ at = ap (λ (x : ℕ × ℕ). x.1) both in
    (cells, ap (λ (k : ℕ). some (cells, k)) block, ap (λ (x : ℕ × ℕ). x.0) both)

counted_none : (x : Option (List ℕ × ℕ)) → counted x ≡ none → x ≡ none
unfolding counted
counted_none none e = refl
counted_none (some y) e = let z : ◌≡◌ {A = ℕ} 0 1 = cc in absurd (omega arith)

-- ---- the reading

module _ (text lent : List ℕ) (r : Reading) where
  abbrev pub Told : List ℕ → Type 0
  Told after = (r ≡ reading_of (length lent) (small_back text)) × (after ≡ cells_after (small_back text) lent)

  nothing : small_back text ≡ none → r ≡ reading 0 0 0 0 → Told lent
  unfolding reading_of cells_after
  nothing e is = rw e (is, refl)

  pub no_line_end : {m : List ℕ} → behind no_root_text text ≡ some m → ended (small_at m) ≡ none → r ≡ reading 0 0 0 0 → Told lent
  no_line_end {m} e end = nothing (back_no_root text m e ∙ ap (λ (x : Option ℕ). unreached x) end)

  pub no_root : {m : List ℕ} {v : ℕ} → behind no_root_text text ≡ some m → ended (small_at m) ≡ some v → r ≡ reading 2 0 0 v → Told lent
  unfolding reading_of cells_after
  no_root {m} {v} e end is =
      let says : small_back text ≡ some (no_chain, v) = back_no_root text m e ∙ ap (λ (x : Option ℕ). unreached x) end in
      rw says (is, refl)

  module _ (other : behind no_root_text text ≡ none) where
    pub no_words : behind root_text text ≡ none → r ≡ reading 0 0 0 0 → Told lent
    no_words e = nothing (back_other text other e)

    module _ {k : List ℕ} (root : behind root_text text ≡ some k) where
      pub no_number : small_at k ≡ none → r ≡ reading 0 0 0 0 → Told lent
      no_number e = nothing (back_no_number text other k root e)

      module _ {v : ℕ} {rest : List ℕ} (number : small_at k ≡ some (v, rest)) where
        chain : small_back text ≡ chained v (links_in rest)
        chain = back_chain text other k v rest root number

        pub no_rest : counted (links_in rest) ≡ none → r ≡ reading 0 0 0 0 → Told lent
        no_rest e = nothing (chain ∙ ap (chained v) (counted_none (links_in rest) e))

        module _ {n at : ℕ} (links : counted (links_in rest) ≡ some (n, at)) where
          found-cells : (cells : List ℕ) × (links_in rest ≡ some (cells, at)) × (length cells ≡ n)
          found-cells = counted_some (links_in rest) n at links

          says : small_back text ≡ some (kept_by v found-cells.0, at)
          says = chain ∙ ap (chained v) found-cells.1

          pub no_room : length lent < n → r ≡ reading 3 v n at → Told lent
          unfolding reading_of cells_after
          no_room short is =
              let few : length lent < length found-cells.0 = omega (arith, found-cells.2) in
              rw (says, lt-leb (length found-cells.0) (length lent) few, reading_of, cells_after)
              (is ∙ ap (λ (k : ℕ). reading 3 v k at) (sym found-cells.2), refl)

          pub all_told : (after : List ℕ) → n ≤ length lent → after ≡ links_found (links_in rest) ++ drop n lent → r ≡ reading 1 v n at → Told after
          unfolding reading_of cells_after links_found
          all_told after long put is =
              let fits : length found-cells.0 ≤ length lent = omega (arith, found-cells.2) in
              let same : links_found (links_in rest) ≡ found-cells.0 = ap links_found found-cells.1 in
              rw (says, le-leb (length found-cells.0) (length lent) fits, reading_of, cells_after) (
                is ∙ ap (λ (k : ℕ). reading 1 v k at) (sym found-cells.2),
                put ∙ ap (λ (l : List ℕ). l ++ drop n lent) same ∙ ap (λ (k : ℕ). found-cells.0 ++ drop k lent) (sym found-cells.2),
              )

-- how many cells there are to write
pub cells_count : (rest : List ℕ) {n at : ℕ} → counted (links_in rest) ≡ some (n, at) → n ≡ length (links_found (links_in rest))
unfolding links_found
cells_count rest {n} {at} links =
    let found = counted_some (links_in rest) n at links in
    sym found.2 ∙ ap length (sym (ap links_found found.1))
