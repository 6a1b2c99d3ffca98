-- The rest of a chain's sentence: its links counted, and written.
use mathlib.Core.Path.{◌≡◌, refl, sym, ap, ◌∙◌}
use mathlib.Core.Bool.{Bool, true, false, false≢true}
use mathlib.Core.List.{List, [], ◌∷◌}
use mathlib.Core.Option.{Option, none, some, map}
use Prim.Native.Nat.{ℕ, zero, suc, ◌+◌, ◌≤◌, ◌<◌}
use native.Mathlib.Decide.{ℕ_discrete}
use native.Mathlib.Omega.{arith}
use lib.Dec.{eqb}
use lib.ListN.{length, get_or, drop}
use borrow.Author.Tests.{eq-eqb, ne_eqb}
use Rattle.std.proofs.lemmas.List.{drop_more}
use Rattle.rules_output.specs.Sentence.{cell_text, block_text, behind, ended}
use Rattle.walk_reader.specs.Reader.{small_at, link_at, small_links, links_in, counted, links_found}
use Rattle.walk_reader.proofs.Laws.{small_shorter}

-- ---- what stands behind words

behind_longer : (words l m : List ℕ) → behind words l ≡ some m → length l ≡ length words + length m
unfolding behind
behind_longer [] l m e = let same : l ≡ m = cc in omega (arith, ap length same)
behind_longer (x ∷ words) [] m e = let z : ◌≡◌ {A = ℕ} 0 1 = cc in absurd (omega arith)
behind_longer (x ∷ words) (y ∷ l) m e = elim (ℕ_discrete x y) [
  | yes q ↦ omega (arith, behind_longer words l m (rw (eq-eqb x y q, behind) at e))
  | no d ↦ let z : ◌≡◌ {A = ℕ} 0 1 = cc (rw (ne_eqb x y d, behind) at e) in absurd (omega arith)
]

-- a text that begins with " cell " does not begin with " block "
cell_no_block : (l m : List ℕ) → behind cell_text l ≡ some m → behind block_text l ≡ none
unfolding behind
cell_no_block [] m e = refl
cell_no_block (a ∷ []) m e = space (eqb 32 a)
  where
    space : (t : Bool) → elim t as (λ _. Option (List ℕ)) [ true ↦ none | false ↦ none ] ≡ none
    space true = refl
    space false = refl
cell_no_block (a ∷ b ∷ l) m e = space (eqb 32 a) e
  where
    letter : (t : Bool) → eqb 99 b ≡ t → elim t as (λ _. Option (List ℕ)) [ true ↦ behind (101 ∷ 108 ∷ 108 ∷ 32 ∷ []) l | false ↦ none ] ≡ some m
        → elim (eqb 98 b) as (λ _. Option (List ℕ)) [ true ↦ behind (108 ∷ 111 ∷ 99 ∷ 107 ∷ 32 ∷ []) l | false ↦ none ] ≡ none
    letter true q e = elim (ℕ_discrete 98 b) [
      | yes z ↦ absurd (false≢true (sym (ne_eqb 99 b (λ s. omega arith)) ∙ q))
      | no n ↦ rw (ne_eqb 98 b n) refl
    ]
    letter false q e = let z : ◌≡◌ {A = ℕ} 0 1 = cc in absurd (omega arith)

    space : (t : Bool)
        → elim t as (λ _. Option (List ℕ)) [ true ↦ elim (eqb 99 b) [ true ↦ behind (101 ∷ 108 ∷ 108 ∷ 32 ∷ []) l | false ↦ none ] | false ↦ none ] ≡ some m
        → elim t as (λ _. Option (List ℕ)) [ true ↦ elim (eqb 98 b) [ true ↦ behind (108 ∷ 111 ∷ 99 ∷ 107 ∷ 32 ∷ []) l | false ↦ none ] | false ↦ none ] ≡ none
    space true e = letter (eqb 99 b) refl e
    space false e = refl

-- ---- one link

module _ (l : List ℕ) where
  pub link_words : (m : List ℕ) → behind cell_text l ≡ some m → link_at l ≡ small_at m
  unfolding link_at
  link_words m e = rw (e, link_at) refl

  pub link_none : behind cell_text l ≡ none → link_at l ≡ none
  unfolding link_at
  link_none e = rw (e, link_at) refl

  pub link_shorter : (v : ℕ) (r : List ℕ) → link_at l ≡ some (v, r) → length r < length l
  unfolding link_at
  link_shorter v r e = go (behind cell_text l) refl e
    where
      go : (b : Option (List ℕ)) → behind cell_text l ≡ b
          → elim b as (λ _. Option (ℕ × List ℕ)) [ some m ↦ small_at m | none ↦ none ] ≡ some (v, r) → length r < length l
      go (some m) q e = omega (arith, behind_longer cell_text l m q, small_shorter m v r e)
      go none q e = let z : ◌≡◌ {A = ℕ} 0 1 = cc in absurd (omega arith)

  -- a link, and none
  links_more : (f v : ℕ) (r : List ℕ) → link_at l ≡ some (v, r) → small_links (suc f) l ≡ map (λ y. (v ∷ y.0, y.1)) (small_links f r)
  unfolding link_at small_links
  links_more f v r e = go (behind cell_text l) e
    where
      go : (b : Option (List ℕ)) → elim b as (λ _. Option (ℕ × List ℕ)) [ some m ↦ small_at m | none ↦ none ] ≡ some (v, r)
          → elim b as (λ _. Option (List ℕ × ℕ)) [
            | some m ↦ elim (small_at m) [ some x ↦ map (λ y. (x.0 ∷ y.0, y.1)) (small_links f x.1) | none ↦ none ]
            | none ↦ elim (behind block_text l) [ some m ↦ map (λ at. ([], at)) (ended (small_at m)) | none ↦ none ]
          ]
          ≡ map (λ y. (v ∷ y.0, y.1)) (small_links f r)
      go (some m) e = rw e refl
      go none e = let z : ◌≡◌ {A = ℕ} 0 1 = cc in absurd (omega arith)

  links_end : (f : ℕ) → link_at l ≡ none
      → small_links (suc f) l
      ≡ elim (behind block_text l) as (λ _. Option (List ℕ × ℕ)) [ some m ↦ map (λ at. ([], at)) (ended (small_at m)) | none ↦ none ]
  unfolding link_at small_links
  links_end f e = go (behind cell_text l) refl e
    where
      go : (b : Option (List ℕ)) → behind cell_text l ≡ b
          → elim b as (λ _. Option (ℕ × List ℕ)) [ some m ↦ small_at m | none ↦ none ] ≡ none
          → elim b as (λ _. Option (List ℕ × ℕ)) [
            | some m ↦ elim (small_at m) [ some x ↦ map (λ y. (x.0 ∷ y.0, y.1)) (small_links f x.1) | none ↦ none ]
            | none ↦ elim (behind block_text l) [ some m ↦ map (λ at. ([], at)) (ended (small_at m)) | none ↦ none ]
          ]
          ≡ elim (behind block_text l) as (λ _. Option (List ℕ × ℕ)) [ some m ↦ map (λ at. ([], at)) (ended (small_at m)) | none ↦ none ]
      go (some m) q e = rw (e, cell_no_block l m q) refl
      go none q e = refl

-- ---- links counted

-- n links more
unfoldable pub more : (n : ℕ) → Option (ℕ × ℕ) → Option (ℕ × ℕ)
more n x = map (λ y. (n + y.0, y.1)) x

more_zero : (x : Option (ℕ × ℕ)) → more 0 x ≡ x
unfolding more
more_zero none = refl
more_zero (some (n, at)) = let same : 0 + n ≡ n = omega arith in ap (λ (k : ℕ). some (k, at)) same

more_link : (n v : ℕ) (x : Option (List ℕ × ℕ)) → more n (counted (map (λ y. (v ∷ y.0, y.1)) x)) ≡ more (n + 1) (counted x)
unfolding more counted
more_link n v none = refl
more_link n v (some (cells, at)) = let same : n + suc (length cells) ≡ n + 1 + length cells = omega arith in ap (λ (k : ℕ). some (k, at)) same

-- n links are counted, and what is left stands in front of `rest`
pub record Counting (text rest : List ℕ) (n : ℕ) : Type 0 where
  pub fuel : ℕ
  pub enough : length rest ≤ fuel
  pub few : n + length rest ≤ length text
  pub is : counted (links_in text) ≡ more n (counted (small_links fuel rest))

pub count_start : (text : List ℕ) → Counting text text 0
count_start text = record { fuel = length text; enough = omega arith; few = omega arith; is = sym (more_zero (counted (links_in text))) }

module _ {text rest : List ℕ} {n : ℕ} (c : Counting text rest n) where
  pub count_link : (v : ℕ) (after : List ℕ) → link_at rest ≡ some (v, after) → Counting text after (n + 1)
  count_link v after e = go c.fuel refl
    where
      shorter : length after < length rest
      shorter = link_shorter rest v after e

      go : (f : ℕ) → c.fuel ≡ f → Counting text after (n + 1)
      go zero q = absurd (omega (arith, c.enough, shorter))
      go (suc f) q =
          record {
            fuel = f;
            enough = omega (arith, c.enough, shorter);
            few = omega (arith, c.few, shorter);
            is =
                c.is
                ∙ ap (λ (k : ℕ). more n (counted (small_links k rest))) q
                ∙ ap (λ (x : Option (List ℕ × ℕ)). more n (counted x)) (links_more rest f v after e)
                ∙ more_link n v (small_links f after);
          }

  module _ (last : link_at rest ≡ none) where
    pub count_no_block : behind block_text rest ≡ none → counted (links_in text) ≡ none
    unfolding more counted small_links
    count_no_block e = c.is ∙ ap (λ (x : Option (List ℕ × ℕ)). more n (counted x)) (go c.fuel)
      where
        go : (f : ℕ) → small_links f rest ≡ none
        go zero = refl
        go (suc f) = links_end rest f last ∙ rw e refl

    module _ (m : List ℕ) (block : behind block_text rest ≡ some m) where
      at_end : (x : Option ℕ) → ended (small_at m) ≡ x → counted (links_in text) ≡ more n (counted (map (λ at. ([], at)) x))
      at_end x end = go c.fuel refl
        where
          go : (f : ℕ) → c.fuel ≡ f → counted (links_in text) ≡ more n (counted (map (λ at. ([], at)) x))
          go zero q = absurd (omega (arith, c.enough, behind_longer block_text rest m block))
          go (suc f) q =
              c.is ∙ ap (λ (k : ℕ). more n (counted (small_links k rest))) q
              ∙ ap (λ (y : Option (List ℕ × ℕ)). more n (counted y)) (links_end rest f last ∙ rw (block, end) refl)

      pub count_no_end : ended (small_at m) ≡ none → counted (links_in text) ≡ none
      unfolding more counted
      count_no_end e = at_end none e

      pub count_end : (v : ℕ) → ended (small_at m) ≡ some v → counted (links_in text) ≡ some (n, v)
      unfolding more counted
      count_end v e = let same : n + 0 ≡ n = omega arith in at_end (some v) e ∙ ap (λ (k : ℕ). some (k, v)) same

-- ---- links written

-- the cells from the i-th on are those of the links in front of `rest`
pub record Standing (cells rest : List ℕ) (i : ℕ) : Type 0 where
  pub fuel : ℕ
  pub is : links_found (small_links fuel rest) ≡ drop i cells

pub stand_start : (text : List ℕ) → Standing (links_found (links_in text)) text 0
stand_start text = record { fuel = length text; is = refl }

-- the first of them
record Link (l : List ℕ) (x : ℕ) (cells : List ℕ) : Type 0 where
  after : List ℕ
  there : link_at l ≡ some (x, after)
  fuel : ℕ
  links : links_found (small_links fuel after) ≡ cells

none_found : (b : Option (List ℕ)) (x : ℕ) (cells : List ℕ)
    → links_found (elim b as (λ _. Option (List ℕ × ℕ)) [ some m ↦ map (λ at. ([], at)) (ended (small_at m)) | none ↦ none ]) ≡ x ∷ cells → ⊥
unfolding links_found
none_found none x cells e = cc
none_found (some m) x cells e = go (ended (small_at m)) e
  where
    go : (o : Option ℕ) → links_found (map (λ at. ([], at)) o) ≡ x ∷ cells → ⊥
    go none e = cc
    go (some at) e = cc

link_is : (f : ℕ) (l : List ℕ) (x : ℕ) (cells : List ℕ) → links_found (small_links f l) ≡ x ∷ cells → Link l x cells
unfolding small_links links_found
link_is zero l x cells e = let z : ◌≡◌ {A = ℕ} 0 1 = cc in absurd (omega arith)
link_is (suc f) l x cells e = go (link_at l) refl
  where
    first : (v : ℕ) (after : List ℕ) → link_at l ≡ some (v, after) → (o : Option (List ℕ × ℕ)) → small_links f after ≡ o
        → links_found (map (λ y. (v ∷ y.0, y.1)) o) ≡ x ∷ cells → Link l x cells
    first v after q none r e = let z : ◌≡◌ {A = ℕ} 0 1 = cc in absurd (omega arith)
    first v after q (some (found, at)) r e =
        let same : v ≡ x = cc in
        let tail : found ≡ cells = cc in
        record {
          after = after;
          there = q ∙ ap (λ (k : ℕ). some (k, after)) same;
          fuel = f;
          links = ap links_found r ∙ tail;
        }

    go : (o : Option (ℕ × List ℕ)) → link_at l ≡ o → Link l x cells
    go (some (v, after)) q = first v after q (small_links f after) refl (sym (ap links_found (links_more l f v after q)) ∙ e)
    go none q = absurd (none_found (behind block_text l) x cells (sym (ap links_found (links_end l f q)) ∙ e))

module _ {cells rest : List ℕ} {i : ℕ} (left : i < length cells) (s : Standing cells rest i) where
  next : Link rest (get_or cells i 0) (drop (i + 1) cells)
  next = link_is s.fuel rest (get_or cells i 0) (drop (i + 1) cells) (s.is ∙ drop_more cells i 0 left)

  pub link_stands : link_at rest ≡ none → ⊥
  link_stands e = let both = sym e ∙ next.there in cc

  pub link_read : (v : ℕ) (after : List ℕ) → link_at rest ≡ some (v, after) → (v ≡ get_or cells i 0) × Standing cells after (i + 1)
  link_read v after e =
      let both : ◌≡◌ {A = Option (ℕ × List ℕ)} (some (v, after)) (some (get_or cells i 0, next.after)) = sym e ∙ next.there in
      let same : ◌≡◌ {A = ℕ × List ℕ} (v, after) (get_or cells i 0, next.after) = cc in
      let number : v ≡ get_or cells i 0 = ap (λ (x : ℕ × List ℕ). x.0) same in
      let tail : after ≡ next.after = ap (λ (x : ℕ × List ℕ). x.1) same in
      (number, record { fuel = next.fuel; is = ap (λ (l : List ℕ). links_found (small_links next.fuel l)) tail ∙ next.links })
