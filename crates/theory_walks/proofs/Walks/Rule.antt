-- What the rule of request U11 gives: a chain, the one with the fewest links and the lowest of these; and the
-- walk finds the same.
use mathlib.Core.Path.{◌≡◌, refl, sym, ap, ◌∙◌, subst}
use mathlib.Core.Logic.{◌≢◌, ◌⊎◌, inl, inr}
use mathlib.Core.List.{List, [], ◌∷◌, reverse}
use mathlib.Core.Option.{Option, none, some}
use Prim.Native.Nat.{ℕ, zero, suc, ◌≤◌, ◌<◌}
use native.Mathlib.Decide.{ℕ_discrete, dec_lt}
use native.Mathlib.Omega.{arith}
use lib.ListN.{length, get_or, length-reverse_aux}
use borrow.Author.Tests.{eq-eqb, ne_eqb}
use Rattle.rules_output.specs.Walk.{number_in}
use Rattle.rules_output.specs.Reason.{lowest_of, first_of, cells_to, chain_of, best_chain}
use Rattle.theory_walks.specs.Reason.{Lower, differ, agree}
use Rattle.theory_walks.specs.Trail.{met_in, trail, links_to}
use Rattle.theory_walks.proofs.Walks.Chains.{Path, here, link, Chain, chain}
use Rattle.theory_walks.proofs.Walks.Words.{AtMost, most_same, lower_before, shorter_before}
use Rattle.theory_walks.proofs.Walks.Trails.{word_length}
use Rattle.theory_walks.proofs.Walks.Trails as trails
use Rattle.theory_walks.proofs.Walks.Numbers.{number_le}
use Rattle.theory_walks.proofs.Walks.Reached.{inside_list}
use Rattle.theory_walks.proofs.Walks.Least.{chain_word, word_chain, trail_sound, trail_settled, trail_length, word_least}

-- ---- the lowest

pub record FoundAt (f : ℕ → Option (List ℕ)) (n : ℕ) (c : List ℕ) : Type 0 where
  pub at : ℕ
  pub rest : List ℕ
  pub below : at < n
  pub is : f at ≡ some rest
  pub whole : c ≡ at ∷ rest

lowest_found : (f : ℕ → Option (List ℕ)) (n : ℕ) (c : List ℕ) → lowest_of f n ≡ some c → FoundAt f n c
unfolding lowest_of
lowest_found f zero c e = let z : ◌≡◌ {A = ℕ} 0 1 = cc in absurd (omega arith)
lowest_found f (suc n) c e = go (λ q. lowest_found f n c q) (lowest_of f n) (f n) refl refl e
  where
    go : (lowest_of f n ≡ some c → FoundAt f n c) → (x y : Option (List ℕ)) → lowest_of f n ≡ x → f n ≡ y
        → elim x [ some c ↦ some c | none ↦ elim y [ some c ↦ some (n ∷ c) | none ↦ none ] ] ≡ some c → FoundAt f (suc n) c
    go rec (some d) y p q r =
        let before = rec (p ∙ r) in
        record { at = before.at; rest = before.rest; below = omega (arith, before.below); is = before.is; whole = before.whole }
    go rec none (some d) p q r = record { at = n; rest = d; below = omega arith; is = q; whole = cc }
    go rec none none p q r = let z : ◌≡◌ {A = ℕ} 0 1 = cc in absurd (omega arith)

pub record LowestAt (f : ℕ → Option (List ℕ)) (n j : ℕ) : Type 0 where
  pub at : ℕ
  pub rest : List ℕ
  pub most : at ≤ j
  pub is : f at ≡ some rest
  pub found : lowest_of f n ≡ some (at ∷ rest)

found_lowest : (f : ℕ → Option (List ℕ)) (n j : ℕ) (c : List ℕ) → j < n → f j ≡ some c → LowestAt f n j
unfolding lowest_of
found_lowest f zero j c h e = absurd (omega arith)
found_lowest f (suc n) j c h e = go (λ l. found_lowest f n j c l e) (lowest_of f n) refl
  where
    go : (j < n → LowestAt f n j) → (x : Option (List ℕ)) → lowest_of f n ≡ x → LowestAt f (suc n) j
    go rec x p = elim (ℕ_discrete j n) [
      | no d ↦
          let other = rec (omega arith) in
          record { at = other.at; rest = other.rest; most = other.most; is = other.is; found = rw (other.found, lowest_of) refl }
      | yes q ↦ last x p q
    ]
      where
        last : (x : Option (List ℕ)) → lowest_of f n ≡ x → j ≡ n → LowestAt f (suc n) j
        last (some d) p q =
            let before = lowest_found f n d p in
            record { at = before.at; rest = before.rest; most = omega (arith, before.below); is = before.is; found = rw (p, lowest_of) (ap some before.whole) }
        last none p q =
            let here-is : f n ≡ some c = ap f (sym q) ∙ e in
            record { at = n; rest = c; most = omega arith; is = here-is; found = rw (p, here-is, lowest_of) refl }

-- ---- the first

pub record FirstAt (f : ℕ → Option (List ℕ)) (n : ℕ) (c : List ℕ) : Type 0 where
  pub at : ℕ
  pub is : f at ≡ some c
  pub first : (k : ℕ) → k < at → f k ≡ none
  pub below : at < n

first_none : (f : ℕ → Option (List ℕ)) (n : ℕ) → first_of f n ≡ none → (k : ℕ) → k < n → f k ≡ none
unfolding first_of
first_none f zero e k h = absurd (omega arith)
first_none f (suc n) e k h = go (λ p l. first_none f n p k l) (first_of f n) refl e
  where
    go : (first_of f n ≡ none → k < n → f k ≡ none) → (x : Option (List ℕ)) → first_of f n ≡ x → ◌≡◌ {A = Option (List ℕ)} (elim x [ some c ↦ some c | none ↦ f n ]) none → f k ≡ none
    go rec (some c) p q = let z : ◌≡◌ {A = ℕ} 0 1 = cc in absurd (omega arith)
    go rec none p q = elim (ℕ_discrete k n) [ yes s ↦ ap f s ∙ q | no d ↦ rec p (omega arith) ]

first_found : (f : ℕ → Option (List ℕ)) (n : ℕ) (c : List ℕ) → first_of f n ≡ some c → FirstAt f n c
unfolding first_of
first_found f zero c e = let z : ◌≡◌ {A = ℕ} 0 1 = cc in absurd (omega arith)
first_found f (suc n) c e = go (λ p. first_found f n c p) (first_of f n) refl e
  where
    go : (first_of f n ≡ some c → FirstAt f n c) → (x : Option (List ℕ)) → first_of f n ≡ x → elim x [ some c ↦ some c | none ↦ f n ] ≡ some c → FirstAt f (suc n) c
    go rec (some d) p q =
        let before = rec (p ∙ q) in
        record { at = before.at; is = before.is; first = before.first; below = omega (arith, before.below) }
    go rec none p q = record { at = n; is = q; first = first_none f n p; below = omega arith }

-- ---- cells

module _ (roots : List ℕ) (out : ℕ → List ℕ) (empty : out 0 ≡ []) (t : ℕ) (some_object : t ≢ 0) where
  -- from 0 nothing leads anywhere
  cells_zero : (k : ℕ) (c : List ℕ) → cells_to k out 0 t ≡ some c → ⊥
  unfolding cells_to lowest_of
  cells_zero zero c e =
      let z : ◌≡◌ {A = ℕ} 0 1 = cc (rw (ne_eqb 0 t (λ q. some_object (sym q)), cells_to) at e) in
      omega arith
  cells_zero (suc k) c e =
      let found = lowest_found (λ j. cells_to k out (get_or (out 0) j 0) t) (length (out 0)) c e in
      absurd (omega (arith, found.below, ap length empty))

  pub cells_sound : (k v : ℕ) (c : List ℕ) → cells_to k out v t ≡ some c → (length c ≡ k) × Path out t v c
  unfolding cells_to
  cells_sound zero v c e = elim (ℕ_discrete v t) [
    | yes q ↦
        let nil : c ≡ [] = cc (rw (eq-eqb v t q, cells_to) at e) in
        rw nil (refl, subst (λ (x : ℕ). Path out t x []) (sym q) here)
    | no d ↦ let z : ◌≡◌ {A = ℕ} 0 1 = cc (rw (ne_eqb v t d, cells_to) at e) in absurd (omega arith)
  ]
  cells_sound (suc k) v c e =
      let found = lowest_found (λ j. cells_to k out (get_or (out v) j 0) t) (length (out v)) c e in
      let u : ℕ = get_or (out v) found.at 0 in
      let rest = cells_sound k u found.rest found.is in
      let some_u : u ≢ 0 = λ z. cells_zero k found.rest (ap (λ (x : ℕ). cells_to k out x t) (sym z) ∙ found.is) in
      rw found.whole (ap suc rest.0, link {j = found.at} refl some_u rest.1)

  abbrev Cells : ℕ → ℕ → List ℕ → Type 0
  Cells k v c = (d : List ℕ) × (cells_to k out v t ≡ some d) × ((d ≡ c) ⊎ Lower d c)

  -- one more in front
  lowest_least :
      (f : ℕ → Option (List ℕ)) (n j k : ℕ) (c d : List ℕ) → ((i : ℕ) (x : List ℕ) → f i ≡ some x → length x ≡ k) → length c ≡ k
      → j < n → f j ≡ some d → (d ≡ c) ⊎ Lower d c → (x : List ℕ) × (lowest_of f n ≡ some x) × ((x ≡ j ∷ c) ⊎ Lower x (j ∷ c))
  lowest_least f n j k c d lengths long h e order =
      let low = found_lowest f n j d h e in (
        low.at ∷ low.rest,
        low.found,
        elim (ℕ_discrete low.at j) [
          | yes q ↦
              let same : low.rest ≡ d = cc (low.is, e, ap f q) in
              rw (q, same) (elim order [ inl p ↦ inl (ap (λ (x : List ℕ). j ∷ x) p) | inr p ↦ inr (agree p) ])
          | no q ↦ inr (differ {i = low.at} {j = j} (omega (arith, low.most)) (lengths low.at low.rest low.is ∙ sym long))
        ],
      )

  cells_least : (k : ℕ) {v : ℕ} {c : List ℕ} → Path out t v c → length c ≡ k → Cells k v c
  unfolding cells_to
  cells_least zero here e = ([], rw (eq-eqb t t refl, cells_to) refl, inl refl)
  cells_least (suc k) here e = absurd (omega arith)
  cells_least zero (link q s path) e = absurd (omega arith)
  cells_least (suc k) (link {v} {u} {j} {c} q s path) e =
      let rest = cells_least k path (omega arith) in
      lowest_least (λ i. cells_to k out (get_or (out v) i 0) t) (length (out v)) j k c rest.0
      (λ i x p. (cells_sound k (get_or (out v) i 0) x p).0) (omega arith) (inside_list (out v) j (λ z. s (sym q ∙ z)))
      (ap (λ (x : ℕ). cells_to k out x t) q ∙ rest.1) rest.2

  chain_sound : (k : ℕ) (c : List ℕ) → chain_of k roots out t ≡ some c → (length c ≡ suc k) × Chain roots out t c
  unfolding chain_of
  chain_sound k c e =
      let found = lowest_found (λ r. cells_to k out (get_or roots r 0) t) (length roots) c e in
      let u : ℕ = get_or roots found.at 0 in
      let rest = cells_sound k u found.rest found.is in
      let some_u : u ≢ 0 = λ z. cells_zero k found.rest (ap (λ (x : ℕ). cells_to k out x t) (sym z) ∙ found.is) in
      rw found.whole (ap suc rest.0, chain {r = found.at} refl some_u rest.1)

  chain_least : (k : ℕ) {c : List ℕ} → Chain roots out t c → length c ≡ suc k → (d : List ℕ) × (chain_of k roots out t ≡ some d) × ((d ≡ c) ⊎ Lower d c)
  unfolding chain_of
  chain_least k (chain {u} {r} {c} q s path) e =
      let rest = cells_least k path (omega arith) in
      lowest_least (λ i. cells_to k out (get_or roots i 0) t) (length roots) r k c rest.0
      (λ i x p. (cells_sound k (get_or roots i 0) x p).0) (omega arith) (inside_list roots r (λ z. s (sym q ∙ z)))
      (ap (λ (x : ℕ). cells_to k out x t) q ∙ rest.1) rest.2

  -- ---- the reason

  abbrev pub Ordered : List ℕ → List ℕ → Type 0
  Ordered c d = (length c < length d) ⊎ ((c ≡ d) ⊎ Lower c d)

  pub reason_chain : (N : ℕ) (c : List ℕ) → best_chain N roots out t ≡ some c → Chain roots out t c
  unfolding best_chain
  reason_chain N c e =
      let found = first_found (λ k. chain_of k roots out t) N c e in
      (chain_sound found.at c found.is).1

  -- it has no more than n numbers, of which one is the root
  pub reason_length : (n : ℕ) (c : List ℕ) → best_chain n roots out t ≡ some c → length c ≤ n
  unfolding best_chain
  reason_length n c e =
      let found = first_found (λ k. chain_of k roots out t) n c e in
      omega (arith, (chain_sound found.at c found.is).0, found.below)

  some_chain : {d : List ℕ} → Chain roots out t d → (k : ℕ) × (length d ≡ suc k)
  some_chain (chain {c} q s path) = (length c, refl)

  pub reason_least : (N : ℕ) (c d : List ℕ) → best_chain N roots out t ≡ some c → Chain roots out t d → Ordered c d
  unfolding best_chain
  reason_least N c d e other =
      let found = first_found (λ k. chain_of k roots out t) N c e in
      let long = some_chain other in
      let k = long.0 in
      let low = chain_least k other long.1 in
      let own = (chain_sound found.at c found.is).0 in
      elim (dec_lt k found.at) [
        | yes h ↦ let z : ◌≡◌ {A = ℕ} 0 1 = cc (found.first k h, low.1) in absurd (omega arith)
        | no h ↦ elim (ℕ_discrete found.at k) [
          | yes q ↦
              let same : low.0 ≡ c = cc (low.1, found.is, ap (λ (i : ℕ). chain_of i roots out t) q) in
              inr (subst (λ (x : List ℕ). (x ≡ d) ⊎ Lower x d) same low.2)
          | no q ↦ inl (omega (arith, long.1))
        ]
      ]

  pub reason_some : (N : ℕ) (d : List ℕ) → Chain roots out t d → length d ≤ N → (c : List ℕ) × (best_chain N roots out t ≡ some c)
  unfolding best_chain
  reason_some N d other h = go (first_of (λ k. chain_of k roots out t) N) refl
    where
      go : (x : Option (List ℕ)) → first_of (λ k. chain_of k roots out t) N ≡ x → (c : List ℕ) × (first_of (λ k. chain_of k roots out t) N ≡ some c)
      go (some c) p = (c, p)
      go none p =
          let long = some_chain other in
          let low = chain_least long.0 other long.1 in
          let z : ◌≡◌ {A = ℕ} 0 1 = cc (first_none (λ k. chain_of k roots out t) N p long.0 (omega (arith, long.1)), low.1) in
          absurd (omega arith)

  -- ---- the walk finds it

  module _ (N : ℕ) (below : (r : ℕ) → get_or roots r 0 ≤ N) (cells_below : (v j : ℕ) → get_or (out v) j 0 ≤ N) where
    -- the walk's word, turned round, is the rule's chain
    pub reason_walk : (n : ℕ) → number_in (met_in (trail roots out N)) t ≡ suc n
        → (c : List ℕ) × (best_chain N roots out t ≡ some c) × (reverse c ≡ links_to (trail roots out N) (suc n))
    reason_walk n e =
        let w : List ℕ = links_to (trail roots out N) (suc n) in
        let own = word_chain roots out (trail_sound roots out empty N t n e) in
        let d : List ℕ = own.0 in
        let short : length d ≤ N =
        omega (
          arith,
          ap length own.2,
          length-reverse_aux d [],
          word_length (trail_settled roots out empty N).owned (suc n),
          number_le (met_in (trail roots out N)) t,
          trails.met_length (trail roots out N),
          trail_length roots out empty N below cells_below,
        ) in
        let found = reason_some N d own.1 short in
        let c : List ℕ = found.0 in
        let walked = word_least roots out empty N below cells_below (chain_word roots out (reason_chain N c found.1)) in
        let same : walked.number ≡ n = omega (arith, walked.number_is) in
        let one : AtMost w (reverse c) = subst (λ (i : ℕ). AtMost (links_to (trail roots out N) (suc i)) (reverse c)) same walked.least in
        let other : AtMost (reverse c) w =
        subst (λ (x : List ℕ). AtMost (reverse c) x) own.2 (turn c d (reason_least N c d found.1 own.1)) in
        (c, found.1, most_same other one)
      where
        turn : (c d : List ℕ) → Ordered c d → AtMost (reverse c) (reverse d)
        turn c d (inl h) = inr (shorter_before (reverse c) (reverse d) (omega (arith, length-reverse_aux c [], length-reverse_aux d [])))
        turn c d (inr (inl e)) = inl (ap (λ (x : List ℕ). reverse x) e)
        turn c d (inr (inr l)) = inr (lower_before [] l)

    -- what the walk doesn't meet has no chain
    pub none_walk : number_in (met_in (trail roots out N)) t ≡ 0 → best_chain N roots out t ≡ none
    none_walk e = go (best_chain N roots out t) refl
      where
        go : (x : Option (List ℕ)) → best_chain N roots out t ≡ x → x ≡ none
        go none p = refl
        go (some c) p =
            let walked = word_least roots out empty N below cells_below (chain_word roots out (reason_chain N c p)) in
            absurd (omega (arith, walked.number_is))

    -- "Where there is no chain .., and this only then."
    pub none_exactly : best_chain N roots out t ≡ none → (d : List ℕ) → Chain roots out t d → ⊥
    none_exactly e d other =
        let walked = word_least roots out empty N below cells_below (chain_word roots out other) in
        let found = reason_walk walked.number walked.number_is in
        let z : ◌≡◌ {A = ℕ} 0 1 = cc found.1 in
        omega arith
