-- The word by which the walk first meets an object is a chain, and the least that leads there.
use mathlib.Core.Path.{◌≡◌, refl, sym, ap, ◌∙◌, subst}
use mathlib.Core.Logic.{◌≢◌}
use mathlib.Core.List.{List, [], ◌∷◌, reverse, reverse_aux}
use Prim.Native.Nat.{ℕ, zero, suc, ◌+◌, ◌≤◌, ◌<◌}
use native.Mathlib.Decide.{ℕ_discrete, dec_lt}
use native.Mathlib.Omega.{arith}
use lib.ListN.{length, get_or}
use Rattle.rules_output.specs.Walk.{number_in, object_at}
use Rattle.theory_walks.specs.Trail.{Entry, entry, met_in, meet_at, meet_each_at, trail, links_to}
use Rattle.theory_walks.proofs.Walks.Chains.{Path, here, link, Chain, chain, Word, at_root, further}
use Rattle.theory_walks.proofs.Walks.Numbers.{Distinct, number_le, number_object, object_number, number_same, number_other, number_nil, object_past, grows_object}
use Rattle.theory_walks.proofs.Walks.Words.{most_trans, most_link}
use Rattle.theory_walks.proofs.Walks.Steps.{walk_next, walk_length, walk_distinct}
use Rattle.theory_walks.proofs.Walks.Trails.{met_length, word_same, word_other, MetAt, nothing, again, new, met_at_cases, trail_met}
use Rattle.theory_walks.proofs.Walks.Trails.{Going, Settled, going_settled, settled_going, settled_next, Keeps, met_keeps, each_keeps, Least, least_kept, each_least, each_going, Owned, Each}

module _ (roots : List ℕ) (out : ℕ → List ℕ) where
  -- ---- chains and words

  path_word : {t u : ℕ} {w c : List ℕ} → Word roots out u w → Path out t u c → Word roots out t (reverse_aux c w)
  path_word word here = word
  path_word word (link e s path) = path_word (further word e s) path

  pub chain_word : {t : ℕ} {c : List ℕ} → Chain roots out t c → Word roots out t (reverse c)
  chain_word (chain e s path) = path_word (at_root e s) path

  word_path : {t u : ℕ} {w c : List ℕ} → Word roots out u w → Path out t u c → (d : List ℕ) × Chain roots out t d × (reverse d ≡ reverse_aux c w)
  word_path {c} (at_root {r} e s) path = (r ∷ c, chain e s path, refl)
  word_path (further word e s) path = word_path word (link e s path)

  pub word_chain : {t : ℕ} {w : List ℕ} → Word roots out t w → (d : List ℕ) × Chain roots out t d × (reverse d ≡ w)
  word_chain word = word_path word here

  -- ---- words of the walk are chains

  abbrev Sound : List Entry → Type 0
  Sound l = (v n : ℕ) → number_in (met_in l) v ≡ suc n → Word roots out v (links_to l (suc n))

  met_sound : {l next : List Entry} {p j v : ℕ} → MetAt l p j v next → Sound l → (v ≢ 0 → Word roots out v (j ∷ links_to l p)) → Sound next
  unfolding met_in
  met_sound (nothing e) sound word = λ u n q. sound u n q
  met_sound (again n d e) sound word = λ u n q. sound u n q
  met_sound {l} {p} {j} {v} (new d e) sound word = λ u n q. elim (ℕ_discrete v u) [
    | yes same ↦
        let at : suc n ≡ suc (length l) = sym q ∙ number_same v u (met_in l) same ∙ ap suc (met_length l) in
        rw (word_same (entry v p j) l (suc n) at) (subst (λ (x : ℕ). Word roots out x (j ∷ links_to l p)) same (word d))
    | no other ↦
        let before : number_in (met_in l) u ≡ suc n = sym (number_other v u (met_in l) other) ∙ q in
        rw (word_other (entry v p j) l (suc n) (λ z. omega (arith, number_le (met_in l) u, met_length l))) (sound u n before)
  ]

  each_sound :
      (l : List Entry) (p j : ℕ) (vs : List ℕ) → p ≤ length l → Sound l
      → ((i : ℕ) → get_or vs i 0 ≢ 0 → Word roots out (get_or vs i 0) ((j + i) ∷ links_to l p)) → Sound (meet_each_at l p j vs)
  unfolding meet_each_at
  each_sound l p j [] inside sound words = sound
  each_sound l p j (v ∷ vs) inside sound words =
      let keeps = met_keeps (met_at_cases l p j v) in
      let first : j + 0 ≡ j = omega arith in
      each_sound (meet_at l p j v) p (suc j) vs (omega (arith, keeps.longer)) (met_sound (met_at_cases l p j v) sound (λ s. rw first at (words 0 s)))
      (λ i s.
      let place : suc j + i ≡ j + suc i = omega arith in
      rw (place, keeps.words p inside) (words (suc i) s))

  module _ (empty : out 0 ≡ []) where
    -- past the last object the walk stands still
    each_at_none : (l : List Entry) (p : ℕ) (vs : List ℕ) → vs ≡ [] → meet_each_at l p 0 vs ≡ l
    unfolding meet_each_at
    each_at_none l p [] e = refl
    each_at_none l p (v ∷ vs) e = let z : ◌≡◌ {A = ℕ} 0 1 = cc in absurd (omega arith)

    trail_stands : (k : ℕ) → length (trail roots out k) ≤ k → trail roots out (suc k) ≡ trail roots out k
    unfolding trail
    trail_stands k h =
        let l = trail roots out k in
        each_at_none l (suc k) (out (object_at (met_in l) (suc k)))
        (ap out (object_past (met_in l) (suc k) (omega (arith, met_length l))) ∙ empty)

    trail_distinct : (k : ℕ) → Distinct (met_in (trail roots out k))
    trail_distinct k = rw trail_met (walk_distinct roots out empty k)

    pub trail_sound : (k : ℕ) → Sound (trail roots out k)
    unfolding trail met_in links_to
    trail_sound zero =
        each_sound [] 0 0 roots (omega arith) (λ v n e. absurd (omega (arith, number_nil v)))
        (λ r s. let place : 0 + r ≡ r = omega arith in rw place (at_root refl s))
    trail_sound (suc k) = elim (dec_lt k (length (trail roots out k))) [
      | yes h ↦
          each_sound (trail roots out k) (suc k) 0 (out (object_at (met_in (trail roots out k)) (suc k))) (omega arith) (trail_sound k)
          (λ i s.
          let place : 0 + i ≡ i = omega arith in
          rw place
          (further
          (trail_sound k (object_at (met_in (trail roots out k)) (suc k)) k
          (object_number (trail_distinct k) (suc k) (omega arith) (omega (arith, met_length (trail roots out k)))))
          refl
          s))
      | no h ↦ subst Sound (sym (trail_stands k (omega arith))) (trail_sound k)
    ]

    pub trail_settled : (k : ℕ) → Settled (trail roots out k) (suc k)
    unfolding trail
    trail_settled zero = going_settled (each_going [] 0 0 roots start).1
      where
        start : Going [] 0 0
        start = record { rising = λ m n l h. absurd (omega arith); owned = Owned.nil; sooner = Each.nil; inside = omega arith }
    trail_settled (suc k) = elim (dec_lt k (length (trail roots out k))) [
      | yes h ↦
          going_settled (each_going (trail roots out k) (suc k) 0 (out (object_at (met_in (trail roots out k)) (suc k))) (settled_going (trail_settled k) (omega arith))).1
      | no h ↦ subst (λ (l : List Entry). Settled l (suc (suc k))) (sym (trail_stands k (omega arith))) (settled_next (trail_settled k))
    ]

    trail_next : (k : ℕ) → Keeps (trail roots out k) (trail roots out (suc k))
    unfolding trail
    trail_next k = each_keeps (trail roots out k) (suc k) 0 (out (object_at (met_in (trail roots out k)) (suc k)))

    object_kept : (k n : ℕ) → n < length (trail roots out k) → object_at (met_in (trail roots out (suc k))) (suc n) ≡ object_at (met_in (trail roots out k)) (suc n)
    object_kept k n h =
        rw (trail_met roots out (suc k), trail_met roots out k)
        (grows_object (walk_next roots out empty k) (suc n) (omega (arith, ap length (trail_met roots out k), met_length (trail roots out k))))

    -- ---- and the least

    pub roots_least : (k r : ℕ) → get_or roots r 0 ≢ 0 → Least (trail roots out k) (get_or roots r 0) (r ∷ [])
    unfolding trail links_to
    roots_least zero r s =
        let place : 0 + r ≡ r = omega arith in
        rw place at (each_least [] 0 0 roots start r s)
      where
        start : Going [] 0 0
        start = record { rising = λ m n l h. absurd (omega arith); owned = Owned.nil; sooner = Each.nil; inside = omega arith }
    roots_least (suc k) r s = least_kept (trail_next k) (roots_least k r s)

    taken_now :
        (k v j : ℕ) → k < length (trail roots out k) → object_at (met_in (trail roots out k)) (suc k) ≡ v → get_or (out v) j 0 ≢ 0
        → Least (trail roots out (suc k)) (get_or (out v) j 0) (j ∷ links_to (trail roots out k) (suc k))
    unfolding trail
    taken_now k v j h e s =
        let place : 0 + j ≡ j = omega arith in
        rw e (rw place at (each_least (trail roots out k) (suc k) 0 (out v) (settled_going (trail_settled k) (omega arith)) j s))

    pub taken_least :
        (k n : ℕ) → n < k → n < length (trail roots out k) → (v : ℕ) → object_at (met_in (trail roots out k)) (suc n) ≡ v
        → (j : ℕ) → get_or (out v) j 0 ≢ 0 → Least (trail roots out k) (get_or (out v) j 0) (j ∷ links_to (trail roots out k) (suc n))
    taken_least zero n low high v at j s = absurd (omega arith)
    taken_least (suc k) n low high v at j s = elim (dec_lt n (length (trail roots out k))) [
      | no h ↦ absurd (omega (arith, ap length (trail_stands k (omega arith))))
      | yes h ↦
          let word : links_to (trail roots out (suc k)) (suc n) ≡ links_to (trail roots out k) (suc n) = (trail_next k).words (suc n) (omega arith) in
          let same = sym (object_kept k n h) ∙ at in
          rw word
          (elim (ℕ_discrete n k) [
            | yes e ↦
                rw e
                (taken_now k v j (omega arith) (ap (λ (i : ℕ). object_at (met_in (trail roots out k)) (suc i)) (sym e) ∙ same) s)
            | no d ↦ least_kept (trail_next k) (taken_least k n (omega arith) h v same j s)
          ])
    ]

    module _ (N : ℕ) (below : (r : ℕ) → get_or roots r 0 ≤ N) (cells_below : (v j : ℕ) → get_or (out v) j 0 ≤ N) where
      pub trail_length : length (trail roots out N) ≤ N
      trail_length = omega (arith, walk_length roots out empty N below cells_below N, ap length (trail_met roots out N), met_length (trail roots out N))

      pub word_least : {v : ℕ} {w : List ℕ} → Word roots out v w → Least (trail roots out N) v w
      word_least (at_root {v} {r} e s) =
          subst (λ (x : ℕ). Least (trail roots out N) x (r ∷ [])) e (roots_least N r (λ z. s (sym e ∙ z)))
      word_least (further {p} {v} {j} {w} word e s) =
          let before = word_least word in
          let n = before.number in
          let inside : suc n ≤ length (trail roots out N) =
          omega (arith, before.number_is, number_le (met_in (trail roots out N)) p, met_length (trail roots out N)) in
          let found : Least (trail roots out N) (get_or (out p) j 0) (j ∷ links_to (trail roots out N) (suc n)) =
          taken_least N n (omega (arith, trail_length)) (omega arith) p (number_object (met_in (trail roots out N)) p n before.number_is) j
          (λ z. s (sym e ∙ z)) in
          subst (λ (x : ℕ). Least (trail roots out N) x (j ∷ w)) e
          (record {
            number = found.number;
            number_is = found.number_is;
            least = most_trans found.least (most_link j before.least);
          })
