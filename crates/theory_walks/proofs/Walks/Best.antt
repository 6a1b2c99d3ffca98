-- The chain of request U11 in document 01's words.
use mathlib.Core.Path.{◌≡◌, refl, sym, ap, ◌∙◌, subst}
use mathlib.Core.Logic.{◌≢◌, ◌⊎◌, inl, inr}
use mathlib.Core.List.{List, [], reverse, reverse-reverse}
use mathlib.Core.Option.{Option, none, some, none-ne-some}
use Prim.Native.Nat.{ℕ, suc, ◌+◌, ◌-◌, ◌*◌, ◌≤◌, ◌<◌}
use native.Mathlib.Omega.{arith}
use lib.ListN.{length, get_or}
use Rattle.rules.specs.Heap.{Memory, size_at, reference}
use Rattle.rules_output.specs.Walk.{number_in, followed, numbered}
use Rattle.rules_output.specs.Reason.{chain_to}
use Rattle.theory_memories.specs.Words.{Leads}
use Rattle.theory_walks.specs.Trail.{trail, links_to}
use Rattle.theory_walks.specs.Reason.{Along, here, link, IsChain, chain, Lower, differ, agree, Best, ChainIsBest, NoneExactly, WalkFindsChain}
use Rattle.theory_walks.proofs.Walks.Chains.{Path, Chain}
use Rattle.theory_walks.proofs.Walks.Chains as chains
use Rattle.theory_walks.proofs.Walks.Trails.{trail_met}
use Rattle.theory_walks.proofs.Walks.Rule.{reason_chain, reason_length, reason_least, reason_walk}
use Rattle.theory_walks.proofs.Walks.Reached.{inside_list, references_at, followed_zero, followed_block, follows, led_first, Named, intact_named}
use Rattle.theory_walks.proofs.Walks.Reached.{root_led, cell_led, roots_below, cells_below, led_met}

lower_against : {c d d' c' : List ℕ} → Lower c d → Lower d' c' → c ≡ c' → d ≡ d' → ⊥
lower_against (differ {i} {j} l q) (differ {i = k} {j = m} n r) e f =
    let first : i ≡ m = cc in
    let second : j ≡ k = cc in
    absurd (omega arith)
lower_against (differ {i} {j} l q) (agree {i = k} n) e f =
    let first : i ≡ k = cc in
    let second : j ≡ k = cc in
    absurd (omega arith)
lower_against (agree {i} l) (differ {i = k} {j = m} n r) e f =
    let first : i ≡ m = cc in
    let second : i ≡ k = cc in
    absurd (omega arith)
lower_against (agree {c} {d} l) (agree {c = d'} {d = c'} n) e f =
    let first : c ≡ c' = cc in
    let second : d ≡ d' = cc in
    lower_against l n first second

lower_asymmetric : {c d : List ℕ} → Lower c d → Lower d c → ⊥
lower_asymmetric l m = lower_against l m refl refl

lower_length : {c d : List ℕ} → Lower c d → length c ≡ length d
lower_length (differ l q) = ap suc q
lower_length (agree l) = ap suc (lower_length l)

module _ (N : ℕ) (h : Memory) (named : Named N h) (at : ℕ) where
  -- ---- a chain is what leads there

  along_leads : {b : ℕ} {js : List ℕ} → Along N h at b js → Leads N h b → Leads N h at
  along_leads here led = led
  along_leads (link b n j c object l e rest) led =
      let low : j < 4 * size_at N h b = omega (arith, object.size) in
      let s : reference N h (4 * b + j) ≢ 0 = omega arith in
      let v : reference N h (4 * b + j) - 1 ≡ c = omega arith in
      along_leads rest (subst (Leads N h) v (cell_led N h named led j low s))

  pub chain_leads : {c : List ℕ} → IsChain N h at c → Leads N h at
  chain_leads (chain r b l e rest) =
      let s : get_or h.roots r 0 ≢ 0 = omega arith in
      let v : get_or h.roots r 0 - 1 ≡ b = omega arith in
      along_leads rest (subst (Leads N h) v (root_led N h named r s))

  -- ---- chains of the heap and of the graph

  along_path : {b : ℕ} {js : List ℕ} → Along N h at b js → Path (followed N h) (suc at) (suc b) js
  along_path here = Path.here
  along_path (link b n j c object l e rest) =
      let low : j < 4 * size_at N h b = omega (arith, object.size) in
      let is : get_or (followed N h (suc b)) j 0 ≡ suc c =
      ap (λ (x : List ℕ). get_or x j 0) (followed_block N h b) ∙ references_at N h b j low ∙ omega arith in
      Path.link is (omega arith) (along_path rest)

  path_along : (v b : ℕ) {js : List ℕ} → v ≡ suc b → Leads N h b → Path (followed N h) (suc at) v js → Along N h at b js
  path_along v b e led Path.here = let same : at ≡ b = omega arith in subst (λ (x : ℕ). Along N h at x []) same here
  path_along v b e led (Path.link {u} {j} is s rest) =
      let f = follows N h v j (λ z. s (sym is ∙ z)) in
      let same : v - 1 ≡ b = omega arith in
      let below : j < 4 * size_at N h b = subst (λ (x : ℕ). j < 4 * size_at N h x) same f.below in
      let holds : reference N h (4 * b + j) ≡ u = ap (λ (x : ℕ). reference N h (4 * x + j)) (sym same) ∙ sym f.is ∙ is in
      let next : Leads N h (u - 1) = subst (λ (x : ℕ). Leads N h (x - 1)) holds (cell_led N h named led j below (λ z. s (sym holds ∙ z))) in
      link b (size_at N h b) j (u - 1) (record { first = led_first N h led; size = refl }) below (omega arith)
      (path_along u (u - 1) (omega arith) next rest)

  chain_to_lem : {c : List ℕ} → IsChain N h at c → Chain h.roots (followed N h) (suc at) c
  chain_to_lem (chain r b l e rest) = let is : get_or h.roots r 0 ≡ suc b = omega arith in chains.chain is (omega arith) (along_path rest)

  to_chain : {c : List ℕ} → Chain h.roots (followed N h) (suc at) c → IsChain N h at c
  to_chain (chains.chain {u} {r} e s rest) =
      let first : Leads N h (u - 1) = subst (λ (x : ℕ). Leads N h (x - 1)) e (root_led N h named r (λ z. s (sym e ∙ z))) in
      chain r (u - 1) (inside_list h.roots r (λ z. s (sym e ∙ z))) (omega arith) (path_along u (u - 1) (omega arith) first rest)

  -- ---- the rule's chain

  some_suc : suc at ≢ 0
  some_suc = omega arith

  pub walk_chain : (n : ℕ) → number_in (numbered N h) (suc at) ≡ suc n
      → (c : List ℕ) × (chain_to N h at ≡ some c) × (reverse c ≡ links_to (trail h.roots (followed N h) N) (suc n))
  unfolding chain_to numbered
  walk_chain n e =
      reason_walk h.roots (followed N h) (followed_zero N h) (suc at) some_suc N (roots_below N h named) (cells_below N h named) n
      (ap (λ (l : List ℕ). number_in l (suc at)) (trail_met h.roots (followed N h) N) ∙ e)

  pub leads_chain : Leads N h at → (c : List ℕ) × (chain_to N h at ≡ some c)
  leads_chain led =
      let known = led_met N h named led in
      let found = walk_chain known.0 known.1 in
      (found.0, found.1)

  pub found_length : (c : List ℕ) → chain_to N h at ≡ some c → length c ≤ N
  unfolding chain_to
  found_length c e = reason_length h.roots (followed N h) (followed_zero N h) (suc at) some_suc N c e

  pub found_best : (c : List ℕ) → chain_to N h at ≡ some c → Best N h at c
  unfolding chain_to
  found_best c e = record {
    is = to_chain (reason_chain h.roots (followed N h) (followed_zero N h) (suc at) some_suc N c e);
    fewest = λ other x. elim (order other x) [
      | inl l ↦ omega arith
      | inr q ↦ elim q [ inl same ↦ omega (arith, ap length same) | inr low ↦ omega (arith, lower_length low) ]
    ];
    lowest = λ other x long. elim (order other x) [ inl l ↦ absurd (omega arith) | inr q ↦ q ];
  }
    where
      order : (other : List ℕ) → IsChain N h at other → (length c < length other) ⊎ ((c ≡ other) ⊎ Lower c other)
      order other x = reason_least h.roots (followed N h) (followed_zero N h) (suc at) some_suc N c other e (chain_to_lem x)

  pub best_found : (c : List ℕ) → Best N h at c → chain_to N h at ≡ some c
  best_found c best =
      let found = leads_chain (chain_leads best.is) in
      let x = found.0 in
      let own = found_best x found.1 in
      let long : length x ≡ length c = omega (arith, own.fewest c best.is, best.fewest x own.is) in
      let same : x ≡ c =
      elim (own.lowest c best.is long) [
        | inl e ↦ e
        | inr low ↦ elim (best.lowest x own.is (sym long)) [ inl e ↦ sym e | inr other ↦ absurd (lower_asymmetric low other) ]
      ] in
      found.1 ∙ ap some same

  none_unled : chain_to N h at ≡ none → Leads N h at → ⊥
  none_unled e led = let found = leads_chain led in none-ne-some found.0 (sym e ∙ found.1)

  unled_none : (Leads N h at → ⊥) → chain_to N h at ≡ none
  unled_none not-led = go (chain_to N h at) refl
    where
      go : (x : Option (List ℕ)) → chain_to N h at ≡ x → x ≡ none
      go none e = refl
      go (some c) e = absurd (not-led (chain_leads (found_best c e).is))

pub chain_is_best : ChainIsBest
chain_is_best N w h u at c = let named = intact_named N w h u in (found_best N h named at c, best_found N h named at c)

pub none_exactly : NoneExactly
none_exactly N w h u at = let named = intact_named N w h u in (none_unled N h named at, unled_none N h named at)

pub walk_finds_chain : WalkFindsChain
walk_finds_chain N w h u at n e =
    let found = walk_chain N h (intact_named N w h u) at n e in
    found.1 ∙ ap some (sym (reverse-reverse found.0) ∙ ap reverse found.2)
