-- The tests of number 13 as the code makes them.
use mathlib.Core.Path.{◌≡◌, refl, sym, ap, ap₂, ◌∙◌}
use mathlib.Core.Bool.{Bool, true, false, not, ◌&&◌, ◌||◌, or-false, false≢true}
use mathlib.Core.List.{List, [], ◌∷◌}
use Prim.Native.Nat.{ℕ, ◌+◌, ◌-◌, ◌*◌, ◌≤◌, ◌<◌, min}
use native.Mathlib.Decide.{ℕ_discrete}
use native.Mathlib.Omega.{arith}
use lib.Bits.{bit_and, bit_or}
use lib.Dec.{eqb, ltb}
use lib.ListN.{length, get_or}
use borrow.Author.Tests.{eqb-true, eqb-false, eq-eqb, ne_eqb, ltb-true, not-true}
use Rattle.bitmap.specs.Bit.{bit_of, bit_at}
use Rattle.bitmap.proofs.Bits.{bit_lt}
use Rattle.bitmap.proofs.Digits.{each_bit, digit_and, digit_not, or_some}
use Rattle.bitmap.proofs.Maps.{bit_past_end, bit_of_byte, bit_at_lt}
use Rattle.std.specs.List.{fold, list_any}
use Rattle.rules.specs.Tools.{some_below}
use Rattle.rules.specs.Heap.{first_in}
use Rattle.rules_steps.specs.Steps.{bad_place}
use Rattle.rules.proofs.Tests.{false_unless, and_true, some_true, true_some, false_some}
use Rattle.rules.proofs.Stretches.{EightTests}
use Rattle.check_maps.proofs.Chains.{items}
use Rattle.step_list.specs.Lists.{is_set, listed_in}
use Rattle.step_list.proofs.Bits.{zero_is}
use Rattle.check_marks.specs.Tidy.{bad_place_in, missed_at, cell_missed_in, missed_apart, missed_of}

-- a mark that is missed, where v names a block past the end
pub past_missed : (N v : ℕ) (marks : List ℕ) → N ≡ 8 * length marks → N < v → is_set marks (v - 1) ≡ false
past_missed N v marks whole past = zero_is marks (v - 1) (bit_past_end marks (v - 1) (omega arith))

pub never : (t : Bool) → (t && false) ≡ false
never true = refl
never false = refl

-- the or of numbers is 0 just where each of them is
or_either : (a b : ℕ) → not (eqb (bit_or a b) 0) ≡ (not (eqb a 0) || not (eqb b 0))
or_either a b = elim (ℕ_discrete a 0) [
  | yes z ↦
      ap (λ (x : ℕ). not (eqb (bit_or x b) 0)) z ∙ ap (λ (t : Bool). not t || not (eqb b 0)) (sym (eq-eqb a 0 z))
  | no n ↦
      ap not (ne_eqb (bit_or a b) 0 (or_some a b n)) ∙ ap (λ (t : Bool). not t || not (eqb b 0)) (sym (ne_eqb a 0 n))
]

or_all : (any : ℕ) (l : List ℕ) → not (eqb (fold bit_or any l) 0) ≡ (not (eqb any 0) || list_any (λ v. not (eqb v 0)) l)
or_all any [] = sym (or-false (not (eqb any 0)))
or_all any (v ∷ l) =
    or_all (bit_or any v) l
    ∙ ap (λ (t : Bool). t || list_any (λ v. not (eqb v 0)) l) (or_either any v)
    ∙ or_assoc (not (eqb any 0)) (not (eqb v 0)) (list_any (λ v. not (eqb v 0)) l)
  where
    or_assoc : (s t u : Bool) → ((s || t) || u) ≡ (s || (t || u))
    or_assoc true t u = refl
    or_assoc false t u = refl

pub or_items : (l : List ℕ) → not (eqb (fold bit_or 0 l) 0) ≡ some_below (λ k. not (eqb (get_or l k 0) 0)) (length l)
or_items l = or_all 0 l ∙ items (λ v. not (eqb v 0)) l

-- ---- the numbers of the list

first_below : (N : ℕ) (a b : List ℕ) (i : ℕ) → first_in N a b i ≡ true → i < N
unfolding first_in
first_below N a b i e =
    ltb-true i N (and_true (ltb i N) (not (eqb (bit_at a i) 0)) (and_true (ltb i N && not (eqb (bit_at a i) 0)) _ e).0).0

module _ (N : ℕ) (a b marks list : List ℕ) where
  pub place_past : (k : ℕ) → N < get_or list k 0 → bad_place_in N a b marks list k ≡ true
  unfolding bad_place
  place_past k past =
      let v : ℕ = get_or list k 0 in
      ap₂ (λ (s t : Bool). not s && not (t && is_set marks (v - 1))) (ne_eqb v 0 (λ z. omega arith))
      (false_unless (first_in N a b (v - 1)) (λ e. omega (arith, first_below N a b (v - 1) e)))

  -- what is listed and not marked
  pub place_unmarked : (i : ℕ) → listed_in N list i ≡ true → is_set marks i ≡ false → some_below (bad_place_in N a b marks list) N ≡ true
  unfolding bad_place listed_in
  place_unmarked i on e =
      let found = some_true (λ k. eqb (get_or list k 0) (i + 1)) N on in
      let v : ℕ = get_or list found.0 0 in
      let at : v ≡ i + 1 = eqb-true v (i + 1) found.2 in
      let same : v - 1 ≡ i = omega arith in
      true_some (bad_place_in N a b marks list) N found.0 found.1
      (ap₂ (λ (s t : Bool). not s && not (first_in N a b (v - 1) && t)) (ne_eqb v 0 (λ z. omega arith)) (ap (is_set marks) same ∙ e)
      ∙ ap not (never (first_in N a b (v - 1))))

  pub places_good : ((k : ℕ) → k < N → get_or list k 0 ≤ N)
      → ((i : ℕ) → i < N → listed_in N list i ≡ true → (first_in N a b i ≡ true) × (is_set marks i ≡ true))
      → some_below (bad_place_in N a b marks list) N ≡ false
  unfolding bad_place listed_in
  places_good low good =
      false_some (bad_place_in N a b marks list) N
      (λ k l.
      let v : ℕ = get_or list k 0 in
      elim (ℕ_discrete v 0) [
        | yes z ↦ ap (λ (t : Bool). not t && not (first_in N a b (v - 1) && is_set marks (v - 1))) (eq-eqb v 0 z)
        | no n ↦
            let most = low k l in
            let next : v ≡ v - 1 + 1 = elim (ℕ_discrete v 0) [ yes z ↦ absurd (n z) | no m ↦ omega arith ] in
            let both = good (v - 1) (omega arith) (true_some (λ m. eqb (get_or list m 0) (v - 1 + 1)) N k l (eq-eqb v (v - 1 + 1) next)) in
            ap₂ (λ (s t : Bool). not (eqb v 0) && not (s && t)) both.0 both.1 ∙ never (not (eqb v 0))
      ])

-- ---- eight blocks at once

apart : (x y : ℕ) → x < 2 → y < 2 → (eqb x 1 && not (eqb y 1)) ≡ not (eqb (min x (1 - y)) 0)
apart x y hx hy =
    each_bit (λ (x : ℕ). (eqb x 1 && not (eqb y 1)) ≡ not (eqb (min x (1 - y)) 0))
    (each_bit (λ (y : ℕ). (eqb 0 1 && not (eqb y 1)) ≡ not (eqb (min 0 (1 - y)) 0)) refl refl y hy)
    (each_bit (λ (y : ℕ). (eqb 1 1 && not (eqb y 1)) ≡ not (eqb (min 1 (1 - y)) 0)) refl refl y hy)
    x hx

-- what is in the one map and not in the other
pub apart_eight : (map other : List ℕ) (k : ℕ) → get_or other k 0 < 256
    → EightTests (λ i. is_set map i && not (is_set other i)) k (bit_and (get_or map k 0) (255 - get_or other k 0))
apart_eight map other k small s l =
    let x : ℕ = bit_at map (8 * k + s) in
    let y : ℕ = bit_at other (8 * k + s) in
    let digit : bit_of (bit_and (get_or map k 0) (255 - get_or other k 0)) s ≡ min x (1 - y) =
    digit_and (get_or map k 0) (255 - get_or other k 0) s
    ∙ omega (arith, digit_not 8 (get_or other k 0) s small l, bit_of_byte map k s l, bit_of_byte other k s l) in
    apart x y (bit_at_lt map (8 * k + s)) (bit_at_lt other (8 * k + s)) ∙ ap (λ (d : ℕ). not (eqb d 0)) (sym digit)

-- ---- marked unlisted objects

module _ (N : ℕ) (b d cells marks : List ℕ) where
  pub of_is : (these k s : ℕ) → missed_of these k N b d cells marks s ≡ true → bit_of these s ≡ 1
  unfolding missed_of
  of_is these k s e =
      let parts = and_true (not (eqb (bit_of these s) 0)) (missed_at N b d cells marks (8 * k + s)) e in
      omega (arith, eqb-false (bit_of these s) 0 (not-true (eqb (bit_of these s) 0) parts.0), bit_lt these s)

  pub of_read : (these k s : ℕ) → bit_of these s ≡ 1 → missed_of these k N b d cells marks s ≡ missed_at N b d cells marks (8 * k + s)
  unfolding missed_of
  of_read these k s e = rw (ne_eqb (bit_of these s) 0 (omega arith), missed_of)

  pub of_eight : (map : List ℕ) (k : ℕ) → get_or map k 0 < 256 → (s : ℕ) → s < 8
      → missed_apart N b d cells marks map (8 * k + s) ≡ missed_of (bit_and (get_or marks k 0) (255 - get_or map k 0)) k N b d cells marks s
  unfolding missed_apart missed_of
  of_eight map k small s l = ap (λ (t : Bool). t && missed_at N b d cells marks (8 * k + s)) (apart_eight marks map k small s l)

  -- where marks stand on first blocks, it is the rules' test
  pub apart_same : (a list map : List ℕ) (x : ℕ) → is_set map x ≡ listed_in N list x
      → (is_set marks x ≡ true → first_in N a b x ≡ true) → missed_apart N b d cells marks map x ≡ cell_missed_in N a b d cells marks list x
  unfolding missed_apart cell_missed_in
  apart_same a list map x on first =
      ap (λ (t : Bool). (is_set marks x && not t) && missed_at N b d cells marks x) on
      ∙ go (is_set marks x) (first_in N a b x) (not (listed_in N list x)) (missed_at N b d cells marks x) first
    where
      go : (m f l r : Bool) → (m ≡ true → f ≡ true) → ((m && l) && r) ≡ (f && m && l && r)
      go true true l r h = same l r
        where
          same : (l r : Bool) → ((true && l) && r) ≡ (true && true && l && r)
          same true r = refl
          same false r = refl
      go true false l r h = absurd (false≢true (h refl))
      go false true l r h = refl
      go false false l r h = refl
