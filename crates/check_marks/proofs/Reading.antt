-- The list read into a map, number by number.
use mathlib.Core.Path.{◌≡◌, refl, sym, ap, ap₂, ◌∙◌}
use mathlib.Core.Logic.{◌≢◌, inl, inr}
use mathlib.Core.Bool.{Bool, true, false, not, ◌&&◌, ◌||◌, or-true, false≢true, true≢false}
use mathlib.Core.List.{List}
use Prim.Native.Nat.{ℕ, zero, suc, ◌+◌, ◌-◌, ◌*◌, ◌≤◌, ◌<◌}
use native.Mathlib.Decide.{ℕ_discrete, dec_lt}
use native.Mathlib.Omega.{arith}
use lib.Dec.{eqb, leb}
use lib.ListN.{length, get_or}
use borrow.Author.Tests.{eqb-true, eqb-false, eq-eqb, ne_eqb, le-leb, lt-leb, not-true, not-false}
use Rattle.bitmap.specs.Bit.{set_bit}
use Rattle.rules.specs.Tools.{some_below}
use Rattle.rules_steps.specs.Steps.{bad_next}
use Rattle.rules.proofs.Tests.{test_cases_lem, true_some, some_true, some_false}
use Rattle.rules.proofs.Stretches.{some_further, none_further}
use Rattle.step_list.specs.Lists.{listed_in, Shows}
use Rattle.step_list.proofs.Bits.{shows_more, gains_one}
use Rattle.check_marks.specs.Tidy.{bad_next_in, Read}
use Rattle.check_marks.proofs.Tests.{never}

-- ---- two numbers, one behind the other

abbrev bad : (v next : ℕ) → Bool
bad v next = not (eqb next 0) && (eqb v 0 || leb next v)

bad_none : (v next : ℕ) → next ≡ 0 → bad v next ≡ false
bad_none v next e = ap (λ (t : Bool). not t && (eqb v 0 || leb next v)) (eq-eqb next 0 e)

bad_rises : (v next : ℕ) → v ≢ 0 → v < next → bad v next ≡ false
bad_rises v next n l =
    ap₂ (λ (s t : Bool). not (eqb next 0) && (s || t)) (ne_eqb v 0 n) (lt-leb next v l) ∙ never (not (eqb next 0))

bad_after : (v next : ℕ) → v ≡ 0 → next ≢ 0 → bad v next ≡ true
bad_after v next z n = ap₂ (λ (s t : Bool). not s && (t || leb next v)) (ne_eqb next 0 n) (eq-eqb v 0 z)

bad_falls : (v next : ℕ) → next ≢ 0 → next ≤ v → bad v next ≡ true
bad_falls v next n l =
    ap₂ (λ (s t : Bool). not s && (eqb v 0 || t)) (ne_eqb next 0 n) (le-leb next v l) ∙ or-true (eqb v 0)

-- behind a 0 a number that is not 0: one of them follows a 0 at once
after_zero : (N : ℕ) (list : List ℕ) (k d : ℕ) → get_or list k 0 ≡ 0 → get_or list (k + d) 0 ≢ 0 → k + d < N
    → some_below (bad_next_in list) (N - 1) ≡ true
unfolding bad_next
after_zero N list k zero z n l =
    let same : k + 0 ≡ k = omega arith in
    absurd (n (ap (λ (m : ℕ). get_or list m 0) same ∙ z))
after_zero N list k (suc d) z n l =
    let next : k + d + 1 ≡ k + suc d = omega arith in
    elim (ℕ_discrete (get_or list (k + d) 0) 0) [
      | yes e ↦
          true_some (bad_next_in list) (N - 1) (k + d) (omega arith)
          (bad_after (get_or list (k + d) 0) (get_or list (k + d + 1) 0) e (λ q. n (ap (λ (m : ℕ). get_or list m 0) (sym next) ∙ q)))
      | no m ↦ after_zero N list k d z m (omega arith)
    ]

-- ---- the loop

-- the first k numbers are read, and `before` is the last of them
pub record Reading (N : ℕ) (list : List ℕ) (before k : ℕ) (map : List ℕ) : Type 0 where
  pub within : k ≤ N
  pub first : k ≡ 0 → before ≡ 0
  pub last : (j : ℕ) → j + 1 ≡ k → before ≡ get_or list j 0
  pub some : (j : ℕ) → j < k → get_or list j 0 ≢ 0
  pub rises : (j : ℕ) → j + 1 < k → bad_next_in list j ≡ false
  pub low : (j : ℕ) → j < k → get_or list j 0 ≤ N
  pub shown : Shows N (listed_in k list) map

module _ {N : ℕ} {list : List ℕ} where
  pub reading_start : {map : List ℕ} → Shows N (listed_in 0 list) map → Reading N list 0 0 map
  reading_start s = record {
    within = omega arith;
    first = λ e. refl;
    last = λ j e. absurd (omega arith);
    some = λ j l. absurd (omega arith);
    rises = λ j l. absurd (omega arith);
    low = λ j l. absurd (omega arith);
    shown = s;
  }

  module _ {before k : ℕ} {map : List ℕ} (g : Reading N list before k map) where
    pub reading_all : N ≤ k → Read N list map true
    reading_all l =
        let end : k ≡ N = omega (arith, g.within) in
        record {
          rises = λ e j u. g.rises j (omega arith);
          low = λ e j u. g.low j (omega arith);
          shown = λ e. record { bits = λ i u. g.shown.bits i u ∙ ap (λ (n : ℕ). listed_in n list i) end };
          refused = λ e. absurd (true≢false e);
        }

    module _ (l : k < N) where
      pub reading_next : before < get_or list k 0 → get_or list k 0 ≤ N → N ≤ 8 * length map → {after : List ℕ}
          → after ≡ set_bit map (get_or list k 0 - 1) 1 → Reading N list (get_or list k 0) (k + 1) after
      unfolding bad_next
      reading_next up most long e =
          let v : ℕ = get_or list k 0 in
          let named : v ≢ 0 = λ z. omega arith in
          record {
            within = omega arith;
            first = λ z. absurd (omega arith);
            last = λ j q. let same : k ≡ j = omega arith in ap (λ (m : ℕ). get_or list m 0) same;
            some = λ j u. elim (ℕ_discrete j k) [
              | yes q ↦ λ z. named (ap (λ (m : ℕ). get_or list m 0) (sym q) ∙ z)
              | no n ↦ g.some j (omega arith)
            ];
            rises = λ j u. elim (ℕ_discrete (j + 1) k) [
              | yes q ↦
                  bad_rises (get_or list j 0) (get_or list (j + 1) 0) (g.some j (omega arith))
                  (omega (arith, g.last j q, ap (λ (m : ℕ). get_or list m 0) q))
              | no n ↦ g.rises j (omega arith)
            ];
            low = λ j u. elim (ℕ_discrete j k) [
              | yes q ↦ omega (arith, ap (λ (m : ℕ). get_or list m 0) q)
              | no n ↦ g.low j (omega arith)
            ];
            shown = shows_more k list g.shown (gains_one named most long e);
          }

      -- the two ways out for a number that may not stand there
      pub reading_falls : get_or list k 0 ≢ 0 → get_or list k 0 ≤ before → Read N list map false
      unfolding bad_next
      reading_falls n down =
          let place : k ≢ 0 = λ z. n (omega (arith, g.first z)) in
          let next : k - 1 + 1 ≡ k = elim (dec_lt 0 k) [ yes u ↦ omega arith | no u ↦ absurd (place (omega arith)) ] in
          let here : get_or list (k - 1 + 1) 0 ≡ get_or list k 0 = ap (λ (m : ℕ). get_or list m 0) next in
          record {
            rises = λ e. absurd (false≢true e);
            low = λ e. absurd (false≢true e);
            shown = λ e. absurd (false≢true e);
            refused = λ e. inl
                (true_some (bad_next_in list) (N - 1) (k - 1) (omega arith)
                (bad_falls (get_or list (k - 1) 0) (get_or list (k - 1 + 1) 0) (λ z. n (sym here ∙ z)) (omega (arith, here, g.last (k - 1) next))));
          }

      pub reading_past : N < get_or list k 0 → Read N list map false
      reading_past past = record {
        rises = λ e. absurd (false≢true e);
        low = λ e. absurd (false≢true e);
        shown = λ e. absurd (false≢true e);
        refused = λ e. inr (k, l, past);
      }

      -- at a 0: whether all numbers from there on are 0
      pub reading_ends : get_or list k 0 ≡ 0 → {t : Bool} → t ≡ some_below (λ j. not (eqb (get_or list (k + j) 0) 0)) (N - k)
          → Read N list map (not t)
      unfolding bad_next listed_in
      reading_ends z {t} e = record {
        rises = λ f j u. elim (dec_lt (j + 1) k) [
          | yes s ↦ g.rises j s
          | no s ↦ bad_none (get_or list j 0) (get_or list (j + 1) 0) (zeros f (j + 1) (omega arith) (omega arith))
        ];
        low = λ f j u. elim (dec_lt j k) [ yes s ↦ g.low j s | no s ↦ omega (arith, zeros f j (omega arith) u) ];
        shown = λ f. record { bits = λ i u. g.shown.bits i u ∙ further f i };
        refused = λ f.
            let found = some_true (λ j. not (eqb (get_or list (k + j) 0) 0)) (N - k) (sym e ∙ not-false t f) in
            inl
            (after_zero N list k found.0 z (eqb-false (get_or list (k + found.0) 0) 0 (not-true (eqb (get_or list (k + found.0) 0) 0) found.2))
            (omega (arith, found.1)));
      }
        where
          zeros : not t ≡ true → (j : ℕ) → k ≤ j → j < N → get_or list j 0 ≡ 0
          zeros f j u v =
              let at : k + (j - k) ≡ j = omega arith in
              let fails = some_false (λ i. not (eqb (get_or list (k + i) 0) 0)) (N - k) (sym e ∙ not-true t f) (j - k) (omega arith) in
              ap (λ (m : ℕ). get_or list m 0) (sym at) ∙ eqb-true (get_or list (k + (j - k)) 0) 0 (not-false (eqb (get_or list (k + (j - k)) 0) 0) fails)

          further : not t ≡ true → (i : ℕ) → listed_in k list i ≡ listed_in N list i
          further f i =
              let test : ℕ → Bool = λ m. eqb (get_or list m 0) (i + 1) in
              elim (test_cases_lem (some_below test k)) [
                | inl p ↦ p ∙ sym (some_further test k N g.within p)
                | inr p ↦
                    p ∙ sym
                    (none_further test k N p (λ m u v. ne_eqb (get_or list m 0) (i + 1) (λ q. omega (arith, zeros f m u v))))
              ]
