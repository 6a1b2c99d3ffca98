-- For the bridge: a count that is made 0 at an unmarked block goes past the count-downs of survivors.
use mathlib.Core.Path.{◌≡◌, refl, sym, ap, ap₂, ◌∙◌}
use mathlib.Core.Logic.{◌≢◌, ◌⊎◌, inl, inr}
use mathlib.Core.Bool.{Bool, true, false, ◌||◌, true≢false, false≢true}
use mathlib.Core.List.{List, ◌∷◌}
use Prim.Native.Nat.{ℕ, zero, suc, ◌+◌, ◌-◌, ◌*◌, ◌/◌, ◌^◌, ◌<◌}
use native.Mathlib.Decide.{ℕ_discrete, dec_lt}
use native.Mathlib.Omega.{arith}
use lib.Dec.{eqb, ltb}
use lib.ListN.{length, get_or}
use lib.Pow.{pow_pos}
use borrow.Author.Tests.{eqb-false, ltb-false}
use Rattle.bitmap.proofs.Rewrites.{rewritten_trans, rewritten_ext}
use Rattle.planes.specs.Plane.{count_at, set_count}
use Rattle.planes.proofs.Counts.{count_lt, count_set_same, count_set_other, length_set_count, rewritten_set_count, counts_bits}
use Rattle.rules.specs.Heap.{capacity}
use Rattle.rules_stores.specs.Store.{Work, work, count_down}
use Rattle.rules.proofs.Tests.{test_cases_lem, or_false}
use Rattle.count_up.specs.Ready.{Planes}
use Rattle.count_up.proofs.Shapes.{planes_same}
use Rattle.step_list.specs.Lists.{is_set}
use Rattle.step_close.specs.Close.{to_survivor, count_down_survivors}

-- ---- two counts written

module _ {N w : ℕ} {counts : List ℕ} (p : Planes N w counts) (a b x y : ℕ) (la : a < N) (lb : b < N) (ne : a ≢ b) (hx : x < 2 ^ w) (hy : y < 2 ^ w) where
  abbrev one_way : List ℕ
  one_way = set_count (N / 8) w (set_count (N / 8) w counts a x) b y

  abbrev other_way : List ℕ
  other_way = set_count (N / 8) w (set_count (N / 8) w counts b y) a x

  eighths : N ≡ 8 * (N / 8)
  eighths = p.eighths

  at : (c : ℕ) → c < 8 * (N / 8) → count_at (N / 8) w one_way c ≡ count_at (N / 8) w other_way c
  at c l =
      let long = p.length_is in
      let long_a = length_set_count (N / 8) w counts a x in
      let long_b = length_set_count (N / 8) w counts b y in
      elim (ℕ_discrete c a) [
        | yes q ↦
            count_set_other (N / 8) w (set_count (N / 8) w counts a x) b y c l (omega (arith, eighths)) (λ e. ne (sym q ∙ e))
            ∙ ap (count_at (N / 8) w (set_count (N / 8) w counts a x)) q
            ∙ count_set_same (N / 8) w counts a x (omega (arith, eighths)) (omega arith) hx
            ∙ sym (count_set_same (N / 8) w (set_count (N / 8) w counts b y) a x (omega (arith, eighths)) (omega arith) hx)
            ∙ ap (count_at (N / 8) w other_way) (sym q)
        | no d ↦
            elim (ℕ_discrete c b) [
              | yes q ↦
                  ap (count_at (N / 8) w one_way) q
                  ∙ count_set_same (N / 8) w (set_count (N / 8) w counts a x) b y (omega (arith, eighths)) (omega arith) hy
                  ∙ sym (count_set_same (N / 8) w counts b y (omega (arith, eighths)) (omega arith) hy)
                  ∙ ap (count_at (N / 8) w (set_count (N / 8) w counts b y)) (sym q)
                  ∙ sym (count_set_other (N / 8) w (set_count (N / 8) w counts b y) a x c l (omega (arith, eighths)) d)
              | no f ↦
                  count_set_other (N / 8) w (set_count (N / 8) w counts a x) b y c l (omega (arith, eighths)) f
                  ∙ count_set_other (N / 8) w counts a x c l (omega (arith, eighths)) d
                  ∙ sym (count_set_other (N / 8) w counts b y c l (omega (arith, eighths)) f)
                  ∙ sym (count_set_other (N / 8) w (set_count (N / 8) w counts b y) a x c l (omega (arith, eighths)) d)
            ]
      ]

  pub set_count_comm : one_way ≡ other_way
  set_count_comm =
      let long = length_set_count (N / 8) w (set_count (N / 8) w counts a x) b y ∙ length_set_count (N / 8) w counts a x in
      rewritten_ext {map = counts}
      (rewritten_trans (rewritten_set_count (N / 8) w counts a x) (rewritten_set_count (N / 8) w (set_count (N / 8) w counts a x) b y))
      (rewritten_trans (rewritten_set_count (N / 8) w counts b y) (rewritten_set_count (N / 8) w (set_count (N / 8) w counts b y) a x))
      (λ i l. counts_bits (N / 8) w one_way other_way (long ∙ p.length_is) at i (omega arith))

-- ---- a count-down

-- a count made 0 afterwards
abbrev pub zeroed : ℕ → ℕ → ℕ → Work → Work
zeroed N w i s = work (set_count (N / 8) w s.counts i 0) s.stack

length_down : (N w : ℕ) (s : Work) (v : ℕ) → length (count_down N w s v).counts ≡ length s.counts
unfolding count_down
length_down N w s v = go (eqb v 0 || ltb N v || eqb (count_at (N / 8) w s.counts (v - 1)) (capacity w))
  where
    go : (t : Bool) → length (elim t as (λ _. Work) [
      | true ↦ s
      | false ↦
          work (set_count (N / 8) w s.counts (v - 1) (count_at (N / 8) w s.counts (v - 1) - 1))
          (elim (eqb (count_at (N / 8) w s.counts (v - 1)) 1) [ true ↦ (v - 1) ∷ s.stack | false ↦ s.stack ])
    ]).counts ≡ length s.counts
    go true = refl
    go false = length_set_count (N / 8) w s.counts (v - 1) _

pub down_planes : {N w : ℕ} (s : Work) (v : ℕ) → Planes N w s.counts → Planes N w (count_down N w s v).counts
down_planes {N} {w} s v p = planes_same p (length_down N w s v)

-- v names no block, or another one than i
pub down_comm : {N w : ℕ} (s : Work) (i v : ℕ) → Planes N w s.counts → i < N → (v ≢ 0 → v - 1 ≢ i)
    → count_down N w (zeroed N w i s) v ≡ zeroed N w i (count_down N w s v)
unfolding count_down
down_comm {N} {w} s i v p inside apart = named (test_cases_lem (eqb v 0 || ltb N v))
  where
    c : ℕ
    c = count_at (N / 8) w s.counts (v - 1)

    stack : ℕ → List ℕ
    stack k = elim (eqb k 1) [ true ↦ (v - 1) ∷ s.stack | false ↦ s.stack ]

    stays : (o t : Bool) (k : ℕ) → o ≡ true
        → elim (o || t) as (λ _. Work) [
          | true ↦ zeroed N w i s
          | false ↦ work (set_count (N / 8) w (set_count (N / 8) w s.counts i 0) (v - 1) (k - 1)) (stack k)
        ]
        ≡ zeroed N w i (elim (o || eqb c (capacity w)) [ true ↦ s | false ↦ work (set_count (N / 8) w s.counts (v - 1) (c - 1)) (stack c) ])
    stays true t k e = refl
    stays false t k e = absurd (false≢true e)

    moves : (o : Bool) (t : Bool) (k : ℕ) → o ≡ false → t ≡ eqb c (capacity w) → k ≡ c → v - 1 < N → v - 1 ≢ i
        → elim (o || t) as (λ _. Work) [
          | true ↦ zeroed N w i s
          | false ↦ work (set_count (N / 8) w (set_count (N / 8) w s.counts i 0) (v - 1) (k - 1)) (stack k)
        ]
        ≡ zeroed N w i (elim (o || eqb c (capacity w)) [ true ↦ s | false ↦ work (set_count (N / 8) w s.counts (v - 1) (c - 1)) (stack c) ])
    moves true t k e et ek l d = absurd (true≢false e)
    moves false t k e et ek l d =
        ap₂ (λ (u : Bool) (m : ℕ). elim u as (λ _. Work) [
          | true ↦ zeroed N w i s
          | false ↦ work (set_count (N / 8) w (set_count (N / 8) w s.counts i 0) (v - 1) (m - 1)) (stack m)
        ]) et ek
        ∙ last (eqb c (capacity w))
      where
        fits : c - 1 < 2 ^ w
        fits = omega (arith, count_lt (N / 8) w s.counts (v - 1))

        last : (u : Bool)
            → elim u as (λ _. Work) [
              | true ↦ zeroed N w i s
              | false ↦ work (set_count (N / 8) w (set_count (N / 8) w s.counts i 0) (v - 1) (c - 1)) (stack c)
            ]
            ≡ zeroed N w i (elim u [ true ↦ s | false ↦ work (set_count (N / 8) w s.counts (v - 1) (c - 1)) (stack c) ])
        last true = refl
        last false = ap (λ (l : List ℕ). work l (stack c)) (set_count_comm p i (v - 1) 0 (c - 1) inside l (λ e. d (sym e)) (pow_pos w) fits)

    named : (eqb v 0 || ltb N v ≡ true) ⊎ (eqb v 0 || ltb N v ≡ false) → count_down N w (zeroed N w i s) v ≡ zeroed N w i (count_down N w s v)
    named (inl e) = stays (eqb v 0 || ltb N v) _ _ e
    named (inr e) =
        let parts = or_false (eqb v 0) (ltb N v) e in
        let some = eqb-false v 0 parts.0 in
        let within = ltb-false N v parts.1 in
        let below : v - 1 < N = elim (dec_lt (v - 1) N) [ yes l ↦ l | no l ↦ absurd (some (omega arith)) ] in
        let kept = count_set_other (N / 8) w s.counts i 0 (v - 1) (omega (arith, p.eighths)) (omega (arith, p.eighths)) (apart some) in
        moves (eqb v 0 || ltb N v) _ _ e (ap (λ (k : ℕ). eqb k (capacity w)) kept) kept below (apart some)

-- ---- survivors

survivor_apart : (marks : List ℕ) (i v : ℕ) → is_set marks i ≡ false → to_survivor marks v ≢ 0 → to_survivor marks v - 1 ≢ i
unfolding to_survivor
survivor_apart marks i v dead = go (test_cases_lem (is_set marks (v - 1)))
  where
    go : (is_set marks (v - 1) ≡ true) ⊎ (is_set marks (v - 1) ≡ false) → to_survivor marks v ≢ 0 → to_survivor marks v - 1 ≢ i
    go (inl e) n = rw (e, to_survivor) (λ q. true≢false (sym e ∙ ap (is_set marks) q ∙ dead))
    go (inr e) n = absurd (n (rw (e, to_survivor)))

pub survivors_planes : {N w : ℕ} (marks : List ℕ) (s : Work) (cells : List ℕ) (j n : ℕ) → Planes N w s.counts
    → Planes N w (count_down_survivors N w marks s cells j n).counts
unfolding count_down_survivors
survivors_planes marks s cells j zero p = p
survivors_planes {N} {w} marks s cells j (suc n) p =
    down_planes (count_down_survivors N w marks s cells j n) (to_survivor marks (get_or cells (j + n) 0)) (survivors_planes marks s cells j n p)

pub survivors_comm : {N w : ℕ} (marks : List ℕ) (s : Work) (cells : List ℕ) (j n i : ℕ) → Planes N w s.counts → i < N → is_set marks i ≡ false
    → count_down_survivors N w marks (zeroed N w i s) cells j n ≡ zeroed N w i (count_down_survivors N w marks s cells j n)
unfolding count_down_survivors
survivors_comm marks s cells j zero i p inside dead = refl
survivors_comm {N} {w} marks s cells j (suc n) i p inside dead =
    ap (λ (t : Work). count_down N w t (to_survivor marks (get_or cells (j + n) 0))) (survivors_comm marks s cells j n i p inside dead)
    ∙ down_comm (count_down_survivors N w marks s cells j n) i (to_survivor marks (get_or cells (j + n) 0)) (survivors_planes marks s cells j n p) inside
    (survivor_apart marks i (get_or cells (j + n) 0) dead)
