-- The second list as its loop writes it: 1 + each block whose bit is 1, rising, then 0s, then 1.
use mathlib.Core.Path.{◌≡◌, refl, sym, ap, subst, ◌∙◌}
use mathlib.Core.Logic.{◌≢◌}
use mathlib.Core.Bool.{Bool, true, false}
use mathlib.Core.List.{List, [], ◌∷◌, ◌++◌, append_assoc}
use Prim.Native.Nat.{ℕ, zero, suc, ◌+◌, ◌-◌, ◌*◌, ◌≤◌, ◌<◌}
use native.Mathlib.Numerals.{add-one}
use native.Mathlib.Decide.{ℕ_discrete, dec_lt}
use native.Mathlib.Omega.{arith}
use lib.Bits.{bit_and, and_le_l}
use lib.Count.{count_trailing_zeros}
use lib.ListN.{length, get_or, set, replicate, length-append, length-replicate, replicate-append-replicate}
use lib.Seq.{set_at}
use Rattle.bitmap.specs.Bit.{bit_of, bit_at, put_bit, count_below}
use Rattle.bitmap.proofs.Bits.{bit_zero, bit_put_same, bit_put_other}
use Rattle.bitmap.proofs.Digits.{trailing_lowest, clear_lowest}
use Rattle.bitmap.proofs.Maps.{bit_of_byte}
use Rattle.bitmap.proofs.Zeros.{count_same}
use Rattle.rules_steps.specs.Steps.{rising, list_of}
use Rattle.rules_steps.proofs.Progress.{length_rising}
use Rattle.step_list.specs.Lists.{is_set, Written}
use Rattle.step_list.proofs.Bits.{set_is, zero_is}

rising_append : (test : ℕ → Bool) (n : ℕ) (rest : List ℕ) → rising test n rest ≡ rising test n [] ++ rest
unfolding rising
rising_append test zero rest = refl
rising_append test (suc n) rest = go (rising_append test n) (test n)
  where
    go : ((l : List ℕ) → rising test n l ≡ rising test n [] ++ l) → (t : Bool)
        → rising test n (elim t [ true ↦ (n + 1) ∷ rest | false ↦ rest ]) ≡ rising test n (elim t [ true ↦ (n + 1) ∷ [] | false ↦ [] ]) ++ rest
    go more true =
        more ((n + 1) ∷ rest) ∙ sym (append_assoc (rising test n []) ((n + 1) ∷ []) rest)
        ∙ ap (λ (l : List ℕ). l ++ rest) (sym (more ((n + 1) ∷ [])))
    go more false = more rest

-- a block that passes, and blocks that don't
pub rising_hit : (test : ℕ → Bool) (n : ℕ) → test n ≡ true → rising test (n + 1) [] ≡ rising test n [] ++ ((n + 1) ∷ [])
unfolding rising
rising_hit test n e = ap (λ (m : ℕ). rising test m []) (add-one n) ∙ rw (e, rising) (rising_append test n ((n + 1) ∷ []))

pub rising_miss : (test : ℕ → Bool) (n : ℕ) → test n ≡ false → rising test (suc n) [] ≡ rising test n []
unfolding rising
rising_miss test n e = rw (e, rising)

rising_past : (test : ℕ → Bool) (i d : ℕ) → ((j : ℕ) → i ≤ j → j < i + d → test j ≡ false) → rising test (i + d) [] ≡ rising test i []
rising_past test i zero h = ap (λ (m : ℕ). rising test m []) (omega arith)
rising_past test i (suc d) h =
    ap (λ (m : ℕ). rising test m []) (omega arith) ∙ rising_miss test (i + d) (h (i + d) (omega arith) (omega arith)) ∙ rising_past test i d (λ j l u. h j l (omega arith))

rising_between : (test : ℕ → Bool) (i r : ℕ) → i ≤ r → ((j : ℕ) → i ≤ j → j < r → test j ≡ false) → rising test r [] ≡ rising test i []
rising_between test i r l h =
    ap (λ (m : ℕ). rising test m []) (omega arith) ∙ rising_past test i (r - i) (λ j u v. h j u (omega arith))

-- tests that agree make one list
pub rising_same : (test other : ℕ → Bool) (n : ℕ) (rest : List ℕ) → ((i : ℕ) → i < n → test i ≡ other i)
    → rising test n rest ≡ rising other n rest
unfolding rising
rising_same test other zero rest h = refl
rising_same test other (suc n) rest h =
    ap (λ (t : Bool). rising test n (elim t as (λ _. List ℕ) [ true ↦ (n + 1) ∷ rest | false ↦ rest ])) (h n (omega arith))
    ∙ rising_same test other n _ (λ i l. h i (omega arith))

pub list_same : (N : ℕ) (test other : ℕ → Bool) → ((i : ℕ) → i < N → test i ≡ other i) → list_of N test ≡ list_of N other
unfolding list_of
list_same N test other h =
    ap (λ (n : ℕ). rising test N (replicate (N - n) 0) ++ (1 ∷ [])) (count_same test other N h)
    ∙ ap (λ (l : List ℕ). l ++ (1 ∷ [])) (rising_same test other N (replicate (N - count_below other N) 0) h)

-- ---- the loops

module _ {N : ℕ} {map : List ℕ} where
  pub written_start : {cleared : List ℕ} → cleared ≡ replicate (N + 1) 0 → Written N map 0 0 (set cleared N 1)
  unfolding rising
  written_start {cleared} e =
      let same : N ≡ N - 0 = omega arith in
      let wide : cleared ≡ replicate N 0 ++ 0 ∷ [] = e ∙ sym (replicate-append-replicate N 1 0) in
      record {
        within = omega arith;
        few = omega arith;
        count = refl;
        list_is =
            ap (λ (l : List ℕ). set l N 1) wide ∙ set_at (replicate N 0) 0 [] 1 N (length-replicate N 0)
            ∙ ap (λ (m : ℕ). replicate m 0 ++ 1 ∷ []) same;
      }

  module _ {i k : ℕ} {list : List ℕ} (w : Written N map i k list) where
    -- none up to r
    pub written_past : (r : ℕ) → i ≤ r → r ≤ N → ((j : ℕ) → i ≤ j → j < r → is_set map j ≡ false) → Written N map r k list
    written_past r l u none =
        let same : rising (is_set map) r [] ≡ rising (is_set map) i [] = rising_between (is_set map) i r l none in
        record {
          within = u;
          few = omega (arith, w.few);
          count = ap length same ∙ w.count;
          list_is = w.list_is ∙ ap (λ (x : List ℕ). x ++ replicate (N - k) 0 ++ 1 ∷ []) (sym same);
        }

    -- the next one is t
    pub written_hit : (t : ℕ) → i ≤ t → t < N → ((j : ℕ) → i ≤ j → j < t → is_set map j ≡ false) → is_set map t ≡ true
        → Written N map (t + 1) (k + 1) (set list k (t + 1))
    written_hit t l u none hit =
        let few = w.few in
        let before : List ℕ = rising (is_set map) i [] in
        let m : ℕ = N - (k + 1) in
        let room : N - k ≡ suc m = omega arith in
        let longer : rising (is_set map) (t + 1) [] ≡ before ++ ((t + 1) ∷ []) =
        rising_hit (is_set map) t hit ∙ ap (λ (x : List ℕ). x ++ ((t + 1) ∷ [])) (rising_between (is_set map) i t l none) in
        let there : list ≡ before ++ 0 ∷ (replicate m 0 ++ 1 ∷ []) =
        w.list_is ∙ ap (λ (x : ℕ). before ++ replicate x 0 ++ 1 ∷ []) room ∙ append_assoc before (0 ∷ replicate m 0) (1 ∷ []) in
        record {
          within = omega arith;
          few = omega arith;
          count = ap length longer ∙ length-append before ((t + 1) ∷ []) ∙ omega (arith, w.count);
          list_is =
              ap (λ (x : List ℕ). set x k (t + 1)) there ∙ set_at before 0 (replicate m 0 ++ 1 ∷ []) (t + 1) k w.count
              ∙ sym (append_assoc before ((t + 1) ∷ []) (replicate m 0 ++ 1 ∷ []))
              ∙ sym (append_assoc (before ++ (t + 1) ∷ []) (replicate m 0) (1 ∷ []))
              ∙ ap (λ (x : List ℕ). x ++ replicate m 0 ++ 1 ∷ []) (sym longer);
        }

    pub written_length : length list ≡ N + 1
    written_length =
        let few = w.few in
        let within = w.within in
        ap length w.list_is ∙ length-append (rising (is_set map) i [] ++ replicate (N - k) 0) (1 ∷ [])
        ∙ omega (arith, length-append (rising (is_set map) i []) (replicate (N - k) 0), length-replicate {A = ℕ} (N - k) 0, w.count)

    pub written_all : N ≤ i → list ≡ list_of N (is_set map)
    unfolding list_of
    written_all l =
        let end : i ≡ N = omega (arith, w.within) in
        let counted : k ≡ count_below (is_set map) N =
        sym w.count ∙ ap (λ (x : ℕ). length (rising (is_set map) x [])) end ∙ omega (arith, length_rising (is_set map) N []) in
        w.list_is
        ∙ ap (λ (x : ℕ). rising (is_set map) x [] ++ replicate (N - k) 0 ++ 1 ∷ []) end
        ∙ ap (λ (x : ℕ). rising (is_set map) N [] ++ replicate (N - x) 0 ++ 1 ∷ []) counted
        ∙ ap (λ (l : List ℕ). l ++ (1 ∷ [])) (sym (rising_append (is_set map) N (replicate (N - count_below (is_set map) N) 0)))

-- the bits of byte j from bit `at` on are left, and the blocks before them are written
pub record Writing (N : ℕ) (map : List ℕ) (j place left : ℕ) (list : List ℕ) : Type 0 where
  pub at : ℕ
  pub inside : at ≤ 8
  pub small : left < 256
  pub below : (t : ℕ) → t < at → bit_of left t ≡ 0
  pub rest : (t : ℕ) → at ≤ t → t < 8 → bit_of left t ≡ bit_at map (8 * j + t)
  pub written : Written N map (8 * j + at) place list

module _ {N : ℕ} {map : List ℕ} {j place : ℕ} {list : List ℕ} where
  pub writing_start : Written N map (8 * j) place list → get_or map j 0 < 256 → Writing N map j place (get_or map j 0) list
  writing_start w small =
      let first : 8 * j ≡ 8 * j + 0 = omega arith in
      record {
        at = 0;
        inside = omega arith;
        small = small;
        below = λ t l. absurd (omega arith);
        rest = λ t l u. sym (bit_of_byte map j t u);
        written = subst (λ (i : ℕ). Written N map i place list) first w;
      }

  module _ {left : ℕ} (g : Writing N map j place left list) (inside : 8 * (j + 1) ≤ N) where
    -- what is left of the byte, at a block
    here : (i t : ℕ) → i ≡ 8 * j + t → g.at ≤ t → t < 8 → bit_at map i ≡ bit_of left t
    here i t e l u = ap (bit_at map) e ∙ sym (g.rest t l u)

    pub writing_next : (some : left ≢ 0)
        → Writing N map j (place + 1) (bit_and left (left - 1)) (set list place (8 * j + count_trailing_zeros 8 left + 1))
    writing_next some =
        let low = trailing_lowest 8 left g.small some in
        let t : ℕ = count_trailing_zeros 8 left in
        let within = low.inside in
        let from : g.at ≤ t = elim (dec_lt t g.at) [ yes l ↦ absurd (omega (arith, g.below t l, low.here)) | no l ↦ omega arith ] in
        let cleared = clear_lowest 8 left g.small some in
        let other : (s : ℕ) → s ≢ t → bit_of (bit_and left (left - 1)) s ≡ bit_of left s =
        λ s n. ap (λ (x : ℕ). bit_of x s) cleared ∙ bit_put_other left t 0 s n (omega arith) in
        let next : 8 * j + t + 1 ≡ 8 * j + (t + 1) = omega arith in
        record {
          at = t + 1;
          inside = omega arith;
          small = omega (arith, and_le_l left (left - 1), g.small);
          below = λ s l. elim (ℕ_discrete s t) [
            | yes e ↦ ap (λ (x : ℕ). bit_of x s) cleared ∙ ap (bit_of (put_bit left t 0)) e ∙ bit_put_same left t 0 (omega arith)
            | no n ↦ other s n ∙ low.below s (omega arith)
          ];
          rest = λ s l u. other s (λ e. omega arith) ∙ g.rest s (omega arith) u;
          written =
              subst (λ (i : ℕ). Written N map i (place + 1) (set list place (8 * j + t + 1))) next
              (written_hit g.written (8 * j + t) (omega arith) (omega arith)
              (λ i l u. zero_is map i (here i (i - 8 * j) (omega arith) (omega arith) (omega arith) ∙ low.below (i - 8 * j) (omega arith)))
              (set_is map (8 * j + t) (here (8 * j + t) t refl from within ∙ low.here)));
        }

    pub writing_end : left ≡ 0 → Written N map (8 * (j + 1)) place list
    writing_end none =
        let at_most = g.inside in
        written_past g.written (8 * (j + 1)) (omega arith) inside
        (λ i l u.
        zero_is map i
        (here i (i - 8 * j) (omega arith) (omega arith) (omega arith) ∙ ap (λ (x : ℕ). bit_of x (i - 8 * j)) none ∙ bit_zero (i - 8 * j)))
