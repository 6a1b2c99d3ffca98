-- The map of listed blocks as it is brought up to new marks, bit by bit, and the second list after it.
use mathlib.Core.Path.{◌≡◌, refl, sym, ap, ap₂, ◌∙◌}
use mathlib.Core.Bool.{Bool, true, false, not, ◌&&◌, ◌||◌, false≢true}
use mathlib.Core.List.{List}
use Prim.Native.Nat.{ℕ, ◌+◌, ◌*◌, ◌/◌, ◌≤◌, ◌<◌}
use native.Mathlib.Decide.{ℕ_discrete, dec_lt}
use native.Mathlib.Omega.{arith}
use lib.ListN.{length, get_or}
use Rattle.bitmap.specs.Bit.{bit_at, set_bit}
use Rattle.rules_steps.specs.Steps.{list_of}
use Rattle.step_list.specs.Lists.{is_set, listed_in, relisted, Shows, Mixed, Listing}
use Rattle.step_list.proofs.Bits.{set_is, zero_is, byte_equal, made_set, made_clear, others_same}
use Rattle.step_list.proofs.Rising.{list_same}

-- ---- one bit

gained : (l : Bool) → (l || true) ≡ true
gained true = refl
gained false = refl

kept : (l : Bool) → l ≡ (true && (l || false))
kept true = refl
kept false = refl

module _ {N i : ℕ} {old marks map : List ℕ} where
  pub mixed_clear : bit_at marks i ≡ 0 → i < 8 * length map → {after : List ℕ} → after ≡ set_bit map i 0 → Mixed N i old marks map after
  mixed_clear e l {after} made = record {
    here =
        ap (λ (m : List ℕ). is_set m i) made ∙ made_clear map i l
        ∙ sym (ap (λ (t : Bool). t && (is_set map i || not (is_set old i))) (zero_is marks i e));
    others = λ j n. ap (λ (m : List ℕ). is_set m j) made ∙ others_same map i 0 j (omega arith) n;
  }

  pub mixed_new : bit_at marks i ≡ 1 → bit_at old i ≡ 0 → i < 8 * length map → {after : List ℕ} → after ≡ set_bit map i 1
      → Mixed N i old marks map after
  mixed_new e z l {after} made = record {
    here =
        ap (λ (m : List ℕ). is_set m i) made ∙ made_set map i l
        ∙ sym
        (ap₂ (λ (s t : Bool). s && (is_set map i || not t)) (set_is marks i e) (zero_is old i z)
        ∙ gained (is_set map i));
    others = λ j n. ap (λ (m : List ℕ). is_set m j) made ∙ others_same map i 1 j (omega arith) n;
  }

  pub mixed_kept : bit_at marks i ≡ 1 → bit_at old i ≡ 1 → Mixed N i old marks map map
  mixed_kept e z = record {
    here = kept (is_set map i) ∙ sym (ap₂ (λ (s t : Bool). s && (is_set map i || not t)) (set_is marks i e) (set_is old i z));
    others = λ j n. refl;
  }

-- ---- all bits

-- where what is listed is marked, and the mark did not change, the bit stays
stays : (l o m : Bool) → (l ≡ true → o ≡ true) → o ≡ m → l ≡ (m && (l || not o))
stays true true true h e = refl
stays true true false h e = e
stays true false m h e = absurd (false≢true (h refl))
stays false true true h e = refl
stays false true false h e = refl
stays false false true h e = e
stays false false false h e = refl

-- what is to be listed
abbrev pub mixing : (old marks map : List ℕ) → ℕ → Bool
mixing old marks map i = is_set marks i && (is_set map i || not (is_set old i))

-- the bits below i are brought up, those from i on are as they were
pub record Mixing (N : ℕ) (old marks start : List ℕ) (i : ℕ) (map : List ℕ) : Type 0 where
  pub within : i ≤ N
  pub done : (j : ℕ) → j < i → is_set map j ≡ mixing old marks start j
  pub rest : (j : ℕ) → i ≤ j → is_set map j ≡ is_set start j

module _ {N : ℕ} {old marks start : List ℕ} where
  pub mixing_start : Mixing N old marks start 0 start
  mixing_start = record { within = omega arith; done = λ j l. absurd (omega arith); rest = λ j l. refl }

  module _ {i : ℕ} {map : List ℕ} (m : Mixing N old marks start i map) (l : i < N) where
    pub mixing_bit : {after : List ℕ} → Mixed N i old marks map after → Mixing N old marks start (i + 1) after
    mixing_bit {after} x = record {
      within = omega arith;
      done = λ j u. elim (ℕ_discrete j i) [
        | yes q ↦
            ap (is_set after) q ∙ x.here ∙ ap (λ (t : Bool). is_set marks i && (t || not (is_set old i))) (m.rest i (omega arith))
            ∙ ap (mixing old marks start) (sym q)
        | no n ↦ x.others j n ∙ m.done j (omega arith)
      ];
      rest = λ j u. x.others j (λ q. omega arith) ∙ m.rest j (omega arith);
    }

    pub mixing_byte : N ≡ 8 * (N / 8) → ((j : ℕ) → j < N → is_set start j ≡ true → is_set old j ≡ true)
        → get_or old (i / 8) 0 ≡ get_or marks (i / 8) 0 → Mixing N old marks start ((i / 8 + 1) * 8) map
    mixing_byte whole marked e = record {
      within = omega arith;
      done = λ j u. elim (dec_lt j i) [
        | yes q ↦ m.done j q
        | no n ↦
            let same : j / 8 ≡ i / 8 = omega arith in
            let equal = byte_equal old marks j (ap (λ (k : ℕ). get_or old k 0) same ∙ e ∙ ap (λ (k : ℕ). get_or marks k 0) (sym same)) in
            m.rest j (omega arith) ∙ stays (is_set start j) (is_set old j) (is_set marks j) (marked j (omega arith)) equal
      ];
      rest = λ j u. m.rest j (omega arith);
    }

  pub mixing_all : {i : ℕ} {map : List ℕ} → Mixing N old marks start i map → N ≤ i → Shows N (mixing old marks start) map
  mixing_all m l = record { bits = λ j u. m.done j (omega arith) }

-- ---- the second list

module _ {N : ℕ} {old list : List ℕ} (good : Listing N old list) where
  -- where no byte changed, the list stays
  pub relist_same : (marks : List ℕ) → N ≡ 8 * (N / 8) → ((j : ℕ) → j < N / 8 → get_or old j 0 ≡ get_or marks j 0) → list ≡ list_of N (relisted N old marks list)
  unfolding relisted
  relist_same marks whole same =
      good.form
      ∙ list_same N (listed_in N list) (relisted N old marks list)
      (λ i l.
      stays (listed_in N list i) (is_set old i) (is_set marks i) (good.marked i l) (byte_equal old marks i (same (i / 8) (omega arith))))

  -- what stands on it, in a map, is marked
  pub listed_marked : {map : List ℕ} → Shows N (listed_in N list) map → (i : ℕ) → i < N → is_set map i ≡ true → is_set old i ≡ true
  listed_marked s i l e = good.marked i l (sym (s.bits i l) ∙ e)

pub relist_mixed : (N : ℕ) (old marks list : List ℕ) {map after : List ℕ} → Shows N (listed_in N list) map → Shows N (mixing old marks map) after
    → list_of N (is_set after) ≡ list_of N (relisted N old marks list)
unfolding relisted
relist_mixed N old marks list {map} {after} s t =
    list_same N (is_set after) (relisted N old marks list)
    (λ i l. t.bits i l ∙ ap (λ (x : Bool). is_set marks i && (x || not (is_set old i))) (s.bits i l))
