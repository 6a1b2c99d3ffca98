-- A map that shows a set is `map_of` of that set, whatever map of its length the bits are written into.
use mathlib.Core.Path.{◌≡◌, sym, ◌∙◌}
use mathlib.Core.Bool.{Bool, true, false}
use mathlib.Core.List.{List}
use Prim.Native.Nat.{ℕ, zero, suc, ◌*◌, ◌/◌, ◌<◌}
use native.Mathlib.Decide.{ℕ_discrete}
use native.Mathlib.Omega.{arith}
use lib.ListN.{length}
use borrow.Author.Tests.{eqb-true, eqb-false}
use Rattle.bitmap.specs.Bit.{bit_at, one, Bytes}
use Rattle.bitmap.proofs.Maps.{bit_at_lt, bytes_set_bit, map_ext}
use Rattle.rules_steps.specs.Steps.{map_of}
use Rattle.rules_steps.proofs.Progress.{length_map_of, bit_map_of}
use Rattle.step_list.specs.Lists.{is_set, Shows}

one_lt : (t : Bool) → one t < 2
one_lt true = omega arith
one_lt false = omega arith

bit_is : (map : List ℕ) (i : ℕ) (t : Bool) → is_set map i ≡ t → bit_at map i ≡ one t
bit_is map i true e = eqb-true (bit_at map i) 1 e
bit_is map i false e =
    let below = bit_at_lt map i in
    elim (ℕ_discrete (bit_at map i) 0) [
      | yes z ↦ z
      | no n ↦ absurd (eqb-false (bit_at map i) 1 e (omega arith))
    ]

module _ (old : List ℕ) (test : ℕ → Bool) where
  bytes_map_of : (n : ℕ) → Bytes old → Bytes (map_of old test n)
  unfolding map_of
  bytes_map_of zero bytes = bytes
  bytes_map_of (suc n) bytes = bytes_set_bit (map_of old test n) n (one (test n)) (one_lt (test n)) (bytes_map_of n bytes)

  pub map_of_lem : (N : ℕ) → N ≡ 8 * (N / 8) → {map : List ℕ} → Bytes old → length old ≡ N / 8 → Bytes map → length map ≡ N / 8 → Shows N test map
      → map ≡ map_of old test N
  map_of_lem N whole {map} was had bytes long s =
      map_ext map (map_of old test N) bytes (bytes_map_of N was) (long ∙ sym had ∙ sym (length_map_of old test N))
      (λ i l. bit_is map i (test i) (s.bits i (omega arith)) ∙ sym (bit_map_of old test N i (omega arith) (omega arith)))
