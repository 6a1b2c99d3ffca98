-- Request U8, the mark map and the second list over plain lists: a set of blocks as a map's bits, and as the
-- list's numbers.
use Rattle.std.specs.Prelude.{ℕ, ◌+◌, ◌-◌, ◌≤◌, ◌<◌, ◌≡◌, Bool, true, false, not, ◌&&◌, ◌||◌, List, [], ◌∷◌, ◌++◌, length, get_or, replicate, eqb, Option, MatchOption}
use Rattle.bitmap.specs.Bit.{bit_at}
use Rattle.rules.specs.Tools.{some_below}
use Rattle.rules_steps.specs.Steps.{rising, list_of}

-- bit i of a map is 1
abbrev pub is_set : List ℕ → ℕ → Bool
is_set map i = eqb (bit_at map i) 1

-- one of the first n numbers of a list is 1 + block i: with n = N, the object at block i stands on the second
-- list
unfoldable pub listed_in : (n : ℕ) → List ℕ → ℕ → Bool
listed_in n list i = some_below (λ k. eqb (get_or list k 0) (i + 1)) n

-- what is listed after a call that left these marks: "marks and lists what is unmarked", and "a freed object
-- leaves map and list"
unfoldable pub relisted : ℕ → (old marks list : List ℕ) → ℕ → Bool
relisted N old marks list i = is_set marks i && (listed_in N list i || not (is_set old i))

-- ---- for contracts

-- the map's bits below N are those of the set
pub record Shows (N : ℕ) (test : ℕ → Bool) (map : List ℕ) : Type 0 where
  pub bits : (i : ℕ) → i < N → is_set map i ≡ test i

-- the map has the bits that it had, and that of the block that v names, if any
pub record Gains (N v : ℕ) (map after : List ℕ) : Type 0 where
  pub bits : (i : ℕ) → i < N → is_set after i ≡ (is_set map i || eqb v (i + 1))

-- a search that has come to i: none from `from` on
pub record Passed (map : List ℕ) (from end i : ℕ) : Type 0 where
  pub from_le : from ≤ i
  pub end_le : i ≤ end
  pub clear : (j : ℕ) → from ≤ j → j < i → is_set map j ≡ false

-- no bit from `from` on and below `end` is 1
pub record NoBit (map : List ℕ) (from end : ℕ) : Type 0 where
  pub clear : (i : ℕ) → from ≤ i → i < end → is_set map i ≡ false

-- r is the lowest 1 bit from `from` on and below `end`
pub record LowestBit (map : List ℕ) (from end r : ℕ) : Type 0 where
  pub from_le : from ≤ r
  pub below : r < end
  pub clear : (i : ℕ) → from ≤ i → i < r → is_set map i ≡ false
  pub found : is_set map r ≡ true

-- r is this bit, if there is one
abbrev pub NextBit : List ℕ → (from end : ℕ) → Option ℕ → Type 0
NextBit map from end r = MatchOption r (NoBit map from end) (LowestBit map from end)

-- the blocks below i whose bits are 1 are written, at the first k places; behind them 0s, and the last place
pub record Written (N : ℕ) (map : List ℕ) (i k : ℕ) (list : List ℕ) : Type 0 where
  pub within : i ≤ N
  pub few : k ≤ i
  pub count : length (rising (is_set map) i []) ≡ k
  pub list_is : list ≡ rising (is_set map) i [] ++ replicate (N - k) 0 ++ 1 ∷ []

-- bit i of the map has become what it is to be, and no other has changed
pub record Mixed (N i : ℕ) (old marks map after : List ℕ) : Type 0 where
  pub here : is_set after i ≡ (is_set marks i && (is_set map i || not (is_set old i)))
  pub others : (j : ℕ) → (j ≡ i → ⊥) → is_set after j ≡ is_set map j

-- the second list is one, and what stands on it is marked
pub record Listing (N : ℕ) (old list : List ℕ) : Type 0 where
  pub form : list ≡ list_of N (listed_in N list)
  pub marked : (i : ℕ) → i < N → listed_in N list i ≡ true → is_set old i ≡ true
