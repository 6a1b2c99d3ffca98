-- Request U11, "The reason an object is kept": what is proved of the chain and of the sentence.
use Rattle.std.specs.Prelude.{ℕ, suc, ◌+◌, ◌*◌, ◌≤◌, ◌<◌, ◌≡◌, ◌⊎◌, ◌↔◌, List, [], ◌∷◌, reverse, length, get_or}
use Rattle.std.proofs.Math.Option.{none, some}
use Rattle.rules.specs.Heap.{Memory, reference}
use Rattle.rules_output.specs.Walk.{number_in, followed, numbered}
use Rattle.rules_output.specs.Reason.{Reason, kept_by, no_chain, chain_to}
use Rattle.rules_output.specs.Sentence.{sentence, sentence_for, read_back}
use Rattle.theory_memories.specs.Words.{Object, Leads}
use Rattle.theory_memories.specs.Heaps.{Intact}
use Rattle.theory_walks.specs.Trail.{trail, links_to}

-- ---- the chain

-- from the object at block b the cells, each of the object that the one before it names, lead to that at
-- block `at`
pub data Along (N : ℕ) (h : Memory) (at : ℕ) : ℕ → List ℕ → Type 0 where
  here : Along N h at at []
  link :
      (b n j c : ℕ) {js : List ℕ} → Object N h b n → j < 4 * n → reference N h (4 * b + j) ≡ 1 + c → Along N h at c js
      → Along N h at b (j ∷ js)

-- a chain to the object at block `at`: a root, and cells from the object that it names
pub data IsChain (N : ℕ) (h : Memory) (at : ℕ) : List ℕ → Type 0 where
  chain : (r b : ℕ) {js : List ℕ} → r < length h.roots → get_or h.roots r 0 ≡ 1 + b → Along N h at b js → IsChain N h at (r ∷ js)

-- of two chains of one length, the first has the lower number at the first difference
pub data Lower : List ℕ → List ℕ → Type 0 where
  differ : {i j : ℕ} {c d : List ℕ} → i < j → length c ≡ length d → Lower (i ∷ c) (j ∷ d)
  agree : {i : ℕ} {c d : List ℕ} → Lower c d → Lower (i ∷ c) (i ∷ d)

-- "The chain has the fewest links; among those the lowest root, then the lowest cell at the first difference."
pub record Best (N : ℕ) (h : Memory) (at : ℕ) (c : List ℕ) : Type 0 where
  pub is : IsChain N h at c
  pub fewest : (other : List ℕ) → IsChain N h at other → length c ≤ length other
  pub lowest : (other : List ℕ) → IsChain N h at other → length c ≡ length other → (c ≡ other) ⊎ Lower c other

abbrev pub ChainIsBest : Type 0
ChainIsBest = (N w : ℕ) (h : Memory) → Intact N w h → (at : ℕ) (c : List ℕ) → (chain_to N h at ≡ some c) ↔ Best N h at c

-- "Where there is no chain .., and this only then": where no root leads to the object
abbrev pub NoneExactly : Type 0
NoneExactly = (N w : ℕ) (h : Memory) → Intact N w h → (at : ℕ) → (chain_to N h at ≡ none) ↔ (Leads N h at → ⊥)

-- the links by which the walk first met the object of that number, turned round, are the chain: one pass over
-- the heap is enough
abbrev pub WalkFindsChain : Type 0
WalkFindsChain =
    (N w : ℕ) (h : Memory) → Intact N w h → (at n : ℕ) → number_in (numbered N h) (suc at) ≡ suc n
    → chain_to N h at ≡ some (reverse (links_to (trail h.roots (followed N h) N) (suc n)))

-- request U13, "numbered from 1 as first met, breadth first, from root 0 upwards and cell 0 upwards", without
-- the walk: an object has a lower number than another exactly where its chain has fewer links, or as many and
-- the lower number at the first difference
abbrev pub NumberedByChains : Type 0
NumberedByChains =
    (N w : ℕ) (h : Memory) → Intact N w h → (b c : ℕ) (x y : List ℕ) → Best N h b x → Best N h c y
    → (number_in (numbered N h) (suc b) < number_in (numbered N h) (suc c)) ↔ ((length x < length y) ⊎ Lower x y)

-- ---- the sentence

-- "Each sentence can be read back in only one way": as the reason and the block that it was written for; and
-- what is read back is a sentence
pub record ReadInOneWay : Type 0 where
  pub reads_itself_back : (x : Reason) (at : ℕ) → read_back (sentence x at) ≡ some (x, at)
  pub only_sentences : (l : List ℕ) (x : Reason) (at : ℕ) → read_back l ≡ some (x, at) → l ≡ sentence x at
  pub one_way : (x y : Reason) (at b : ℕ) → sentence x at ≡ sentence y b → (x ≡ y) × (at ≡ b)

-- ---- both

-- the sentence for the object at block `at` names the best chain; where no root leads there, and only there,
-- it says so
pub record SaysWhy (N : ℕ) (h : Memory) (at : ℕ) : Type 0 where
  pub kept : (r : ℕ) (cells : List ℕ) → (sentence_for N h at ≡ sentence (kept_by r cells) at) ↔ Best N h at (r ∷ cells)
  pub unreached : (sentence_for N h at ≡ sentence no_chain at) ↔ (Leads N h at → ⊥)

abbrev pub SentenceSays : Type 0
SentenceSays = (N w : ℕ) (h : Memory) → Intact N w h → (at : ℕ) → SaysWhy N h at

-- how long it is at most: a root has 2 digits, a block 5 and a cell 6 at most, with 65,536 blocks too, and
-- there are fewer than N cells. So much room is always enough.
abbrev pub SentenceBounded : Type 0
SentenceBounded = (N w : ℕ) (h : Memory) → Intact N w h → (at : ℕ) → at < N → length (sentence_for N h at) ≤ 12 * N + 8
