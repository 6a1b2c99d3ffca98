-- Request U11: the sentence that gives the reason, as bytes, and how it is read back.
use Rattle.std.specs.Prelude.{ℕ, zero, suc, ◌+◌, ◌-◌, ◌*◌, true, false, ◌&&◌, List, [], ◌∷◌, ◌++◌, length, eqb, leb}
use Rattle.std.proofs.Math.Option.{Option, none, some, map}
use Rattle.text.specs.Text.{decimal}
use Rattle.rules.specs.Heap.{Memory}
use Rattle.rules_output.specs.Reason.{Reason, kept_by, no_chain, reason_of}

-- "One space parts the words": "root "
abbrev pub root_text : List ℕ
root_text = 114 ∷ 111 ∷ 111 ∷ 116 ∷ 32 ∷ []

-- " cell "
abbrev pub cell_text : List ℕ
cell_text = 32 ∷ 99 ∷ 101 ∷ 108 ∷ 108 ∷ 32 ∷ []

-- " block "
abbrev pub block_text : List ℕ
block_text = 32 ∷ 98 ∷ 108 ∷ 111 ∷ 99 ∷ 107 ∷ 32 ∷ []

-- "no root reaches block "
abbrev pub no_root_text : List ℕ
no_root_text =
    110 ∷ 111 ∷ 32 ∷ 114 ∷ 111 ∷ 111 ∷ 116 ∷ 32 ∷ 114 ∷ 101 ∷ 97 ∷ 99 ∷ 104 ∷ 101 ∷ 115 ∷ 32 ∷ 98 ∷ 108 ∷ 111 ∷ 99 ∷ 107 ∷ 32 ∷ []

-- "numbers carry no leading zeros, a line end closes"
abbrev pub ending : (at : ℕ) → List ℕ
ending at = decimal at ++ (10 ∷ [])

-- "with `cell J` once for each link followed", and then the block
unfoldable pub links : (cells : List ℕ) → (at : ℕ) → List ℕ
links [] at = block_text ++ ending at
links (j ∷ js) at = cell_text ++ (decimal j ++ links js at)

-- "a chain, as `root 1 cell 2 block 4` .. Where there is no chain it is `no root reaches block 4`"
unfoldable pub sentence : Reason → (at : ℕ) → List ℕ
sentence (kept_by r cells) at = root_text ++ (decimal r ++ links cells at)
sentence no_chain at = no_root_text ++ ending at

-- for the object at block `at`
unfoldable pub sentence_for : ℕ → Memory → (at : ℕ) → List ℕ
sentence_for N h at = sentence (reason_of N h at) at

-- ---- reading back

-- the bytes behind a fixed text, where it stands in front
unfoldable pub behind : (text l : List ℕ) → Option (List ℕ)
behind [] l = some l
behind (x ∷ text) [] = none
behind (x ∷ text) (y ∷ l) = elim (eqb x y) [ true ↦ behind text l | false ↦ none ]

-- the number whose digits stand in front, behind those that made n, and the bytes that follow
unfoldable pub number_from : (n : ℕ) → List ℕ → ℕ × List ℕ
number_from n [] = (n, [])
number_from n (c ∷ l) = elim (leb 48 c && leb c 57) [ true ↦ number_from (n * 10 + (c - 48)) l | false ↦ (n, c ∷ l) ]

-- a number as it is written: digits, the first of which is 0 in 0 alone
unfoldable pub number_at : List ℕ → Option (ℕ × List ℕ)
number_at [] = none
number_at (c ∷ l) =
    elim (eqb c 48) [ true ↦ some (0, l) | false ↦ elim (leb 48 c && leb c 57) [ true ↦ some (number_from 0 (c ∷ l)) | false ↦ none ] ]

-- a number and a line end, and nothing behind them
unfoldable pub ended : Option (ℕ × List ℕ) → Option ℕ
ended none = none
ended (some (at, [])) = none
ended (some (at, c ∷ [])) = elim (eqb c 10) [ true ↦ some at | false ↦ none ]
ended (some (at, c ∷ d ∷ l)) = none

-- " cell J" as often as it stands there, at most that often, then " block A" and the line end
unfoldable pub links_of : (most : ℕ) → List ℕ → Option (List ℕ × ℕ)
links_of zero l = none
links_of (suc f) l =
    elim (behind cell_text l) [
      | some m ↦ elim (number_at m) [ some x ↦ map (λ y. (x.0 ∷ y.0, y.1)) (links_of f x.1) | none ↦ none ]
      | none ↦ elim (behind block_text l) [ some m ↦ map (λ at. ([], at)) (ended (number_at m)) | none ↦ none ]
    ]

-- the reason and the block that a text says, where it is a sentence
unfoldable pub read_back : List ℕ → Option (Reason × ℕ)
read_back l =
    elim (behind no_root_text l) [
      | some m ↦ map (λ at. (no_chain, at)) (ended (number_at m))
      | none ↦
          elim (behind root_text l) [
            | some m ↦ elim (number_at m) [ some x ↦ map (λ y. (kept_by x.0 y.0, y.1)) (links_of (length x.1) x.1) | none ↦ none ]
            | none ↦ none
          ]
    ]
