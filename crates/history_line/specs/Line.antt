-- Request U1: the printed line, as bytes.
use Rattle.std.specs.Prelude.{ℕ, true, false, List, [], ◌∷◌, ◌++◌, eqb}
use Rattle.text.specs.Text.{decimal}
use Rattle.history_figures.specs.declared.tally.Tally.{Tally}
use Rattle.history_figures.specs.declared.tally.Run.{Run}

-- one space, and "a line end (byte 10)"
abbrev pub space : List ℕ
space = 32 ∷ []

abbrev pub line_end : List ℕ
line_end = 10 ∷ []

-- the bytes of `refused ` and of ` at record `
abbrev pub refused_text : List ℕ
refused_text = 114 ∷ 101 ∷ 102 ∷ 117 ∷ 115 ∷ 101 ∷ 100 ∷ 32 ∷ []

abbrev pub record_text : List ℕ
record_text = 32 ∷ 97 ∷ 116 ∷ 32 ∷ 114 ∷ 101 ∷ 99 ∷ 111 ∷ 114 ∷ 100 ∷ 32 ∷ []

-- a number and what stands behind it
abbrev pub item : ℕ → List ℕ → List ℕ
item n behind = decimal n ++ behind

-- "one line of five figures: accepted allocations, blocks allocated in all, largest accepted size, full collections forced or recorded,
-- most blocks in use after any record"; request U5: "U1's line gains a sixth figure"
unfoldable pub figures_line : Tally → List ℕ
figures_line t =
    item t.allocations space
    ++ item t.blocks space
    ++ item t.largest space
    ++ item t.collections space
    ++ item t.peak space
    ++ item t.stuck line_end

-- "Otherwise it prints `refused 5 at record 7`, say, ended likewise, counting from 0"
unfoldable pub refusal_line : (number records : ℕ) → List ℕ
refusal_line number records = refused_text ++ item number record_text ++ item records line_end

unfoldable pub line : Run → List ℕ
line r = elim (eqb r.number 0) [ true ↦ figures_line r.tally | false ↦ refusal_line r.number r.records ]

-- no line is longer: six numbers of 20 digits, each with a byte behind it
abbrev pub longest_line : ℕ
longest_line = 126
