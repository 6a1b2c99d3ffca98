-- The words of one call read, and those of one reply written: for contracts of inner functions.
use Rattle.std.specs.Prelude.{ℕ, ◌+◌, ◌*◌, List, get_or, set}
use Rattle.types.specs.declared.Reply.{Reply}
use Rattle.replay_words.specs.declared.words.Words.{Words}

-- the four words of call number i
abbrev pub words_at : List ℕ → (i : ℕ) → Words
words_at words i =
    record { code = get_or words (4 * i) 0; x = get_or words (4 * i + 1) 0; y = get_or words (4 * i + 2) 0; z = get_or words (4 * i + 3) 0 }

-- the list of replies with that of call number i written
unfoldable pub with_reply : List ℕ → (i : ℕ) → Reply → List ℕ
with_reply replies i x = set (set (set replies (3 * i) x.number) (3 * i + 1) x.value) (3 * i + 2) x.second
