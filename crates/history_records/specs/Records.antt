-- Document 01, "Recorded histories", and request U12: the records of a file, and which of its fields a record has to leave 0.
use Rattle.std.specs.Prelude.{ℕ, zero, suc, ◌+◌, ◌*◌, Bool, List, [], ◌∷◌, map, get_or, eqb}
use Rattle.rules.specs.Tools.{all}
use Rattle.history_records.specs.declared.Fields.{Fields}

-- how the records of a history are laid out: of how many bytes cell and size are
pub record Form : Type 0 where
  pub number_bytes : ℕ

-- Request U12: "History records become 12 bytes: the first four as they were, then cell and size in four bytes each, low byte first."
abbrev pub wide : Form
wide = record { number_bytes = 4 }

-- Document 01: "a file of eight-byte records", "bytes 4 and 5 a cell number c, bytes 6 and 7 a size, low byte first." No code reads this
-- form: it says what an old history comes to.
abbrev pub old : Form
old = record { number_bytes = 2 }

-- the bytes of a record
abbrev pub record_length : Form → ℕ
record_length form = 4 + 2 * form.number_bytes

-- the number that k bytes make, "low byte first"
unfoldable pub number : (k : ℕ) → List ℕ → (at : ℕ) → ℕ
number zero bytes at = 0
number (suc k) bytes at = get_or bytes at 0 + 256 * number k bytes (at + 1)

-- "Byte 0 is the operation, byte 1 the root d, byte 2 the root s, byte 3 unused", then come cell and size. The record that begins at place
-- `at`.
unfoldable pub fields_at : Form → List ℕ → (at : ℕ) → Fields
fields_at form bytes at =
    let k = form.number_bytes in
    record {
      operation = get_or bytes at 0;
      d = get_or bytes (at + 1) 0;
      s = get_or bytes (at + 2) 0;
      unused = get_or bytes (at + 3) 0;
      c = number k bytes (at + 4);
      size = number k bytes (at + (4 + k));
    }

-- "Fields an operation doesn't name, and byte 3, are 0": which these are, for the operations from 1 to 8 (0 is
-- none). Request U6: "History operations 7 and 8 allocate data into d as 1 does, and write the size field's
-- number into cell c of the data in d".
abbrev pub unnamed_by : Fields → List (List ℕ)
unnamed_by f =
    []
    ∷ (f.s ∷ f.c ∷ [])
    ∷ (f.c ∷ f.size ∷ [])
    ∷ (f.size ∷ [])
    ∷ (f.size ∷ [])
    ∷ (f.s ∷ f.c ∷ f.size ∷ [])
    ∷ (f.d ∷ f.s ∷ f.c ∷ f.size ∷ [])
    ∷ (f.s ∷ f.c ∷ [])
    ∷ (f.s ∷ [])
    ∷ []

unfoldable pub unnamed : Fields → List ℕ
unnamed f = f.unused ∷ get_or (unnamed_by f) f.operation []

-- whether numbers are all 0
abbrev pub are_zero : List ℕ → Bool
are_zero l = all (map (λ x. eqb x 0) l)
