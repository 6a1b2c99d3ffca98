-- Small histories and the lines that they print, as one list, from documents 01 and 02. N is 8, w is 2 (where nothing else is said) and
-- there are 4 roots, as in document 01's small heaps, and the heap is new (where nothing else is said). That each case gives what it says is
-- one lemma, in proofs/.
use Rattle.std.specs.Prelude.{ℕ, List, [], ◌∷◌, ◌++◌, get_or}
use Prim.Native.Char.{code}
use Prim.Native.String.{String, [] as none, ◌∷◌ as ◌then◌}
use Rattle.rules_stores.specs.Store.{formatted}
use Rattle.rules_calls.specs.Calls.{Call, open_collection, run, last_memory}
use Rattle.history_records.specs.Records.{wide}
use Rattle.history_figures.specs.Figures.{no_figures, run as runSoFar}
use Rattle.history_line.specs.Line.{line}
use Rattle.history_runs.specs.Runs.{ran}

-- ---- records

-- "Byte 0 is the operation, byte 1 the root d, byte 2 the root s, byte 3 unused"; request U12: "then cell and size in four bytes each, low
-- byte first."
abbrev pub laid : (operation d s : ℕ) → (c size : List ℕ) → List ℕ
laid operation d s c size = operation ∷ d ∷ s ∷ 0 ∷ c ++ size

-- four bytes, of which the high ones are 0
abbrev pub four : ℕ → List ℕ
four n = n ∷ 0 ∷ 0 ∷ 0 ∷ []

abbrev pub twelve : (operation d s c size : ℕ) → List ℕ
twelve operation d s c size = laid operation d s (four c) (four size)

-- a record of the old form: "bytes 4 and 5 a cell number c, bytes 6 and 7 a size"
abbrev pub eight : (operation d s c size : ℕ) → List ℕ
eight operation d s c size = laid operation d s (c ∷ 0 ∷ []) (size ∷ 0 ∷ [])

-- "Operation 1 allocates the size into d; 2 copies root s to d; 3 writes root s into cell c of the object in d; 4 reads cell c of the
-- object in s into d; 5 clears d; 6 collects."
abbrev pub allocate : (size d : ℕ) → List ℕ
allocate size d = twelve 1 d 0 0 size

abbrev pub copy : (s d : ℕ) → List ℕ
copy s d = twelve 2 d s 0 0

abbrev pub write : (s c d : ℕ) → List ℕ
write s c d = twelve 3 d s c 0

abbrev pub read : (c s d : ℕ) → List ℕ
read c s d = twelve 4 d s c 0

abbrev pub clear : (d : ℕ) → List ℕ
clear d = twelve 5 d 0 0 0

abbrev pub collect : List ℕ
collect = twelve 6 0 0 0 0

-- request U6: "History operations 7 and 8 allocate data into d as 1 does, and write the size field's number into
-- cell c of the data in d"
abbrev pub allocate_data : (size d : ℕ) → List ℕ
allocate_data size d = twelve 7 d 0 0 size

abbrev pub write_number : (number c d : ℕ) → List ℕ
write_number number c d = twelve 8 d 0 c number

-- ---- cases

-- a history, with the count width, the calls made on the heap and the number of records run before it; what is
-- printed; and the byte of the A-map at the end
pub record Case : Type 0 where
  pub width : ℕ
  pub made : List Call
  pub records : ℕ
  pub bytes : List ℕ
  pub text : String
  pub a : ℕ

abbrev pub prints : List ℕ → String → ℕ → Case
prints bytes text a = record { width = 2; made = []; records = 0; bytes = bytes; text = text; a = a }

abbrev pub prints_after : (records : ℕ) → List ℕ → String → ℕ → Case
prints_after records bytes text a = record { width = 2; made = []; records = records; bytes = bytes; text = text; a = a }

abbrev pub prints_at : (width : ℕ) → List ℕ → String → ℕ → Case
prints_at width bytes text a = record { width = width; made = []; records = 0; bytes = bytes; text = text; a = a }

-- request U8: a collection is open, opened on the new heap
abbrev pub prints_open : List ℕ → String → ℕ → Case
prints_open bytes text a = record { width = 2; made = open_collection ∷ []; records = 0; bytes = bytes; text = text; a = a }

unfoldable pub cases : List Case
cases =
    -- "Allocating 2, 1, 3 into roots 0, 1, 2 prints `3 6 3 0 6` and a line end (byte 10)"; request U5: "its example becomes `3 6 3 0 6 0`"
    prints (allocate 2 0 ++ allocate 1 1 ++ allocate 3 2) "3 6 3 0 6 0\n" 119
    -- "an empty file gives five zeros", and since U5 six
    ∷ prints [] "0 0 0 0 0 0\n" 0
    -- "most blocks in use after any record": in use after the last is 1
    ∷ prints (allocate 5 0 ++ allocate 2 1 ++ clear 0 ++ allocate 1 1) "3 8 5 0 7 0\n" 1
    -- "When allocation gives 5 the run collects and tries once more": the object of 1 block was in three roots, so its count is stuck
    ∷ prints (allocate 1 0 ++ copy 0 1 ++ copy 0 2 ++ clear 0 ++ clear 1 ++ clear 2 ++ allocate 8 3) "2 9 8 1 8 1\n" 255
    -- two objects that name each other
    ∷ prints (allocate 1 0 ++ allocate 1 1 ++ write 1 0 0 ++ write 0 0 1 ++ clear 0 ++ clear 1 ++ allocate 8 2) "3 10 8 1 8 0\n" 255
    -- "Otherwise it prints `refused 5 at record 7`, say .. and the heap stands as before that record, save a forced collection": this one
    -- frees the stuck object, and 5 blocks stay in use
    ∷ prints (allocate 5 0 ++ allocate 1 1 ++ copy 1 2 ++ copy 1 3 ++ clear 1 ++ clear 2 ++ clear 3 ++ allocate 8 1)
    "refused 5 at record 7\n" 31
    -- "full collections forced or recorded": two recorded, one forced
    ∷ prints (collect ++ allocate 1 0 ++ copy 0 1 ++ copy 0 2 ++ clear 0 ++ clear 1 ++ clear 2 ++ allocate 8 3 ++ collect) "2 9 8 3 8 1\n" 255
    -- "the number of such moments": a count comes to 3 with the second copy; a third one, and one over itself, bring none; a collection
    -- counts anew, and two copies stick the object once more
    ∷ prints (allocate 1 0 ++ copy 0 1 ++ copy 0 2 ++ copy 0 3 ++ copy 0 0) "1 1 1 0 1 1\n" 1
    ∷ prints (allocate 1 0 ++ copy 0 1 ++ copy 0 2 ++ clear 1 ++ clear 2 ++ collect ++ copy 0 1 ++ copy 0 2) "1 1 1 1 1 2\n" 1
    -- .. by a cell too
    ∷ prints (allocate 1 0 ++ copy 0 1 ++ write 0 0 0) "1 1 1 0 1 1\n" 1
    -- "elsewhere an empty root is copied or written as 0": copied, it lets the object in root 0 go; written, the one in cell 7
    ∷ prints (allocate 1 0 ++ copy 1 0 ++ allocate 8 0) "2 9 8 0 8 0\n" 255
    ∷ prints (allocate 2 0 ++ allocate 1 1 ++ write 1 7 0 ++ clear 1 ++ write 2 7 0) "2 3 2 0 3 0\n" 3
    -- operation 4: root 2 holds what was read when the object it was read from is let go
    ∷ prints (allocate 2 0 ++ allocate 1 1 ++ write 1 7 0 ++ clear 1 ++ read 7 0 2 ++ clear 0) "2 3 2 0 3 0\n" 4
    -- "9 for an unknown operation or a nonzero unused field, before all others of that record but 10": before 4, there being no root 4
    ∷ prints (allocate 1 0 ++ twelve 9 4 0 0 0) "refused 9 at record 1\n" 1
    ∷ prints (twelve 5 4 0 0 1) "refused 9 at record 0\n" 0
    -- "A root out of range gives 4, in operation 1 only after 3."
    ∷ prints (allocate 0 4) "refused 3 at record 0\n" 0
    ∷ prints (allocate 9 4) "refused 3 at record 0\n" 0
    ∷ prints (allocate 8 4) "refused 4 at record 0\n" 0
    -- "Then an empty root gives 6 where an object is needed, which is d in 3 and s in 4": 4 before 6
    ∷ prints (write 4 0 0) "refused 4 at record 0\n" 0
    ∷ prints (read 0 0 4) "refused 4 at record 0\n" 0
    -- "Then comes 7, in 4 as in 3": 6 before 7; an object of 1 block has no cell 4
    ∷ prints (write 0 4 0) "refused 6 at record 0\n" 0
    ∷ prints (read 4 0 0) "refused 6 at record 0\n" 0
    ∷ prints (allocate 1 0 ++ write 0 4 0) "refused 7 at record 1\n" 1
    ∷ prints (allocate 1 0 ++ read 4 0 1) "refused 7 at record 1\n" 1
    -- request U6: operation 7 "as 1 does": it counts as an allocation in every figure, at w = 1 as a moment, collects and
    -- tries once more where no chunk is free, and gives 4 only after 3
    ∷ prints (allocate_data 2 0 ++ allocate 1 1 ++ allocate_data 3 2) "3 6 3 0 6 0\n" 119
    ∷ prints (allocate 1 0 ++ copy 0 1 ++ copy 0 2 ++ clear 0 ++ clear 1 ++ clear 2 ++ allocate_data 8 3) "2 9 8 1 8 1\n" 255
    ∷ prints (allocate_data 1 0 ++ copy 0 1 ++ copy 0 2) "1 1 1 0 1 1\n" 1
    ∷ prints_at 1 (allocate 1 0 ++ allocate_data 1 1) "2 2 1 0 2 2\n" 3
    ∷ prints (allocate_data 0 4) "refused 3 at record 0\n" 0
    ∷ prints (allocate_data 8 4) "refused 4 at record 0\n" 0
    -- operation 8 counts in nothing, and its number is never 3: it may be 0, and the largest that the field holds
    ∷ prints (allocate_data 1 0 ++ write_number 0 3 0 ++ laid 8 0 0 (four 0) (255 ∷ 255 ∷ 255 ∷ 255 ∷ [])) "1 1 1 0 1 0\n" 1
    -- "never followed, counted or checked as references": 2 would name the object in root 1, which is let go; a
    -- collection frees it where it is stuck
    ∷ prints (allocate_data 1 0 ++ allocate 1 1 ++ write_number 2 0 0 ++ clear 1) "2 2 1 0 2 0\n" 1
    ∷ prints (allocate_data 1 0 ++ allocate 1 1 ++ copy 1 2 ++ copy 1 3 ++ write_number 2 0 0 ++ clear 1 ++ clear 2 ++ clear 3 ++ collect)
    "2 2 1 1 2 1\n" 1
    -- "an empty d giving 6", after 4 and before 7
    ∷ prints (write_number 1 0 4) "refused 4 at record 0\n" 0
    ∷ prints (write_number 1 4 0) "refused 6 at record 0\n" 0
    -- "12, a reference store or read on data, or a number on an ordinary object, placed after 7"
    ∷ prints (allocate_data 1 0 ++ write_number 1 4 0) "refused 7 at record 1\n" 1
    ∷ prints (allocate 1 0 ++ write_number 1 4 0) "refused 7 at record 1\n" 1
    ∷ prints (allocate 1 0 ++ write_number 1 0 0) "refused 12 at record 1\n" 1
    ∷ prints (allocate_data 1 0 ++ write 1 4 0) "refused 7 at record 1\n" 1
    ∷ prints (allocate_data 1 0 ++ write 1 0 0) "refused 12 at record 1\n" 1
    ∷ prints (allocate_data 1 0 ++ read 4 0 1) "refused 7 at record 1\n" 1
    ∷ prints (allocate_data 1 0 ++ read 0 0 1) "refused 12 at record 1\n" 1
    -- its D bit is "cleared when it is freed": the object made there next is an ordinary one
    ∷ prints (allocate_data 1 0 ++ clear 0 ++ allocate 1 0 ++ write_number 1 0 0) "refused 12 at record 3\n" 1
    -- the fields that 7 and 8 don't name are 0: s and c; s
    ∷ prints (twelve 7 4 1 0 1) "refused 9 at record 0\n" 0
    ∷ prints (twelve 7 4 0 1 1) "refused 9 at record 0\n" 0
    ∷ prints (twelve 8 4 1 0 0) "refused 9 at record 0\n" 0
    -- "the refused operation changes nothing, and what earlier records did remains"; later ones do nothing
    ∷ prints (allocate 1 0 ++ allocate 0 1 ++ allocate 2 1) "refused 3 at record 1\n" 1
    -- "10 for a file ending inside a record .. met after the whole records": 10, and not 9 for what may be an unknown operation; 9 for one
    -- in a whole record before it
    ∷ prints (allocate 1 0 ++ (200 ∷ 1 ∷ 2 ∷ [])) "refused 10 at record 1\n" 1
    ∷ prints (twelve 200 0 0 0 0 ++ (1 ∷ [])) "refused 9 at record 0\n" 0
    -- request U12: 10 too with all bytes of a record but one
    ∷ prints (allocate 1 0 ++ laid 6 0 0 (four 0) (0 ∷ 0 ∷ 0 ∷ [])) "refused 10 at record 1\n" 1
    -- "cell and size in four bytes each, low byte first": sizes of 257, 65,537 and 16,777,217 blocks, cells 256, 65,536 and 16,777,216, and
    -- a size of 16,777,216 where the operation names none
    ∷ prints (laid 1 0 0 (four 0) (1 ∷ 1 ∷ 0 ∷ 0 ∷ [])) "refused 3 at record 0\n" 0
    ∷ prints (laid 7 0 0 (four 0) (1 ∷ 0 ∷ 1 ∷ 0 ∷ [])) "refused 3 at record 0\n" 0
    ∷ prints (laid 1 0 0 (four 0) (1 ∷ 0 ∷ 0 ∷ 1 ∷ [])) "refused 3 at record 0\n" 0
    ∷ prints (allocate 1 0 ++ laid 3 0 0 (0 ∷ 1 ∷ 0 ∷ 0 ∷ []) (four 0)) "refused 7 at record 1\n" 1
    ∷ prints (allocate 1 0 ++ laid 4 0 0 (0 ∷ 0 ∷ 1 ∷ 0 ∷ []) (four 0)) "refused 7 at record 1\n" 1
    ∷ prints (allocate_data 1 0 ++ laid 8 0 0 (0 ∷ 0 ∷ 0 ∷ 1 ∷ []) (four 0)) "refused 7 at record 1\n" 1
    ∷ prints (laid 5 0 0 (four 0) (0 ∷ 0 ∷ 0 ∷ 1 ∷ [])) "refused 9 at record 0\n" 0
    -- records of the old form are none of the new: three of them, and one alone
    ∷ prints (eight 1 0 0 0 2 ++ eight 1 1 0 0 1 ++ eight 1 2 0 0 3) "refused 9 at record 0\n" 0
    ∷ prints (eight 1 0 0 0 2) "refused 10 at record 0\n" 0
    -- "or going on past 4,294,967,295 records": up to that number there is no error
    ∷ prints_after 4294967294 (allocate 1 0) "1 1 1 0 1 0\n" 1
    ∷ prints_after 4294967294 (allocate 1 0 ++ allocate 1 1) "refused 10 at record 4294967295\n" 1
    -- request U8, a collection open: "14, .. full collection with one open", after 9
    ∷ prints_open (allocate 1 0 ++ collect) "refused 14 at record 1\n" 1
    ∷ prints_open (twelve 6 1 0 0 0) "refused 9 at record 0\n" 0
    -- .. a forced collection too: the stuck object stays, and the second try gives 5
    ∷ prints_open (allocate 1 0 ++ copy 0 1 ++ copy 0 2 ++ clear 0 ++ clear 1 ++ clear 2 ++ allocate 8 3) "refused 5 at record 6\n" 1
    -- all else is as it is with none open
    ∷ prints_open (allocate 5 0 ++ allocate_data 2 1 ++ clear 0 ++ allocate 1 1) "3 8 5 0 7 0\n" 1
    ∷ []

-- what the rules give for a case
unfoldable pub given : Case → List ℕ × ℕ
given c =
    let empty = formatted 8 c.width 4 in
    let h = last_memory empty (run 8 c.width empty c.made) in
    let x = ran wide 8 c.width c.bytes h (runSoFar 0 c.records no_figures) in
    (line x.run, get_or x.memory.a 0 0)

-- the bytes of a text of ASCII characters
unfoldable pub bytes_of : String → List ℕ
bytes_of none = []
bytes_of (c then s) = code c ∷ bytes_of s

-- what the case says
unfoldable pub expected : Case → List ℕ × ℕ
expected c = (bytes_of c.text, c.a)
