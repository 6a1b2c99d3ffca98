-- The two calls with an output on a heap of 8 blocks, each with what is right of it and what is wrong: what a
-- call would give that refuses everything, replies 0 always or never writes; and other mistakes, each named.
-- That only what is right is promised is one lemma, in proofs/.
use Rattle.std.specs.Prelude.{ℕ, List, [], ◌∷◌, ◌++◌, length}
use Rattle.rules.specs.Heap.{Memory}
use Rattle.rules_output.specs.Reason.{kept_by, no_chain}
use Rattle.rules_output.specs.Sentence.{sentence}
use Rattle.rules_calls.specs.Calls.{Answer, reply}
use Rattle.rules_calls.specs.Promise.{OutputPromise}
use Rattle.rules_calls.specs.Evidence.Forms.{gives, refuses}
use Rattle.rules_calls.specs.Evidence.WrongAnswers.{used, chained, cyclic, collecting}
use Rattle.rules_calls.specs.Evidence.Outputs.{Asked, reason_for, the_shape, call_of, text_of, room}

-- reply, memory and output after the call
abbrev pub Outcome : Type 0
Outcome = Answer × List ℕ

pub record OutputQuestion : Type 0 where
  pub before : Memory
  pub asked : Asked
  pub out : List ℕ
  pub right : Outcome
  pub wrong : List Outcome

abbrev pub output_question : Memory → Asked → List ℕ → Outcome → List Outcome → OutputQuestion
output_question before asked out right wrong = record { before = before; asked = asked; out = out; right = right; wrong = wrong }

-- what came of the call keeps the promise of the public call
abbrev pub OutputPromisedTo : OutputQuestion → Outcome → Type 0
OutputPromisedTo q x =
    OutputPromise 8 2 (call_of q.asked (length q.out)) (text_of 8 q.before q.asked) q.before q.out x.0.0 x.0.1 x.1

-- "root 0 cell 7 block 2" and a line end
abbrev why : List ℕ
why = 114 ∷ 111 ∷ 111 ∷ 116 ∷ 32 ∷ 48 ∷ 32 ∷ 99 ∷ 101 ∷ 108 ∷ 108 ∷ 32 ∷ 55 ∷ 32 ∷ 98 ∷ 108 ∷ 111 ∷ 99 ∷ 107 ∷ 32 ∷ 50 ∷ 10 ∷ []

-- the list of P8's heap: X of 2 blocks in root 0, whose cell 7 names Y
abbrev shape_list : List ℕ
shape_list = 4 ∷ 1 ∷ 0 ∷ 0 ∷ 0 ∷ 2 ∷ 0 ∷ 0 ∷ 0 ∷ 0 ∷ 0 ∷ 0 ∷ 0 ∷ 0 ∷ 2 ∷ 1 ∷ 0 ∷ 0 ∷ 0 ∷ 0 ∷ 0 ∷ []

unfoldable pub wrong_outputs : List OutputQuestion
wrong_outputs =
    output_question (used chained) (reason_for 2) (room 24) ((gives 22, used chained), why ++ room 2)
    -- refuses everything; and writes all the same
    (((refuses 1, used chained), room 24) ∷ ((refuses 15, used chained), room 24) ∷ ((refuses 15, used chained), why ++ room 2)
    -- replies 0 always; never writes; gives the room; a second value
    ∷ ((gives 0, used chained), why ++ room 2) ∷ ((gives 22, used chained), room 24) ∷ ((gives 24, used chained), why ++ room 2)
    ∷ ((reply 0 22 1, used chained), why ++ room 2)
    -- no line end; the line end not counted; later bytes cleared; the text at the output's end
    ∷ ((gives 21, used chained), 114 ∷ 111 ∷ 111 ∷ 116 ∷ 32 ∷ 48 ∷ 32 ∷ 99 ∷ 101 ∷ 108 ∷ 108 ∷ 32 ∷ 55 ∷ 32 ∷ 98 ∷ 108 ∷ 111 ∷ 99 ∷ 107 ∷ 32 ∷ 50 ∷ [] ++ room 3)
    ∷ ((gives 21, used chained), why ++ room 2) ∷ ((gives 22, used chained), why ++ (0 ∷ 0 ∷ [])) ∷ ((gives 22, used chained), room 2 ++ why)
    -- another root, another cell, no cell, another block; no reason
    ∷ ((gives 22, used chained), sentence (kept_by 1 (7 ∷ [])) 2 ++ room 2) ∷ ((gives 22, used chained), sentence (kept_by 0 (6 ∷ [])) 2 ++ room 2)
    ∷ ((gives 15, used chained), sentence (kept_by 0 []) 2 ++ room 9) ∷ ((gives 22, used chained), sentence (kept_by 0 (7 ∷ [])) 0 ++ room 2)
    ∷ ((gives 24, used chained), sentence no_chain 2)
    -- the waiting list used and left 0; the heap marked
    ∷ ((gives 22, chained), why ++ room 2) ∷ ((gives 22, collecting 5 0 (used chained)), why ++ room 2) ∷ [])
    -- one byte too short: what fits is written; taken all the same; another number
    ∷ output_question (used chained) (reason_for 2) (room 21) ((refuses 15, used chained), room 21)
    (((refuses 15, used chained), 114 ∷ 111 ∷ 111 ∷ 116 ∷ 32 ∷ 48 ∷ 32 ∷ 99 ∷ 101 ∷ 108 ∷ 108 ∷ 32 ∷ 55 ∷ 32 ∷ 98 ∷ 108 ∷ 111 ∷ 99 ∷ 107 ∷ 32 ∷ 50 ∷ []) ∷ ((gives 22, used chained), room 21) ∷ ((gives 21, used chained), room 21)
    ∷ ((refuses 16, used chained), room 21) ∷ ((refuses 6, used chained), room 21) ∷ ((reply 15 22 0, used chained), room 21) ∷ [])
    -- no object there: "no root reaches", too short, nothing
    ∷ output_question (used chained) (reason_for 1) (room 24) ((refuses 6, used chained), room 24)
    (((gives 24, used chained), sentence no_chain 1) ∷ ((refuses 15, used chained), room 24) ∷ ((gives 0, used chained), room 24) ∷ [])
    -- X and Y name each other: a chain from what no root names; nothing said; a refusal
    ∷ output_question (used cyclic) (reason_for 2) (room 24) ((gives 24, used cyclic), sentence no_chain 2)
    (((gives 22, used cyclic), sentence (kept_by 0 (0 ∷ [])) 2 ++ room 2) ∷ ((gives 0, used cyclic), room 24) ∷ ((refuses 6, used cyclic), room 24)
    ∷ ((gives 24, used cyclic), sentence no_chain 0) ∷ [])
    ∷ output_question (used chained) the_shape (room 23) ((gives 21, used chained), shape_list ++ room 2)
    -- refuses everything; replies 0 always; never writes; gives the objects, or the room
    (((refuses 1, used chained), room 23) ∷ ((refuses 16, used chained), room 23) ∷ ((gives 0, used chained), shape_list ++ room 2)
    ∷ ((gives 21, used chained), room 23) ∷ ((gives 2, used chained), shape_list ++ room 2) ∷ ((gives 23, used chained), shape_list ++ room 2)
    -- later numbers cleared; the number of roots left out; objects numbered from 0
    ∷ ((gives 21, used chained), shape_list ++ (0 ∷ 0 ∷ []))
    ∷ ((gives 20, used chained), 1 ∷ 0 ∷ 0 ∷ 0 ∷ 2 ∷ 0 ∷ 0 ∷ 0 ∷ 0 ∷ 0 ∷ 0 ∷ 0 ∷ 0 ∷ 2 ∷ 1 ∷ 0 ∷ 0 ∷ 0 ∷ 0 ∷ 0 ∷ room 3)
    ∷ ((gives 21, used chained), 4 ∷ 0 ∷ 0 ∷ 0 ∷ 0 ∷ 2 ∷ 0 ∷ 0 ∷ 0 ∷ 0 ∷ 0 ∷ 0 ∷ 0 ∷ 0 ∷ 1 ∷ 1 ∷ 0 ∷ 0 ∷ 0 ∷ 0 ∷ 0 ∷ room 2)
    -- references as they stand; the other object first; no D bits
    ∷ ((gives 21, used chained), 4 ∷ 1 ∷ 0 ∷ 0 ∷ 0 ∷ 2 ∷ 0 ∷ 0 ∷ 0 ∷ 0 ∷ 0 ∷ 0 ∷ 0 ∷ 0 ∷ 3 ∷ 1 ∷ 0 ∷ 0 ∷ 0 ∷ 0 ∷ 0 ∷ room 2)
    ∷ ((gives 21, used chained), 4 ∷ 2 ∷ 0 ∷ 0 ∷ 0 ∷ 1 ∷ 0 ∷ 0 ∷ 0 ∷ 0 ∷ 0 ∷ 2 ∷ 0 ∷ 0 ∷ 0 ∷ 0 ∷ 0 ∷ 0 ∷ 0 ∷ 0 ∷ 1 ∷ room 2)
    ∷ ((gives 19, used chained), 4 ∷ 1 ∷ 0 ∷ 0 ∷ 0 ∷ 2 ∷ 0 ∷ 0 ∷ 0 ∷ 0 ∷ 0 ∷ 0 ∷ 0 ∷ 2 ∷ 1 ∷ 0 ∷ 0 ∷ 0 ∷ 0 ∷ room 4)
    -- the waiting list used and left 0; the heap marked
    ∷ ((gives 21, chained), shape_list ++ room 2) ∷ ((gives 21, collecting 5 0 (used chained)), shape_list ++ room 2) ∷ [])
    -- one number too short: what fits is written; taken all the same; another number
    ∷ output_question (used chained) the_shape (room 20) ((refuses 16, used chained), room 20)
    (((refuses 16, used chained), 4 ∷ 1 ∷ 0 ∷ 0 ∷ 0 ∷ 2 ∷ 0 ∷ 0 ∷ 0 ∷ 0 ∷ 0 ∷ 0 ∷ 0 ∷ 0 ∷ 2 ∷ 1 ∷ 0 ∷ 0 ∷ 0 ∷ 0 ∷ [])
    ∷ ((gives 21, used chained), room 20) ∷ ((gives 20, used chained), room 20) ∷ ((refuses 15, used chained), room 20) ∷ [])
    -- what no root leads to: written too
    ∷ output_question (used cyclic) the_shape (room 11) ((gives 11, used cyclic), 4 ∷ 1 ∷ 0 ∷ 0 ∷ 0 ∷ 1 ∷ 0 ∷ 0 ∷ 0 ∷ 0 ∷ 0 ∷ [])
    (((refuses 16, used cyclic), room 11) ∷ ((gives 11, used cyclic), 4 ∷ 3 ∷ 0 ∷ 0 ∷ 0 ∷ 1 ∷ 0 ∷ 0 ∷ 0 ∷ 0 ∷ 0 ∷ []) ∷ [])
    ∷ []
