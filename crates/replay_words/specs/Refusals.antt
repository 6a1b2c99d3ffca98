-- What a list of calls is refused with before anything is written.
use Rattle.std.specs.Prelude.{ℕ, ◌*◌, ◌/◌, ◌%◌, Bool, true, false, not, List, [], ◌∷◌, length, leb, eqb}
use Rattle.rules.specs.Tools.{first_number}
use Rattle.rules_calls.specs.Calls.{reply}
use Rattle.types.specs.declared.Reply.{Reply}
use Rattle.replay_words.specs.Encoding.{are_calls}

-- From whether the shape is right, the words and the room for replies: 1 for the shape, as in format; 10 for a list that ends inside a call;
-- 9 for an unknown code, or a number that no cell can hold; 18 for a list of replies that is too short for all of them. Each with whether it applies.
unfoldable pub list_refusals : (shape : Bool) → List ℕ → (room : ℕ) → List (ℕ × Bool)
list_refusals shape words room =
    (1, not shape)
    ∷ (10, not (eqb (length words % 4) 0))
    ∷ (9, not (are_calls words (length words / 4)))
    ∷ (18, not (leb (3 * (length words / 4)) room))
    ∷ []

-- the reply: the first number that applies, and where none does the number of calls as the value
unfoldable pub reply_on : (shape : Bool) → List ℕ → (room : ℕ) → Reply
reply_on shape words room =
    let number = first_number (list_refusals shape words room) in
    reply number (elim (eqb number 0) [ true ↦ length words / 4 | false ↦ 0 ]) 0
