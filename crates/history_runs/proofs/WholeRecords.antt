-- A history in pieces of whole records comes to what the whole comes to.
use mathlib.Core.Path.{◌≡◌, refl, sym, ap, ◌∙◌}
use mathlib.Core.Logic.{◌≢◌}
use mathlib.Core.Bool.{true, false}
use mathlib.Core.List.{List, [], ◌++◌, append_assoc, append-nil}
use Prim.Native.Nat.{ℕ, zero, suc, ◌+◌, ◌-◌, ◌*◌, ◌/◌, ◌≤◌, ◌<◌, min}
use native.Mathlib.Decide.{ℕ_discrete, dec_lt}
use native.Mathlib.Omega.{arith}
use lib.Dec.{eqb}
use lib.ListN.{length, get_or, length-append, get_or-append}
use lib.Seq.{get_or-append-add}
use borrow.Author.Tests.{eq-eqb, ne_eqb}
use Rattle.rules.specs.Heap.{Memory}
use Rattle.theory.specs.CallWords.{Made}
use Rattle.history_records.specs.declared.Fields.{Fields}
use Rattle.history_records.specs.Records.{record_length, fields_at, wide}
use Rattle.history_plans.specs.Asked.{asked}
use Rattle.history_figures.specs.declared.tally.Run.{Run}
use Rattle.history_figures.specs.Figures.{run, most_records}
use Rattle.history_turns.specs.Turns.{Turn, turn_of, after_turn}
use Rattle.history_turns.proofs.UsableAfterRecord.{after_number}
use Rattle.history_runs.specs.Runs.{Came, came, record_at, ran_from, whole_records, ended, ran}
use Rattle.history_runs.specs.Claims.{PiecesAreWhole}
use Rattle.history_runs.proofs.Alike.{fields_alike}
use Rattle.history_runs.proofs.Ends.{ended_stopped, ended_whole, ended_past, ended_alike}

-- ---- records of two pieces

-- a record of the first piece
fields_left :
    (first rest : List ℕ) (at : ℕ) → at + record_length wide ≤ length first → fields_at wide (first ++ rest) at ≡ fields_at wide first at
fields_left first rest at inside =
    fields_alike (first ++ rest) first wide at at (λ m l. get_or-append first rest 0 (at + m) (omega arith))

-- a record of the second
fields_right :
    (first rest : List ℕ) (from at : ℕ) → from ≡ length first + at → fields_at wide (first ++ rest) from ≡ fields_at wide rest at
fields_right first rest from at e =
    fields_alike (first ++ rest) rest wide from at
    (λ m l.
    let there : from + m ≡ length first + (at + m) = omega arith in
    ap (λ (k : ℕ). get_or (first ++ rest) k 0) there ∙ get_or-append-add first rest (at + m) 0)

-- a turn, and what came of the records behind it
abbrev pub joined : ℕ → Run → Turn → Came → Came
joined N r x rest =
    elim (eqb x.number 0) [
      | true ↦ came rest.run rest.memory (x.made ++ rest.made)
      | false ↦ came (after_turn N x r) x.after x.made
    ]

-- records of two lists that are read alike
ran_alike :
    (n N w : ℕ) (bytes other : List ℕ) (i j : ℕ) (h : Memory) (r : Run)
    → ((k : ℕ) → k < n → fields_at wide bytes (record_length wide * (i + k)) ≡ fields_at wide other (record_length wide * (j + k)))
    → ran_from wide n N w bytes i h r ≡ ran_from wide n N w other j h r
unfolding ran_from
ran_alike zero N w bytes other i j h r alike = refl
ran_alike (suc n) N w bytes other i j h r alike =
    let now : fields_at wide bytes (record_length wide * i) ≡ fields_at wide other (record_length wide * j) =
    at (i + 0) (j + 0) (omega arith) (omega arith) (alike 0 (omega arith)) in
    let turned : record_at wide N w bytes i h ≡ record_at wide N w other j h = ap (λ (f : Fields). turn_of N w h (asked N h f)) now in
    let x : Turn = record_at wide N w other j h in
    ap (λ (y : Turn). joined N r y (ran_from wide n N w bytes (i + 1) y.after (after_turn N y r))) turned
    ∙ ap (joined N r x)
    (ran_alike n N w bytes other (i + 1) (j + 1) x.after (after_turn N x r)
    (λ k l. at (i + suc k) (j + suc k) (omega arith) (omega arith) (alike (suc k) (omega arith))))
  where
    at : {a b : ℕ} (p q : ℕ) → p ≡ a → q ≡ b → fields_at wide bytes (record_length wide * p) ≡ fields_at wide other (record_length wide * q)
        → fields_at wide bytes (record_length wide * a) ≡ fields_at wide other (record_length wide * b)
    at {a} {b} p q e f same =
        ap (λ (m : ℕ). fields_at wide bytes (record_length wide * m)) (sym e) ∙ same ∙ ap (λ (m : ℕ). fields_at wide other (record_length wide * m)) f

-- ---- records in two parts

-- a run that goes on after x over what f gives
abbrev continued : Came → (Came → Came) → Came
continued x f =
    elim (eqb x.run.number 0) [
      | true ↦ let y : Came = f x in came y.run y.memory (x.made ++ y.made)
      | false ↦ x
    ]

continued_stopped : (x : Came) (f : Came → Came) → x.run.number ≢ 0 → continued x f ≡ x
continued_stopped x f stopped = rw (ne_eqb x.run.number 0 stopped, continued)

continued_going : (x : Came) (f : Came → Came) → x.run.number ≡ 0
    → continued x f ≡ came (f x).run (f x).memory (x.made ++ (f x).made)
continued_going x f e = rw (eq-eqb x.run.number 0 e, continued)

ran_parts :
    (m n N w : ℕ) (bytes : List ℕ) (i : ℕ) (h : Memory) (r : Run) → r.number ≡ 0
    → ran_from wide (m + n) N w bytes i h r
    ≡ continued (ran_from wide m N w bytes i h r) (λ x. ran_from wide n N w bytes (i + m) x.memory x.run)
unfolding ran_from
ran_parts zero n N w bytes i h r e =
    let all : 0 + n ≡ n = omega arith in
    let from : i ≡ i + 0 = omega arith in
    ap (λ (k : ℕ). ran_from wide k N w bytes i h r) all
    ∙ ap (λ (k : ℕ). ran_from wide n N w bytes k h r) from
    ∙ sym (continued_going (came r h []) (λ x. ran_from wide n N w bytes (i + 0) x.memory x.run) e)
ran_parts (suc m) n N w bytes i h r e =
    let x : Turn = record_at wide N w bytes i h in
    let more : suc m + n ≡ suc (m + n) = omega arith in
    ap (λ (k : ℕ). ran_from wide k N w bytes i h r) more
    ∙ elim (ℕ_discrete x.number 0) [
      | no stopped ↦
          rw (ne_eqb x.number 0 stopped, ran_from)
          (sym (continued_stopped (came (after_turn N x r) x.after x.made) (λ y. ran_from wide n N w bytes (i + suc m) y.memory y.run)
          (λ z. stopped (sym (after_number N x r) ∙ z))))
      | yes accepted ↦
          rw (eq-eqb x.number 0 accepted, ran_from)
          (behind x (ran_from wide m N w bytes (i + 1) x.after (after_turn N x r))
          (ran_from wide (m + n) N w bytes (i + 1) x.after (after_turn N x r))
          (ran_parts m n N w bytes (i + 1) x.after (after_turn N x r) (after_number N x r ∙ accepted)))
    ]
  where
    -- the first turn, before a run in two parts
    behind :
        (x : Turn) (rest all : Came) → all ≡ continued rest (λ y. ran_from wide n N w bytes (i + 1 + m) y.memory y.run)
        → came all.run all.memory (x.made ++ all.made)
        ≡ continued (came rest.run rest.memory (x.made ++ rest.made)) (λ y. ran_from wide n N w bytes (i + suc m) y.memory y.run)
    behind x rest all same = elim (ℕ_discrete rest.run.number 0) [
      | no stopped ↦
          ap (λ (z : Came). came z.run z.memory (x.made ++ z.made))
          (same ∙ continued_stopped rest (λ y. ran_from wide n N w bytes (i + 1 + m) y.memory y.run) stopped)
          ∙ sym
          (continued_stopped (came rest.run rest.memory (x.made ++ rest.made))
          (λ y. ran_from wide n N w bytes (i + suc m) y.memory y.run) stopped)
      | yes going ↦
          let y : Came = ran_from wide n N w bytes (i + 1 + m) rest.memory rest.run in
          let there : i + 1 + m ≡ i + suc m = omega arith in
          ap (λ (z : Came). came z.run z.memory (x.made ++ z.made))
          (same ∙ continued_going rest (λ y. ran_from wide n N w bytes (i + 1 + m) y.memory y.run) going)
          ∙ ap (λ (l : List Made). came y.run y.memory l) (sym (append_assoc x.made rest.made y.made))
          ∙ ap
          (λ (k : ℕ).
          let z : Came = ran_from wide n N w bytes k rest.memory rest.run in
          came z.run z.memory (x.made ++ rest.made ++ z.made))
          there
          ∙ sym
          (continued_going (came rest.run rest.memory (x.made ++ rest.made))
          (λ y. ran_from wide n N w bytes (i + suc m) y.memory y.run) going)
    ]

-- where none was refused, all are counted
pub ran_records :
    (n N w : ℕ) (bytes : List ℕ) (i : ℕ) (h : Memory) (r : Run) → (ran_from wide n N w bytes i h r).run.number ≡ 0
    → (ran_from wide n N w bytes i h r).run.records ≡ r.records + n
unfolding ran_from after_turn
ran_records zero N w bytes i h r e = omega arith
ran_records (suc n) N w bytes i h r e = elim (ℕ_discrete (record_at wide N w bytes i h).number 0) [
  | no stopped ↦
      let x : Turn = record_at wide N w bytes i h in
      absurd (stopped (sym (after_number N x r) ∙ rw (ne_eqb x.number 0 stopped, ran_from) at e))
  | yes accepted ↦
      let x : Turn = record_at wide N w bytes i h in
      let counted : (after_turn N x r).records ≡ r.records + 1 = rw (eq-eqb x.number 0 accepted, after_turn) in
      let rest =
      ran_records n N w bytes (i + 1) x.after (after_turn N x r) (rw (eq-eqb x.number 0 accepted, ran_from) at e) in
      rw (eq-eqb x.number 0 accepted, ran_from) (omega (arith, rest, counted))
]

-- ---- two pieces

module _ (N w : ℕ) (bytes : List ℕ) (h : Memory) (r : Run) where
  ran_stopped : r.number ≢ 0 → ran wide N w bytes h r ≡ came r h []
  unfolding ran
  ran_stopped stopped = rw (ne_eqb r.number 0 stopped, ran)

  pub ran_going : r.number ≡ 0 → (n : ℕ) → whole_records wide bytes r ≡ n
      → let x : Came = ran_from wide n N w bytes 0 h r in ran wide N w bytes h r ≡ came (ended wide (length bytes) n x.run) x.memory x.made
  unfolding ran
  ran_going going n whole = rw (eq-eqb r.number 0 going, ran, whole)

-- what comes of the second piece, behind x
abbrev then_over : ℕ → ℕ → List ℕ → Came → Came
then_over N w rest x = let y : Came = ran wide N w rest x.memory x.run in came y.run y.memory (x.made ++ y.made)

over_stopped : (N w : ℕ) (rest : List ℕ) (x : Came) → x.run.number ≢ 0 → then_over N w rest x ≡ x
over_stopped N w rest x stopped =
    ap (λ (y : Came). came y.run y.memory (x.made ++ y.made)) (ran_stopped N w rest x.memory x.run stopped)
    ∙ ap (λ (l : List Made). came x.run x.memory l) (append-nil x.made)

module _ (N w : ℕ) (first rest : List ℕ) (h : Memory) (r : Run) (going : r.number ≡ 0) (k : ℕ)
    (even : length first ≡ record_length wide * k) where
  abbrev bytes : List ℕ
  bytes = first ++ rest

  total : length bytes ≡ record_length wide * k + length rest
  total = length-append first rest ∙ ap (λ (n : ℕ). n + length rest) even

  -- the records of the first piece
  left : (n : ℕ) → n ≤ k → ran_from wide n N w bytes 0 h r ≡ ran_from wide n N w first 0 h r
  left n few = ran_alike n N w bytes first 0 0 h r (λ j l. fields_left first rest (record_length wide * (0 + j)) (omega (arith, even)))

  -- those of the second
  right : (n : ℕ) (g : Memory) (s : Run) → ran_from wide n N w bytes (0 + k) g s ≡ ran_from wide n N w rest 0 g s
  right n g s =
      ran_alike n N w bytes rest (0 + k) 0 g s
      (λ j l. fields_right first rest (record_length wide * (0 + k + j)) (record_length wide * (0 + j)) (omega (arith, even)))

  -- the first piece goes on past the limit
  past_limit : most_records - r.records < k → ran wide N w bytes h r ≡ then_over N w rest (ran wide N w first h r)
  past_limit past =
      let m : ℕ = most_records - r.records in
      let x : Came = ran_from wide m N w first 0 h r in
      let one : ran wide N w first h r ≡ came (ended wide (length first) m x.run) x.memory x.made =
      ran_going N w first h r going m (omega (arith, even)) in
      let beyond : length first ≢ record_length wide * m = λ e. omega (arith, even) in
      let stops : (ended wide (length first) m x.run).number ≢ 0 = stopped_past (length first) m x.run beyond in
      let whole : ran wide N w bytes h r ≡ came (ended wide (length bytes) m x.run) x.memory x.made =
      ran_going N w bytes h r going m (omega (arith, total))
      ∙ ap (λ (y : Came). came (ended wide (length bytes) m y.run) y.memory y.made) (left m (omega arith)) in
      whole
      ∙ ap (λ (s : Run). came s x.memory x.made)
      (ended_alike (length bytes) m (length first) m x.run (λ e. absurd (omega (arith, total))) (λ e. absurd (beyond e)))
      ∙ sym (ap (then_over N w rest) one ∙ over_stopped N w rest (came (ended wide (length first) m x.run) x.memory x.made) stops)
    where
      stopped_past : (size n : ℕ) (s : Run) → size ≢ record_length wide * n → (ended wide size n s).number ≢ 0
      stopped_past size n s beyond = elim (ℕ_discrete s.number 0) [
        | yes e ↦ λ z. omega (arith, ap (λ (t : Run). t.number) (ended_past size n s beyond e))
        | no stopped ↦ λ z. stopped (sym (ap (λ (t : Run). t.number) (ended_stopped size n s stopped)) ∙ z)
      ]

  -- the first piece is within it
  within_limit : k ≤ most_records - r.records → ran wide N w bytes h r ≡ then_over N w rest (ran wide N w first h r)
  within_limit within =
      let x : Came = ran_from wide k N w first 0 h r in
      let n : ℕ = min (length rest / record_length wide) (most_records - r.records - k) in
      let one : ran wide N w first h r ≡ x =
      ran_going N w first h r going k (omega (arith, even))
      ∙ ap (λ (s : Run). came s x.memory x.made) (ended_whole (length first) k x.run even) in
      let parts : ran_from wide (k + n) N w bytes 0 h r ≡ continued x (λ y. ran_from wide n N w rest 0 y.memory y.run) =
      ran_parts k n N w bytes 0 h r going
      ∙ ap (λ (y : Came). continued y (λ z. ran_from wide n N w bytes (0 + k) z.memory z.run)) (left k (omega arith))
      ∙ ap (λ (s : Came). elim (eqb x.run.number 0) [ true ↦ came s.run s.memory (x.made ++ s.made) | false ↦ x ])
      (right n x.memory x.run) in
      let whole : ran wide N w bytes h r
      ≡ (let z : Came = continued x (λ y. ran_from wide n N w rest 0 y.memory y.run) in
      came (ended wide (length bytes) (k + n) z.run) z.memory z.made) =
      ran_going N w bytes h r going (k + n) (omega (arith, total))
      ∙ ap (λ (y : Came). came (ended wide (length bytes) (k + n) y.run) y.memory y.made) parts in
      whole
      ∙ elim (ℕ_discrete x.run.number 0) [
        | no stopped ↦
            ap (λ (y : Came). came (ended wide (length bytes) (k + n) y.run) y.memory y.made)
            (continued_stopped x (λ y. ran_from wide n N w rest 0 y.memory y.run) stopped)
            ∙ ap (λ (s : Run). came s x.memory x.made) (ended_stopped (length bytes) (k + n) x.run stopped)
            ∙ sym (over_stopped N w rest x stopped)
        | yes goes_on ↦
            let y : Came = ran_from wide n N w rest 0 x.memory x.run in
            let counted = ran_records k N w first 0 h r goes_on in
            let two : ran wide N w rest x.memory x.run ≡ came (ended wide (length rest) n y.run) y.memory y.made =
            ran_going N w rest x.memory x.run goes_on n (omega (arith, counted)) in
            ap (λ (z : Came). came (ended wide (length bytes) (k + n) z.run) z.memory z.made)
            (continued_going x (λ y. ran_from wide n N w rest 0 y.memory y.run) goes_on)
            ∙ ap (λ (s : Run). came s y.memory (x.made ++ y.made))
            (ended_alike (length bytes) (k + n) (length rest) n y.run (λ e. omega (arith, total)) (λ e. omega (arith, total)))
            ∙ sym (ap (λ (z : Came). came z.run z.memory (x.made ++ z.made)) two)
      ]
      ∙ sym (ap (then_over N w rest) one)

pub pieces_are_whole : PiecesAreWhole
pieces_are_whole N w first rest h r even = elim (ℕ_discrete r.number 0) [
  | no stopped ↦
      ran_stopped N w (first ++ rest) h r stopped
      ∙ sym (ap (then_over N w rest) (ran_stopped N w first h r stopped) ∙ over_stopped N w rest (came r h []) stopped)
  | yes going ↦
      let k : ℕ = length first / record_length wide in
      let whole : length first ≡ record_length wide * k = omega (arith, even) in
      elim (dec_lt (most_records - r.records) k) [
        | yes past ↦ past_limit N w first rest h r going k whole past
        | no within ↦ within_limit N w first rest h r going k whole (omega arith)
      ]
]
