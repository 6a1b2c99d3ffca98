-- Requests U11 and U13: the two calls with an output write nothing else, and where numbers 15 and 16 are given.
use mathlib.Core.Path.{◌≡◌, refl, sym, ap, ◌∙◌, subst}
use mathlib.Core.Logic.{◌≢◌, ◌↔◌}
use mathlib.Core.Bool.{true, not}
use mathlib.Core.List.{List, [], ◌∷◌, ◌++◌}
use Prim.Native.Nat.{ℕ, ◌+◌, ◌-◌, ◌≤◌, ◌<◌}
use native.Mathlib.Decide.{dec_lt}
use native.Mathlib.Omega.{arith}
use lib.Dec.{ltb}
use lib.ListN.{length, get_or, drop, length-append, length-drop, get_or-append}
use lib.Seq.{get_or-append-add, get_or-drop}
use borrow.Author.Tests.{eq-eqb, ne_eqb, lt-ltb, le-ltb}
use Rattle.rules.specs.Tools.{first_number}
use Rattle.rules.specs.Heap.{Memory, is_first}
use Rattle.rules_output.specs.Shape.{shape_of}
use Rattle.rules_output.specs.Sentence.{sentence_for}
use Rattle.rules_calls.specs.Calls.{Call, write_reason, write_shape, Answer, reply, accepted, Alone, own_refusals, refused, outcome, answer}
use Rattle.rules_calls.specs.Promise.{Promise, OutputPromise, output_after}
use Rattle.rules.proofs.Tests.{first_past, first_found}
use Rattle.rules_calls.proofs.Replies.{number_is, accepted_none, accepted_outcome, answer_either, Passed, passed}
use Rattle.types.specs.declared.Reply.{Reply}
use Rattle.text.specs.Text.{Put}
use Rattle.theory_memories.specs.Heaps.{Undamaged}
use Rattle.theory.specs.Outputs.{WrittenOver, OnlyOutput, ReasonGiven, ShapeGiven, Fifteen, Sixteen}
use Rattle.theory_memories.proofs.Memories.Fit.{Fit, undamaged_fit}
use Rattle.theory_memories.proofs.Memories.Accepted.{fit_number, fit_accepted, fit_refused}

written_over : (text out : List ℕ) → length text ≤ length out → WrittenOver text out (text ++ drop (length text) out)
written_over text out fits =
    record {
      room = omega (arith, length-append text (drop (length text) out), length-drop (length text) out);
      front = λ i l. get_or-append text (drop (length text) out) 0 i l;
      later = λ i l.
          let place : length text + (i - length text) ≡ i = omega arith in
          ap (λ (k : ℕ). get_or (text ++ drop (length text) out) k 0) (sym place)
          ∙ get_or-append-add text (drop (length text) out) (i - length text) 0
          ∙ get_or-drop (length text) out (i - length text) 0
          ∙ ap (λ (k : ℕ). get_or out k 0) place;
    }

-- a call that keeps the memory, asks for room for its text, and gives the length of it
module _ (N w : ℕ) (h : Memory) (c : Call) (text out : List ℕ) (same : (y : Answer) → outcome N w h c ≡ y → (y.1 ≡ h) × (y.0.value ≡ length text))
    (fits : Passed N h c → length text ≤ length out) where
  only_output : (reply : Reply) (after : Memory) (left : List ℕ) → Promise N w c h reply after → left ≡ output_after reply text out
      → OnlyOutput text out h reply after left
  unfolding output_after
  only_output reply after left promise output =
      record {
        heap_kept =
            promise.after_is
            ∙ answer_either N w h c (λ y. y.1 ≡ h) (λ number nonzero. refl) (λ e. (same (outcome N w h c) refl).0);
        accepted = λ zero.
            let none : (answer N w h c).0.number ≡ 0 = ap (λ (r : Reply). r.number) (sym promise.reply_is) ∙ zero in
            let is = accepted_outcome N w h c none in
            let long = fits (passed N w h c (accepted_none N w h c none)) in
            let shown : left ≡ text ++ drop (length text) out = output ∙ rw (eq-eqb reply.number 0 zero, output_after) refl in (
              ap (λ (r : Reply). r.value) promise.reply_is ∙ ap (λ (y : Answer). y.0.value) is ∙ (same (outcome N w h c) refl).1,
              subst (WrittenOver text out) (sym shown) (written_over text out long),
            );
        refused = λ nonzero. output ∙ rw (ne_eqb reply.number 0 nonzero, output_after) refl;
      }

pub reason_given : ReasonGiven
unfolding outcome Passed
reason_given N w at h out reply after left p =
    only_output N w h (write_reason at (length out)) (sentence_for N h at) out
    (λ y e. (ap (λ (z : Answer). z.1) (sym e), ap (λ (z : Answer). z.0.value) (sym e))) (λ passed. passed.1) reply after left
    p.heap p.output_is

pub shape_given : ShapeGiven
unfolding outcome Passed
shape_given N w h out reply after left p =
    only_output N w h (write_shape (length out)) (shape_of N h) out
    (λ y e. (ap (λ (z : Answer). z.1) (sym e), ap (λ (z : Answer). z.0.value) (sym e))) (λ passed. passed) reply after left
    p.heap p.output_is

-- ---- code that keeps the promise, on an undamaged heap

module _ (N w : ℕ) (h : Memory) (u : Undamaged N w h) (c : Call) (alone : Alone c) (text out : List ℕ) (r : Reply) where
  pub output_refused : (n : ℕ) → n ≢ 0 → first_number (own_refusals N h c) ≡ n → r ≡ reply n 0 0 → OutputPromise N w c text h out r h out
  unfolding output_after
  output_refused n some number is =
      let answered = fit_refused N w h (undamaged_fit N w h u) c alone (λ z. some (sym number ∙ z)) in
      record {
        heap = record {
          reply_is = is ∙ ap (λ (k : ℕ). reply k 0 0) (sym number) ∙ sym (ap (λ (y : Answer). y.0) answered);
          after_is = sym (ap (λ (y : Answer). y.1) answered);
        };
        output_is = sym (rw (is, ne_eqb n 0 some, output_after) refl);
      }

  pub output_accepted : (left : List ℕ) (end : ℕ) → Passed N h c → outcome N w h c ≡ accepted h (length text) → Put out 0 text left end
      → r ≡ reply 0 end 0 → OutputPromise N w c text h out r h left
  unfolding output_after
  output_accepted left end passed gives put is =
      let answered = fit_accepted N w h (undamaged_fit N w h u) c alone passed ∙ gives in
      let plain : 0 + length text ≡ length text = omega arith in
      record {
        heap = record {
          reply_is = is ∙ ap (λ (k : ℕ). reply 0 k 0) (put.end_is ∙ plain) ∙ sym (ap (λ (y : Answer). y.0) answered);
          after_is = sym (ap (λ (y : Answer). y.1) answered);
        };
        output_is = put.written ∙ ap (λ (k : ℕ). text ++ drop k out) plain ∙ sym (rw (is, output_after) refl);
      }

-- ---- numbers 15 and 16

-- of the last number in a list
module _ (k room long : ℕ) (some : k ≢ 0) where
  abbrev last : ℕ
  last = first_number ((k, ltb room long) ∷ [])

  short_is : room < long → last ≡ k
  short_is l = first_found k (ltb room long) [] (lt-ltb room long l)

  fits_is : long ≤ room → last ≡ 0
  unfolding first_number
  fits_is l = first_past k (ltb room long) [] (le-ltb room long l)

  pub last_short : (last ≡ k) ↔ (room < long)
  last_short = (λ e. elim (dec_lt room long) [ yes l ↦ l | no l ↦ absurd (some (sym e ∙ fits_is (omega arith))) ], short_is)

  pub last_fits : (last ≡ 0) ↔ (long ≤ room)
  last_fits = (λ e. elim (dec_lt room long) [ yes l ↦ absurd (some (sym (short_is l) ∙ e)) | no l ↦ omega arith ], fits_is)

module _ (N w : ℕ) (h : Memory) (fit : Fit N w h) (room : ℕ) where
  pub fifteen : (at : ℕ) → is_first N h at ≡ true → Fifteen N w h at room
  unfolding own_refusals
  fifteen at first =
      let number : (answer N w h (write_reason at room)).0.number ≡ first_number ((15, ltb room (length (sentence_for N h at))) ∷ []) =
      number_is N w h (write_reason at room) ∙ fit_number N w h fit (write_reason at room) refl
      ∙ first_past 6 (not (is_first N h at)) _ (ap not first) in
      record {
        too_short = rw number (last_short 15 room (length (sentence_for N h at)) (omega arith));
        long_enough = rw number (last_fits 15 room (length (sentence_for N h at)) (omega arith));
      }

  pub sixteen : Sixteen N w h room
  unfolding own_refusals
  sixteen =
      let number : (answer N w h (write_shape room)).0.number ≡ first_number ((16, ltb room (length (shape_of N h))) ∷ []) =
      number_is N w h (write_shape room) ∙ fit_number N w h fit (write_shape room) refl in
      record {
        too_short = rw number (last_short 16 room (length (shape_of N h)) (omega arith));
        long_enough = rw number (last_fits 16 room (length (shape_of N h)) (omega arith));
      }
