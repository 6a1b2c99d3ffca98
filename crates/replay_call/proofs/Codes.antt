-- The call of a known code, and words that are no call.
use mathlib.Core.Path.{◌≡◌, refl, sym, ap, ◌∙◌, subst}
use mathlib.Core.Logic.{◌≢◌}
use mathlib.Core.Bool.{true, false, true≢false}
use Prim.Native.Nat.{ℕ, ◌+◌, ◌≤◌, ◌<◌}
use native.Mathlib.Omega.{arith}
use borrow.Author.Tests.{le-leb, lt-leb, eq-eqb, ne_eqb}
use Rattle.rules.specs.Heap.{Memory, max_number}
use Rattle.rules_calls.specs.Calls.{reply}
use Rattle.rules_calls.specs.Promise.{Promise}
use Rattle.types.specs.declared.Reply.{Reply}
use Rattle.types.specs.Told.{Came}
use Rattle.types.specs.Told.{reply_of}
use Rattle.theory.specs.Usable.{Worked}
use Rattle.replay_words.specs.Encoding.{decoded, is_call}
use Rattle.replay_call.specs.Dispatched.{Dispatched}

-- the call of a known code, as it was made
pub stepped_as :
    (k : ℕ) {N w code x y z : ℕ} {h : Memory} {r : Reply} {g : Memory} → is_call k z ≡ true → code ≡ k
    → Promise N w (decoded k x y z) h r g → Dispatched N w code x y z h r g
stepped_as k {N} {w} {code} {x} {y} {z} {h} {r} {g} known e promise =
    record {
      known = λ _. subst (λ (k : ℕ). Promise N w (decoded k x y z) h r g) (sym e) promise;
      unknown = λ f. absurd (true≢false (sym known ∙ sym (ap (λ (k : ℕ). is_call k z) e) ∙ f));
    }

-- .. and one whose work was done
pub stepped_worked :
    (k : ℕ) {N w code x y z : ℕ} {h : Memory} {done : Came} {r : Reply} {g : Memory} → is_call k z ≡ true → code ≡ k
    → Worked N w (decoded k x y z) h done g → r ≡ reply_of done → Dispatched N w code x y z h r g
stepped_worked k known e worked replied =
    stepped_as k known e
    (record { reply_is = replied ∙ worked.promise.reply_is; after_is = worked.promise.after_is })

-- .. and words that are no call
pub stepped_none :
    {N w code x y z : ℕ} {h : Memory} {r : Reply} → is_call code z ≡ false → r ≡ reply 9 0 0 → Dispatched N w code x y z h r h
stepped_none none e =
    record { known = λ t. absurd (true≢false (sym t ∙ none)); unknown = λ _. (e, refl) }

-- ---- which words are a call

-- a number write is one where a cell can hold the number
pub narrow_call : (z : ℕ) → z ≤ max_number → is_call 10 z ≡ true
unfolding is_call
narrow_call z fits = le-leb z max_number fits

pub wide_call : (code z : ℕ) → code ≡ 10 → max_number < z → is_call code z ≡ false
unfolding is_call
wide_call code z e wide = rw (eq-eqb code 10 e, is_call) (lt-leb z max_number wide)

pub past_call : (code z : ℕ) → 14 ≤ code → is_call code z ≡ false
unfolding is_call
past_call code z past = rw (ne_eqb code 10 (λ e. omega arith), is_call) (lt-leb code 13 past)

-- a code that is none of the fourteen is past them; step by step, since there are too many cases for one
first_code : (code : ℕ) → code ≢ 0 → 1 ≤ code
first_code code n = omega arith

next_code : (k code : ℕ) → code ≢ k → k ≤ code → k + 1 ≤ code
next_code k code n l = omega arith

pub past_codes :
    (code : ℕ) → code ≢ 0 → code ≢ 1 → code ≢ 2 → code ≢ 3 → code ≢ 4 → code ≢ 5 → code ≢ 6 → code ≢ 7 → code ≢ 8 → code ≢ 9
    → code ≢ 10 → code ≢ 11 → code ≢ 12 → code ≢ 13 → 14 ≤ code
past_codes code n0 n1 n2 n3 n4 n5 n6 n7 n8 n9 n10 n11 n12 n13 =
    let four : 4 ≤ code = next_code 3 code n3 (next_code 2 code n2 (next_code 1 code n1 (first_code code n0))) in
    let eight : 8 ≤ code = next_code 7 code n7 (next_code 6 code n6 (next_code 5 code n5 (next_code 4 code n4 four))) in
    let twelve : 12 ≤ code = next_code 11 code n11 (next_code 10 code n10 (next_code 9 code n9 (next_code 8 code n8 eight))) in
    next_code 13 code n13 (next_code 12 code n12 twelve)
