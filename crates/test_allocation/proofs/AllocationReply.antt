-- The reply of an allocation before it writes: where it accepts, what was found; where not, the answer of the call, with nothing written.
use mathlib.Core.Path.{◌≡◌, refl, sym, ap, ◌∙◌}
use mathlib.Core.Bool.{Bool, true, false, not, ◌&&◌}
use mathlib.Core.List.{List, [], ◌∷◌}
use mathlib.Core.Option.{Option, none, some}
use Prim.Native.Nat.{ℕ, ◌+◌, ◌≤◌, ◌<◌}
use native.Mathlib.Omega.{arith}
use lib.Dec.{leb, ltb}
use lib.ListN.{length}
use borrow.Author.Tests.{leb-true, ltb-true}
use Rattle.rules.specs.Tools.{is_some, first_number}
use Rattle.rules.specs.Heap.{Memory, exponent, lowest_free}
use Rattle.rules_calls.specs.Calls.{Call, allocate, allocate_data, Answer, reply, Alone, allocation_refusals, own_refusals, answer}
use Rattle.rules_calls.specs.Promise.{Promise}
use Rattle.types.specs.declared.Reply.{Reply}
use Rattle.rules.proofs.Tests.{and_true}
use Rattle.rules_calls.proofs.Promised.{promised}
use Rattle.theory_memories.proofs.Maps.LowestChunk.{room}
use Rattle.theory_memories.proofs.Memories.Fit.{Fit}
use Rattle.theory_memories.proofs.Memories.Accepted.{fit_refused}
use Rattle.test_arguments.specs.Replies.{own_test}
use Rattle.test_allocation.specs.Replies.{found, allocate_reply}

-- ---- the reply, over its two tests and its search

abbrev tested : Bool → Bool → Option ℕ → Reply
tested size place o = elim size [ true ↦ elim place [ true ↦ found o | false ↦ reply 4 0 0 ] | false ↦ reply 3 0 0 ]

tested_passed : (s p : Bool) (o : Option ℕ) (at : ℕ) → tested s p o ≡ reply 0 at 0 → (s ≡ true) × (p ≡ true) × (o ≡ some at)
unfolding found
tested_passed true true none at e = absurd (omega (arith, ap (λ (x : Reply). x.number) e))
tested_passed true true (some i) at e = (refl, refl, ap some (ap (λ (x : Reply). x.value) e))
tested_passed true false o at e = absurd (omega (arith, ap (λ (x : Reply). x.number) e))
tested_passed false p o at e = absurd (omega (arith, ap (λ (x : Reply). x.number) e))

tested_accepts : (s p : Bool) (o : Option ℕ) → (tested s p o).number ≡ 0 → tested s p o ≡ reply 0 (tested s p o).value 0
unfolding found
tested_accepts true true none e = absurd (omega arith)
tested_accepts true true (some i) e = refl
tested_accepts true false o e = absurd (omega arith)
tested_accepts false p o e = absurd (omega arith)

-- its number is the first of the rules' that applies, and a refusal has no value
tested_number :
    (s p : Bool) (o : Option ℕ) → first_number ((3, not s) ∷ (4, not p) ∷ (5, not (is_some o)) ∷ []) ≡ (tested s p o).number
unfolding found first_number is_some
tested_number true true none = refl
tested_number true true (some i) = refl
tested_number true false o = refl
tested_number false p o = refl

tested_plain : (s p : Bool) (o : Option ℕ) → ((tested s p o).number ≡ 0 → ⊥) → reply (tested s p o).number 0 0 ≡ tested s p o
unfolding found
tested_plain true true none fails = refl
tested_plain true true (some i) fails = absurd (fails refl)
tested_plain true false o fails = refl
tested_plain false p o fails = refl

-- ---- the call

-- the tests of an allocation are passed: n and r are in range, and the lowest free chunk is at block `at`
pub record AllocationPassed (N : ℕ) (a : List ℕ) (roots n r at : ℕ) : Type 0 where
  pub lowest : lowest_free N (exponent n) a ≡ some at
  pub some_blocks : 1 ≤ n
  pub not_more : n ≤ N
  pub place : r < roots
  pub inside : at + n ≤ N

pub allocate_passed :
    {N : ℕ} {a : List ℕ} {roots n r at : ℕ} → allocate_reply N a roots n r ≡ reply 0 at 0 → AllocationPassed N a roots n r at
unfolding allocate_reply
allocate_passed {N} {a} {roots} {n} {r} {at} e =
    let parts = tested_passed (leb 1 n && leb n N) (ltb r roots) (lowest_free N (exponent n) a) at e in
    let sizes = and_true (leb 1 n) (leb n N) parts.0 in
    record {
      lowest = parts.2;
      some_blocks = leb-true 1 n sizes.0;
      not_more = leb-true n N sizes.1;
      place = ltb-true r roots parts.1;
      inside = (room N a n at parts.2).inside;
    }

-- x is the reply of an allocation before it writes
pub record Replied (N : ℕ) (a : List ℕ) (roots n r : ℕ) (x : Reply) : Type 0 where
  pub is_reply : x ≡ allocate_reply N a roots n r

pub replied : {N : ℕ} {a : List ℕ} {roots n r : ℕ} {x : Reply} → x ≡ allocate_reply N a roots n r → Replied N a roots n r x
replied e = record { is_reply = e }

pub allocate_accepts :
    {N : ℕ} {a : List ℕ} {roots n r : ℕ} {x : Reply} → Replied N a roots n r x → x.number ≡ 0
    → allocate_reply N a roots n r ≡ reply 0 x.value 0
unfolding allocate_reply
allocate_accepts {N} {a} {roots} {n} {r} tested accepts =
    let e = tested.is_reply in
    tested_accepts (leb 1 n && leb n N) (ltb r roots) (lowest_free N (exponent n) a) (ap (λ (y : Reply). y.number) (sym e) ∙ accepts)
    ∙ ap (λ (y : Reply). reply 0 y.value 0) (sym e)

-- ---- an allocation of either kind

-- a call with an allocation's own numbers
module _ (N : ℕ) (h : Memory) (c : Call) (alone : Alone c) (n r : ℕ) (own : own_refusals N h c ≡ allocation_refusals N h n r) where
  own_number : first_number (own_refusals N h c) ≡ (allocate_reply N h.a (length h.roots) n r).number
  unfolding allocate_reply
  own_number =
      ap first_number own
      ∙ tested_number (leb 1 n && leb n N) (ltb r (length h.roots)) (lowest_free N (exponent n) h.a)

  goes_on : {x : Reply} → Replied N h.a (length h.roots) n r x → x.number ≡ 0 → (own_test N h c).number ≡ 0
  unfolding own_test
  goes_on tested accepts = own_number ∙ ap (λ (y : Reply). y.number) (sym tested.is_reply) ∙ accepts

  stopped :
      (w : ℕ) → Fit N w h → ((allocate_reply N h.a (length h.roots) n r).number ≡ 0 → ⊥)
      → answer N w h c ≡ (allocate_reply N h.a (length h.roots) n r, h)
  unfolding allocate_reply
  stopped w fit fails =
      fit_refused N w h fit c alone (λ e. fails (sym own_number ∙ e)) ∙ ap {B = Answer} (λ k. (reply k 0 0, h)) own_number
      ∙ ap {B = Answer} (λ x. (x, h))
      (tested_plain (leb 1 n && leb n N) (ltb r (length h.roots)) (lowest_free N (exponent n) h.a) fails)

  refuses :
      {w : ℕ} {x : Reply} → x ≡ allocate_reply N h.a (length h.roots) n r → Fit N w h → (x.number ≡ 0 → ⊥) → Promise N w c h x h
  refuses {w} {x} tested fit fails =
      promised N w h c (allocate_reply N h.a (length h.roots) n r, h)
      (stopped w fit (λ e. fails (ap (λ (y : Reply). y.number) tested ∙ e)))
      x h tested refl

pub allocate_goes_on :
    (h : Memory) {N n r : ℕ} {x : Reply} → Replied N h.a (length h.roots) n r x → x.number ≡ 0
    → (own_test N h (allocate n r)).number ≡ 0
unfolding own_refusals
allocate_goes_on h {N} {n} {r} = goes_on N h (allocate n r) refl n r refl

pub allocate_data_goes_on :
    (h : Memory) {N n r : ℕ} {x : Reply} → Replied N h.a (length h.roots) n r x → x.number ≡ 0
    → (own_test N h (allocate_data n r)).number ≡ 0
unfolding own_refusals
allocate_data_goes_on h {N} {n} {r} = goes_on N h (allocate_data n r) refl n r refl

pub allocate_refused :
    {N w : ℕ} {h : Memory} {n r : ℕ} {x : Reply} → x ≡ allocate_reply N h.a (length h.roots) n r → Fit N w h → (x.number ≡ 0 → ⊥)
    → Promise N w (allocate n r) h x h
unfolding own_refusals
allocate_refused {N} {w} {h} {n} {r} = refuses N h (allocate n r) refl n r refl

pub allocate_data_refused :
    {N w : ℕ} {h : Memory} {n r : ℕ} {x : Reply} → x ≡ allocate_reply N h.a (length h.roots) n r → Fit N w h → (x.number ≡ 0 → ⊥)
    → Promise N w (allocate_data n r) h x h
unfolding own_refusals
allocate_data_refused {N} {w} {h} {n} {r} = refuses N h (allocate_data n r) refl n r refl
