-- The sentence as the loops make it.
use mathlib.Core.Path.{◌≡◌, refl, sym, ap, ◌∙◌}
use mathlib.Core.Logic.{◌≢◌}
use mathlib.Core.List.{List, [], ◌∷◌, ◌++◌, append-nil, append_assoc}
use Prim.Native.Nat.{ℕ, zero, suc, ◌+◌, ◌-◌, ◌/◌, ◌%◌, ◌^◌, ◌≤◌, ◌<◌}
use native.Mathlib.Omega.{arith}
use native.Mathlib.Numerals.{add-one}
use lib.ListN.{length, get_or, length-append}
use Rattle.std.proofs.lemmas.List.{length_push, get_or_at, get_or_append_left}
use borrow.Author.Tests.{eq-eqb, ne_eqb}
use Rattle.rules_output.specs.Reason.{Reason, kept_by, no_chain}
use Rattle.rules_output.specs.Sentence.{root_text, cell_text, block_text, no_root_text, links, sentence}
use Rattle.io.specs.Digits.{hex_digit_ascii, last_digits, IsDigitCount}
use Rattle.text.specs.Text.{decimal, Put}
use Rattle.text.proofs.Decimals.{decimal_is, decimal_short}
use Rattle.text.proofs.Writing.{put_both, put_as, put_length, put_none}
use Rattle.walk_objects.specs.Walking.{last_first}
use Rattle.walk_reason.specs.Telling.{reason_in}

digits_length : (k n : ℕ) → length (last_digits 10 k n) ≡ k
digits_length zero n = refl
digits_length (suc k) n = length-append (last_digits 10 k (n / 10)) (hex_digit_ascii (n % 10) ∷ []) ∙ omega (arith, digits_length k (n / 10))

-- what the kit writes is as long as `decimal`
pub decimal_long : (k n : ℕ) → IsDigitCount 10 1 n k → n < 2 ^ 64 → (k ≡ length (decimal n)) × (k ≤ 20)
decimal_long k n few below =
    let is : k ≡ length (decimal n) = sym (digits_length k n) ∙ ap length (decimal_is k n few) in
    (is, omega (arith, is, decimal_short n below))

-- ---- part of a text is written, and `rest` is left of it

pub record Written (text rest before after : List ℕ) (to : ℕ) : Type 0 where
  pub front : List ℕ
  pub is : front ++ rest ≡ text
  pub put : Put before 0 front after to

none_written : (text before : List ℕ) → Written text text before before 0
none_written text before =
    record { front = []; is = refl; put = put_as refl (omega arith) (put_none before 0) }

-- x comes next, and `rest` behind it
pub record Next (text x rest before after : List ℕ) (to : ℕ) : Type 0 where
  pub so_far : Written text (x ++ rest) before after to

pub next : {text rest rest' before after : List ℕ} {to : ℕ} (x : List ℕ) → rest' ≡ x ++ rest → Written text rest' before after to → Next text x rest before after to
next x split w = record { so_far = record { front = w.front; is = ap (λ (r : List ℕ). w.front ++ r) (sym split) ∙ w.is; put = w.put } }

module _ {text x rest before after : List ℕ} {to : ℕ} (room : length text ≤ length before) (n : Next text x rest before after to) where
  front_fits : 0 + length n.so_far.front ≤ length before
  front_fits = omega (arith, ap length n.so_far.is, length-append n.so_far.front (x ++ rest))

  pub room_for : to + length x ≤ length after
  room_for =
      omega (
        arith,
        ap length n.so_far.is,
        length-append n.so_far.front (x ++ rest),
        length-append x rest,
        put_length {before = before} {text = n.so_far.front} {after = after} {at = 0} {end = to} front_fits n.so_far.put,
        n.so_far.put.end_is,
      )

  pub written_more : {after' : List ℕ} {to' : ℕ} → Put after to x after' to' → Written text rest before after' to'
  written_more put =
      record {
        front = n.so_far.front ++ x;
        is = append_assoc n.so_far.front x rest ∙ n.so_far.is;
        put = put_both {s = n.so_far.front} {t = x} front_fits n.so_far.put put;
      }

pub all_written : {text before after : List ℕ} {to : ℕ} → Written text [] before after to → Put before 0 text after to
all_written w = put_as (sym (append-nil w.front) ∙ w.is) refl w.put

-- ---- the sentence

last_first_front : (a b : List ℕ) (n : ℕ) → n ≤ length a → last_first (a ++ b) n ≡ last_first a n
unfolding last_first
last_first_front a b zero h = refl
last_first_front a b (suc n) h =
    let head : get_or (a ++ b) n 0 ≡ get_or a n 0 = get_or_append_left a b 0 n (omega arith) in
    let tail : last_first (a ++ b) n ≡ last_first a n = last_first_front a b n (omega arith) in
    cc

-- no links, or a root behind the cells
none_reason : (l : List ℕ) → length l ≡ 0 → reason_in l ≡ no_chain
unfolding reason_in
none_reason l z = rw (eq-eqb (length l) 0 z, reason_in) refl

chain_reason : (l cells : List ℕ) (root : ℕ) → l ≡ cells ++ (root ∷ []) → reason_in l ≡ kept_by root (last_first cells (length cells))
unfolding reason_in
chain_reason l cells root is =
    let long : length l ≡ length cells + 1 = ap length is ∙ length_push cells root in
    let some : length l ≢ 0 = omega arith in
    let place : length l - 1 ≡ length cells = omega arith in
    let head : get_or l (length cells) 0 ≡ root = ap (λ (m : List ℕ). get_or m (length cells) 0) is ∙ get_or_at cells root [] 0 (length cells) refl in
    let tail : last_first l (length cells) ≡ last_first cells (length cells) =
    ap (λ (m : List ℕ). last_first m (length cells)) is ∙ last_first_front cells (root ∷ []) (length cells) (omega arith) in
    rw (ne_eqb (length l) 0 some, place, head, tail, reason_in) refl

module _ (at : ℕ) where
  -- what is left when all but i cells are written, the last one first
  abbrev pub left : (cells : List ℕ) → ℕ → List ℕ
  left cells i = links (last_first cells i) at

  none_whole : (l : List ℕ) → length l ≡ 0 → (no_root_text ++ decimal at) ++ (10 ∷ []) ≡ sentence (reason_in l) at
  unfolding sentence
  none_whole l z = sym (ap (λ (r : Reason). sentence r at) (none_reason l z))

  chain_whole : (l cells : List ℕ) (root : ℕ) → l ≡ cells ++ (root ∷ []) → (root_text ++ decimal root) ++ left cells (length cells) ≡ sentence (reason_in l) at
  unfolding sentence
  chain_whole l cells root is = sym (ap (λ (r : Reason). sentence r at) (chain_reason l cells root is))

  left_next : (cells : List ℕ) (i : ℕ) → left cells (i + 1) ≡ (cell_text ++ decimal (get_or cells i 0)) ++ left cells i
  unfolding last_first links
  left_next cells i = rw (add-one i) refl

  left_last : (cells : List ℕ) → left cells 0 ≡ (block_text ++ decimal at) ++ (10 ∷ [])
  unfolding last_first links
  left_last cells = refl

  -- ---- lengths

  pub none_long : (l : List ℕ) (n : ℕ) → length l ≡ 0 → n ≡ length (decimal at) → 22 + n + 1 ≡ length (sentence (reason_in l) at)
  none_long l n z is =
      omega (arith, ap length (none_whole l z), length-append (no_root_text ++ decimal at) (10 ∷ []), length-append no_root_text (decimal at))

  pub next_long : (cells : List ℕ) (i n m k : ℕ) → n ≡ length (decimal (get_or cells i 0)) → m + length (left cells 0) ≡ k + length (left cells i)
      → m + (6 + n) + length (left cells 0) ≡ k + length (left cells (i + 1))
  next_long cells i n m k is so_far =
      omega (
        arith,
        ap length (left_next cells i),
        length-append (cell_text ++ decimal (get_or cells i 0)) (left cells i),
        length-append cell_text (decimal (get_or cells i 0)),
      )

  pub chain_long : (l cells : List ℕ) (root m n : ℕ) → l ≡ cells ++ (root ∷ []) → n ≡ length (decimal at)
      → m + length (left cells 0) ≡ 5 + length (decimal root) + length (left cells (length cells)) → m + 7 + n + 1 ≡ length (sentence (reason_in l) at)
  chain_long l cells root m n split is so_far =
      omega (
        arith,
        ap length (chain_whole l cells root split),
        length-append (root_text ++ decimal root) (left cells (length cells)),
        length-append root_text (decimal root),
        ap length (left_last cells),
        length-append (block_text ++ decimal at) (10 ∷ []),
        length-append block_text (decimal at),
      )

  -- ---- what is written next

  pub no_root_next : (l out : List ℕ) → length l ≡ 0 → Next (sentence (reason_in l) at) (no_root_text ++ decimal at) (10 ∷ []) out out 0
  no_root_next l out z = next (no_root_text ++ decimal at) (sym (none_whole l z)) (none_written (sentence (reason_in l) at) out)

  pub root_next : (l cells out : List ℕ) (root : ℕ) → l ≡ cells ++ (root ∷ [])
      → Next (sentence (reason_in l) at) (root_text ++ decimal root) (left cells (length cells)) out out 0
  root_next l cells out root is = next (root_text ++ decimal root) (sym (chain_whole l cells root is)) (none_written (sentence (reason_in l) at) out)

  module _ {text before after : List ℕ} {to : ℕ} (cells : List ℕ) (i : ℕ) (w : Written text (left cells i) before after to) where
    pub cell_next : 0 < i → Next text (cell_text ++ decimal (get_or cells (i - 1) 0)) (left cells (i - 1)) before after to
    cell_next some =
        let place : i - 1 + 1 ≡ i = omega arith in
        next (cell_text ++ decimal (get_or cells (i - 1) 0)) (ap (left cells) (sym place) ∙ left_next cells (i - 1)) w

    pub block_next : i ≡ 0 → Next text (block_text ++ decimal at) (10 ∷ []) before after to
    block_next z = next (block_text ++ decimal at) (ap (left cells) z ∙ left_last cells) w

pub line_end_next : {text before after : List ℕ} {to : ℕ} → Written text (10 ∷ []) before after to → Next text (10 ∷ []) [] before after to
line_end_next w = next (10 ∷ []) refl w
