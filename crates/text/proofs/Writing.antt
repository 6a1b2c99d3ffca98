-- Laws of texts written into a buffer, one behind the other.
use mathlib.Core.Path.{◌≡◌, refl, sym, ap, ◌∙◌}
use mathlib.Core.List.{List, [], ◌∷◌, ◌++◌, append_assoc}
use Prim.Native.Nat.{ℕ, ◌+◌, ◌≤◌, ◌<◌}
use native.Mathlib.Numerals.{add-one}
use native.Mathlib.Omega.{arith}
use lib.ListN.{length, set, take, drop, length-append, length-drop}
use lib.Seq.{take_at, drop_at, drop-drop, length-take-le, set_split, append_snoc, paste-zero}
use Rattle.text.specs.Text.{Put}

-- two texts, the second behind the first, are one
pub put_both :
    {before middle after s t : List ℕ} {at next end : ℕ} → at + length s ≤ length before
    → Put before at s middle next → Put middle next t after end → Put before at (s ++ t) after end
put_both {before} {middle} {after} {s} {t} {at} {next} {end} room first second =
    let head : length (take at before ++ s) ≡ next =
    length-append (take at before) s ∙ ap (λ (k : ℕ). k + length s) (length-take-le at before (omega arith)) ∙ sym first.end_is in
    let start : take next middle ≡ take at before ++ s =
    ap (take next) first.written ∙ take_at (take at before ++ s) (drop (at + length s) before) next head in
    let behind : at + length s + length t ≡ at + length (s ++ t) = omega (arith, length-append s t) in
    let rest : drop (next + length t) middle ≡ drop (at + length (s ++ t)) before =
    sym (drop-drop (length t) next middle)
    ∙ ap (λ (l : List ℕ). drop (length t) (drop next l)) first.written
    ∙ ap (drop (length t)) (drop_at (take at before ++ s) (drop (at + length s) before) next head)
    ∙ drop-drop (length t) (at + length s) before
    ∙ ap (λ (k : ℕ). drop k before) behind in
    record {
      written =
          second.written
          ∙ ap (λ (l : List ℕ). l ++ t ++ drop (next + length t) middle) start
          ∙ ap (λ (l : List ℕ). take at before ++ s ++ t ++ l) rest
          ∙ ap (λ (l : List ℕ). l ++ drop (at + length (s ++ t)) before) (append_assoc (take at before) s t);
      end_is = omega (arith, first.end_is, second.end_is, length-append s t);
    }

-- equal texts, equal ends
pub put_as : {before s t after : List ℕ} {at e f : ℕ} → s ≡ t → e ≡ f → Put before at s after e → Put before at t after f
put_as {before} {s} {t} {after} {at} same end put =
    record {
      written = put.written ∙ ap (λ (u : List ℕ). take at before ++ u ++ drop (at + length u) before) same;
      end_is = sym end ∙ put.end_is ∙ ap (λ (u : List ℕ). at + length u) same;
    }

-- the buffer keeps its length
pub put_length :
    {before text after : List ℕ} {at end : ℕ} → at + length text ≤ length before → Put before at text after end → length after ≡ length before
put_length {before} {text} {after} {at} {end} room put =
    ap length put.written
    ∙ omega (
      arith,
      length-append (take at before ++ text) (drop (at + length text) before),
      length-append (take at before) text,
      length-take-le at before (omega arith),
      length-drop (at + length text) before,
    )

-- ---- one byte, or number, behind the other

pub put_none : (before : List ℕ) (at : ℕ) → Put before at [] before (at + 0)
put_none before at = record { written = paste-zero before at []; end_is = refl }

pub put_one : (before : List ℕ) (at v : ℕ) → at < length before → Put before at (v ∷ []) (set before at v) (at + 1)
put_one before at v inside =
    record {
      written =
          set_split before at v inside ∙ ap (λ (k : ℕ). take at before ++ v ∷ drop k before) (sym (add-one at))
          ∙ sym (append_snoc (take at before) v (drop (at + 1) before));
      end_is = refl;
    }

pub put_more :
    {before text after : List ℕ} {at end : ℕ} (v : ℕ) → at + length text < length before → Put before at text after end
    → Put before at (text ++ (v ∷ [])) (set after end v) (end + 1)
put_more {before} {text} {after} {at} {end} v room put =
    let same = put_length {before = before} {text = text} {after = after} {at = at} {end = end} (omega arith) put in
    put_both (omega arith) put (put_one after end v (omega (arith, same, put.end_is)))
