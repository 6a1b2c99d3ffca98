-- A part of a buffer, written as a slice of its own.
use mathlib.Core.Path.{◌≡◌, sym, ap, ◌∙◌}
use mathlib.Core.List.{List, ◌++◌, append_assoc}
use Prim.Native.Nat.{ℕ, ◌+◌}
use borrow.Rule.Slice.PartMut.{put_mid}
use lib.ListN.{length, take, drop}
use lib.Seq.{drop-drop}
use Rattle.text.specs.Text.{Put}

pub put_part : (before text : List ℕ) (at k : ℕ) → length text ≡ k → Put before at text (put_mid at k before text) (at + k)
put_part before text at k long = record {
  written = sym (append_assoc (take at before) text (drop k (drop at before)))
      ∙ ap (λ (l : List ℕ). take at before ++ text ++ l) (drop-drop k at before ∙ ap (λ (i : ℕ). drop (at + i) before) (sym long));
  end_is = ap (λ (i : ℕ). at + i) (sym long);
}
