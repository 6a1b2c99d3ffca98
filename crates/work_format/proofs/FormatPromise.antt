-- The promise of a format, from what its parts did: refused for its shape, or every buffer filled and the list of sections true.
use mathlib.Core.Path.{◌≡◌, refl, ap, ◌∙◌}
use mathlib.Core.Bool.{true, false, not}
use mathlib.Core.List.{List}
use Prim.Native.Nat.{ℕ, ◌/◌}
use native.Mathlib.Omega.{arith}
use lib.ListN.{length, replicate}
use Rattle.rules.specs.Heap.{Memory, lent_memory, shaped}
use Rattle.rules.specs.Sections.{figures}
use Rattle.rules_stores.specs.Store.{formatted}
use Rattle.rules_calls.specs.Calls.{format, reply, accepted, refusals, refused_with, outcome}
use Rattle.rules_calls.specs.Promise.{Promise}
use Rattle.types.specs.declared.Reply.{Reply}
use Rattle.rules.proofs.Tests.{first_found}
use Rattle.rules_calls.proofs.Replies.{refused_with_lem, format_accepted}
use Rattle.rules.proofs.Shape.{shape_facts}
use Rattle.rules_calls.proofs.Promised.{promised}

module _ {N w : ℕ} {h : Memory} where
  pub format_refused : {x : Reply} → shaped N w h ≡ false → x ≡ reply 1 0 0 → Promise N w format h x h
  unfolding refused_with refusals
  format_refused {x} fails x_is =
      promised N w h format (reply 1 0 0, h) (refused_with_lem N w h format 1 (omega arith) (first_found 1 (not (shaped N w h)) _ (ap not fails))) x h x_is refl

  pub format_done :
      shaped N w h ≡ true → {x : Reply} → x ≡ reply 0 0 0 → {a b counts cells roots waiting sections d marks list : List ℕ}
      → a ≡ replicate (length h.a) 0 → b ≡ replicate (length h.b) 255 → counts ≡ replicate (length h.counts) 0
      → cells ≡ replicate (length h.cells) 0 → roots ≡ replicate (length h.roots) 0 → waiting ≡ replicate (length h.waiting) 0
      → sections ≡ figures N (replicate (N / 8) 0) → d ≡ replicate (length h.d) 0
      → marks ≡ replicate (length h.marks) 0 → list ≡ replicate (length h.list) 0
      → Promise N w format h x (lent_memory a b counts cells roots waiting sections d marks list)
  unfolding outcome formatted
  format_done fits {x} x_is a-is b-is counts_are cells_are roots_are waiting-is sections-are d-is marks_are list_is =
      let lengths = shape_facts N w h fits in
      promised N w h format (accepted (formatted N w (length h.roots)) 0) (format_accepted N w h fits) x _ x_is
      (λ i.
      record {
        a = (a-is ∙ ap (λ (n : ℕ). replicate n 0) lengths.length_a) i;
        b = (b-is ∙ ap (λ (n : ℕ). replicate n 255) lengths.length_b) i;
        counts = (counts_are ∙ ap (λ (n : ℕ). replicate n 0) lengths.length_counts) i;
        cells = (cells_are ∙ ap (λ (n : ℕ). replicate n 0) lengths.length_cells) i;
        roots = roots_are i;
        waiting = (waiting-is ∙ ap (λ (n : ℕ). replicate n 0) lengths.length_waiting) i;
        sections = sections-are i;
        d = (d-is ∙ ap (λ (n : ℕ). replicate n 0) lengths.length_d) i;
        marks = (marks_are ∙ ap (λ (n : ℕ). replicate n 0) lengths.length_marks) i;
        list = (list_is ∙ ap (λ (n : ℕ). replicate n 0) lengths.length_list) i;
      })
