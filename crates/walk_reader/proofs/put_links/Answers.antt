use mathlib.Core.Path.{◌≡◌, refl, sym, ap, ◌∙◌}
use mathlib.Core.List.{List, [], ◌∷◌, ◌++◌}
use Prim.Native.Nat.{ℕ, ◌<◌}
use native.Mathlib.Omega.{arith}
use lib.ListN.{length, take, length-set}
use lib.Seq.{take-length}
use Rattle.std.proofs.lemmas.List.{take_more, take_more_set}
use Rattle.walk_reader.specs.Reader.{links_in, links_found}
use Rattle.walk_reader.proofs.Links.{stand_start, link_stands, link_read}
use Rattle.walk_reader.proofs.put_links.Goals as goal

pub loop-cell-init : goal.loop-cell-init
loop-cell-init c = (stand_start c.args.text.now, refl, refl)

pub returns-in_default : goal.returns-in_default
returns-in_default c =
    let left : c.loop-cell.cell-index < length (links_found (links_in c.args.text.now)) = omega arith in
    absurd (link_stands left c.loop-cell.invariant.0 (sym c.in_default.ensures))

pub loop-cell-preserved : goal.loop-cell-preserved
loop-cell-preserved c =
    let cells : List ℕ = links_found (links_in c.args.text.now) in
    let i : ℕ = c.loop-cell.cell-index in
    let left : i < length cells = omega arith in
    let read = link_read left c.loop-cell.invariant.0 c.in-Some.value c.in-Some.after.now (sym c.in-Some.ensures) in (
      read.1,
      take_more_set c.loop-cell.cells i c.in-Some.value (omega arith) ∙ ap (λ (m : List ℕ). m ++ c.in-Some.value ∷ []) c.loop-cell.invariant.1
          ∙ ap (λ (v : ℕ). take i cells ++ v ∷ []) read.0 ∙ sym (take_more cells i 0 left),
      length-set c.loop-cell.cells i c.in-Some.value ∙ c.loop-cell.invariant.2,
    )

pub returns : goal.returns
returns c =
    let cells : List ℕ = links_found (links_in c.args.text.now) in
    let i : ℕ = c.loop-cell.cell-index in
    let whole : i ≡ length c.loop-cell.cells = omega arith in
    let all : i ≡ length cells = omega arith in
    sym (ap (λ (k : ℕ). take k c.loop-cell.cells) whole ∙ take-length c.loop-cell.cells) ∙ c.loop-cell.invariant.1
    ∙ ap (λ (k : ℕ). take k cells) all ∙ take-length cells
