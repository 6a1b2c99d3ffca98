-- `step_list::relist` meets its contract.
use mathlib.Core.Path.{sym, ap, ◌∙◌}
use mathlib.Core.List.{List}
use Prim.Native.Nat.{ℕ, ◌/◌}
use lib.ListN.{get_or, take}
use Rattle.std.proofs.lemmas.Bool.Decides.{Decides-eqb}
use Rattle.std.proofs.lemmas.List.{get_or-take}
use Rattle.std.proofs.lemmas.Slice.Eq.{slice_eq-Decides}
use Rattle.step_list.proofs.Mixing.{relist_same, listed_marked, relist_mixed}
use borrow.Author.Rules.{rules}
use Rattle.step_list.proofs.relist.Goals as goal

pub returns-then-eq : goal.returns-then-eq
returns-then-eq c =
    let n : ℕ = c.args.blocks / 8 in
    let same = (slice_eq-Decides Decides-eqb (take n c.args.old.now) (take n c.args.marks.now) _ c.eq.ensures).0 c.if-eq.true in
    relist_same c.requires.5 c.args.marks.now c.requires.0
    (λ j l. sym (get_or-take n c.args.old.now j 0 l) ∙ ap (λ (map : List ℕ). get_or map j 0) same ∙ get_or-take n c.args.marks.now j 0 l)

pub mix-requires : goal.mix-requires
mix-requires c =
    (c.requires.0, c.requires.1, c.requires.2, c.requires.3, search rules, listed_marked c.requires.5 c.name_all.ensures)

pub returns : goal.returns
returns c =
    c.write_list.ensures
    ∙ relist_mixed c.args.blocks c.args.old.now c.args.marks.now c.args.list.now c.name_all.ensures c.mix.ensures
