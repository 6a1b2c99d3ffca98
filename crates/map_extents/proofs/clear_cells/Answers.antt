-- `clear_cells` meets its contract: a run that is filled with 0.
use Rattle.std.proofs.Common.{◌≡◌, ℕ, zero, suc, ◌+◌, ◌-◌, ◌≤◌, List, length, replicate, take, drop, set, sym, ap, ◌∙◌, add-one, arith}
use Rattle.std.proofs.lemmas.List.{length-replicate}
use Rattle.std.proofs.lemmas.List.Edits.{paste_none, fill_from_more}
use Rattle.std.proofs.lemmas.Slice.{put_mid-paste}
use Rattle.std.proofs.lemmas.Grind.{common_steps}
use lib.Seq.{paste}
use Rattle.rules_stores.specs.Store.{clear_cells}
use Rattle.map_extents.proofs.clear_cells.Goals as goal

filled : (cells : List ℕ) (j n : ℕ) → j + n ≤ length cells → paste cells j (replicate n 0) n ≡ clear_cells cells j n
unfolding clear_cells
filled cells j zero l = sym (paste_none cells j (replicate 0 0))
filled cells j (suc n) l =
    ap (λ (k : ℕ). paste cells j (replicate k 0) k) (sym (add-one n))
    ∙ sym (fill_from_more cells j n 0 (omega arith))
    ∙ ap (λ (x : List ℕ). set x (j + n) 0) (filled cells j n (omega arith))

pub returns : goal.returns
returns c =
    let all : length (take (c.args.j + c.args.n - c.args.j) (drop c.args.j c.args.cells.now)) ≡ c.args.n = grind (arith, common_steps) in
    let zeros : c.fill.new.self ≡ replicate c.args.n 0 = c.fill.ensures.after (λ y e. e) ∙ ap (λ (k : ℕ). replicate k 0) all in
    put_mid-paste c.args.j (c.args.j + c.args.n - c.args.j) c.args.cells.now c.fill.new.self (replicate c.args.n 0) c.args.n zeros (omega arith) (sym (length-replicate c.args.n 0))
    ∙ filled c.args.cells.now c.args.j c.args.n c.requires
