-- `walk_reader::sentence_in` meets its contract.
use mathlib.Core.Path.{refl, sym, ap}
use native.Mathlib.Omega.{arith}
use mathlib.Core.List.{List, ◌++◌}
use lib.ListN.{drop, length-take}
use Prim.Native.Nat.{ℕ}
use Rattle.std.proofs.Common.{Option}
use Rattle.std.specs.Option.{unwrap_or}
use Rattle.rules_output.specs.Sentence.{root_text, no_root_text}
use Rattle.walk_reader.specs.declared.Reading.{Reading}
use Rattle.walk_reader.specs.Reader.{reading}
use Rattle.walk_reader.proofs.Laws.{not_behind, is_behind}
use Rattle.walk_reader.proofs.Told.{no_line_end, no_root, no_words, no_number, no_rest, no_room, all_told, cells_count}
use Rattle.walk_reader.proofs.sentence_in.Goals as goal

pub returns-in_err-block : goal.returns-in_err-block
returns-in_err-block c =
    let m = c.in-Some.ensures.cases in
    no_line_end c.args.text.now c.args.cells.now _ (is_behind no_root_text c.args.text.now m.0 m.1) (sym c.in_err-block.ensures)
    (ap (λ (r : Option Reading). unwrap_or r (reading 0 0 0 0)) c.from_residual.ensures)

pub returns-in-Some : goal.returns-in-Some
returns-in-Some c =
    let m = c.in-Some.ensures.cases in
    no_root c.args.text.now c.args.cells.now _ (is_behind no_root_text c.args.text.now m.0 m.1) (sym c.in_ok-block.ensures) refl

pub returns-in_err-strip_prefix : goal.returns-in_err-strip_prefix
returns-in_err-strip_prefix c =
    no_words c.args.text.now c.args.cells.now _ (not_behind no_root_text c.args.text.now c.in_default.ensures.cases)
    (not_behind root_text c.args.text.now c.in_err-strip_prefix.ensures.cases)
    (ap (λ (r : Option Reading). unwrap_or r (reading 0 0 0 0)) c.from_residual-in_err-strip_prefix.ensures)

pub returns-in_err-root : goal.returns-in_err-root
returns-in_err-root c =
    let m = c.in_ok-strip_prefix.ensures.cases in
    no_number c.args.text.now c.args.cells.now _ (not_behind no_root_text c.args.text.now c.in_default.ensures.cases)
    (is_behind root_text c.args.text.now m.0 m.1) (sym c.in_err-root.ensures)
    (ap (λ (r : Option Reading). unwrap_or r (reading 0 0 0 0)) c.from_residual-in_err-root.ensures)

pub returns-in_err-links : goal.returns-in_err-links
returns-in_err-links c =
    let m = c.in_ok-strip_prefix.ensures.cases in
    no_rest c.args.text.now c.args.cells.now _ (not_behind no_root_text c.args.text.now c.in_default.ensures.cases)
    (is_behind root_text c.args.text.now m.0 m.1) (sym c.in_ok-root.ensures) (sym c.in_err-links.ensures)
    (ap (λ (r : Option Reading). unwrap_or r (reading 0 0 0 0)) c.from_residual-in_err-links.ensures)

pub returns-then-cells-links : goal.returns-then-cells-links
returns-then-cells-links c =
    let m = c.in_ok-strip_prefix.ensures.cases in
    no_room c.args.text.now c.args.cells.now _ (not_behind no_root_text c.args.text.now c.in_default.ensures.cases)
    (is_behind root_text c.args.text.now m.0 m.1) (sym c.in_ok-root.ensures) (sym c.in_ok-links.ensures) c.if-cells-links.true refl

pub put_links-requires : goal.put_links-requires
put_links-requires c =
    omega (arith, cells_count c.in_ok-root.rest.now (sym c.in_ok-links.ensures), length-take c.in_ok-links.links c.args.cells.now, c.if-cells-links.false)

pub returns : goal.returns
returns c =
    let m = c.in_ok-strip_prefix.ensures.cases in
    all_told c.args.text.now c.args.cells.now _ (not_behind no_root_text c.args.text.now c.in_default.ensures.cases)
    (is_behind root_text c.args.text.now m.0 m.1) (sym c.in_ok-root.ensures) (sym c.in_ok-links.ensures) _ c.if-cells-links.false
    (ap (λ (l : List ℕ). l ++ drop c.in_ok-links.links c.args.cells.now) c.put_links.ensures) refl
