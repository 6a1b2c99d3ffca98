-- `section_figure` meets its contract: a section is whole bytes of the map.
use native.Mathlib.Omega.{arith}
use Rattle.section_figures.proofs.SectionPlaces.{place, figure_of}
use Rattle.section_figures.proofs.section_figure.Goals as goal

pub overflow_mul-s : goal.overflow_mul-s
overflow_mul-s c =
    let at = place c.args.blocks c.args.s c.section_length-size.result c.requires.0 c.requires.2 c.section_length-size.ensures in
    omega (arith, at.inside, at.few)

pub largest_free-requires : goal.largest_free-requires
largest_free-requires c =
    let at = place c.args.blocks c.args.s c.section_length-size.result c.requires.0 c.requires.2 c.section_length-size.ensures in
    record { by_index = at.power; at_value = ((λ l. at.from_byte), omega (arith, at.inside), omega (arith, at.inside, at.few)) }

pub returns : goal.returns
returns c =
    let size = c.section_length-size in
    figure_of c.args.blocks c.args.a.now c.args.s size.result c.largest_free.result c.requires.0 size.ensures
    c.largest_free.ensures
