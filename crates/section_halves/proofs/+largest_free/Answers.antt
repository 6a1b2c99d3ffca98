use native.Mathlib.Omega.{arith}
use Rattle.section_halves.proofs.Figures.{half_size, of_size, from_halves}
use Rattle.section_halves.proofs.+largest_free.Goals as goal

pub of_four_words-requires : goal.of_four_words-requires
of_four_words-requires t c = (c.requires.at_value.0 (omega arith), omega arith, omega arith)

pub returns-in-256 : goal.returns-in-256
returns-in-256 t c = of_size 8 c.args.a.now c.args.at c.args.size c.of_four_words.result c.in-256.is c.of_four_words.ensures

pub of_word-requires : goal.of_word-requires
of_word-requires t c = (c.requires.at_value.0 (omega arith), omega arith, omega arith)

pub returns-in-64 : goal.returns-in-64
returns-in-64 t c = of_size 6 c.args.a.now c.args.at c.args.size c.of_word.result c.in-64.is c.of_word.ensures

pub returns-in-1 : goal.returns-in-1
returns-in-1 t c = of_size 0 c.args.a.now c.args.at c.args.size c.of_block.result c.in-1.is c.of_block.ensures

pub largest_free-lower-requires : goal.largest_free-lower-requires
largest_free-lower-requires t c =
    let power = c.requires.by_index in
    let half = half_size c.args.size power.0 power.1 (omega arith) in (
      omega (arith, c.decreases, half.twice, half.some),
      ((half.exponent, half.power), ((λ l. c.requires.at_value.0 (omega arith)), omega (arith, half.twice), omega (arith, half.twice))),
    )

pub largest_free-upper-requires : goal.largest_free-upper-requires
largest_free-upper-requires t c =
    let power = c.requires.by_index in
    let half = half_size c.args.size power.0 power.1 (omega arith) in (
      omega (arith, c.decreases, half.twice, half.some),
      (
        (half.exponent, half.power),
        (
          (λ l. omega (arith, c.requires.at_value.0 (omega arith), half.bytes (omega arith))),
          omega (arith, half.twice),
          omega (arith, half.twice),
        ),
      ),
    )

pub returns-in_default : goal.returns-in_default
returns-in_default t c =
    let power = c.requires.by_index in
    from_halves c.args.a.now c.args.at c.args.size c.of_halves.result c.largest_free-lower.result c.largest_free-upper.result
    (half_size c.args.size power.0 power.1 (omega arith)) c.of_halves.ensures c.largest_free-lower.ensures
    c.largest_free-upper.ensures
