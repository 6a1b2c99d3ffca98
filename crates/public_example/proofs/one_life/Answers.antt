-- `public_example::one_life` meets its contract: the promises of its calls are a chain behind an accepted format.
use Rattle.public_example.proofs.Lives.{life}
use Rattle.public_example.proofs.one_life.Goals as goal

pub returns-then-number-ne0 : goal.returns-then-number-ne0
returns-then-number-ne0 c = record { refused = λ _. c.format-formatting.ensures; lived = λ e. absurd (c.if-number-ne0.true e) }

pub returns : goal.returns
returns c =
    record {
      refused = λ n. absurd (n c.if-number-ne0.false);
      lived = λ e.
          life c.format-formatting.ensures e c.allocate.ensures c.open_collection.ensures
          c.store_root.ensures c.step_collection.ensures;
    }
