-- `history_records::fields_at` meets its contract: each field is read from its bytes.
use Rattle.history_records.specs.Records.{fields_at}
use Rattle.history_records.proofs.fields_at.Goals as goal

pub returns : goal.returns
unfolding fields_at
returns c = (rw (c.number_at.ensures.0, c.number_at-2.ensures.0, fields_at), c.number_at-2.ensures.1)
