-- `check_counts::tallies` meets its contract: a word whose digits are those of eight bytes has these bytes.
use Rattle.std.proofs.Common.{◌*◌}
use Rattle.check_counts.proofs.Packs.{word_of_bytes}
use Rattle.check_counts.proofs.tallies.Goals as goal

pub returns : goal.returns
returns c = word_of_bytes c.args.at.now (8 * c.args.k) c.eight_bytes.result c.type_inv.at c.eight_bytes.ensures
