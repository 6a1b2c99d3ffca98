-- `history_records::number_at` meets its contract.
use mathlib.Core.Path.{◌≡◌, ap}
use Prim.Native.Nat.{ℕ, ◌+◌}
use native.Mathlib.Omega.{arith}
use lib.ListN.{get_or}
use borrow.Author.Rules.{rules}
use Rattle.history_records.specs.Records.{number}
use Rattle.history_records.proofs.number_at.Goals as goal

pub returns : goal.returns
unfolding number
returns c =
    let byte : ℕ → ℕ = λ i. get_or c.args.bytes.now i 0 in
    let two : c.args.at + 1 + 1 ≡ c.args.at + 2 = omega arith in
    let three : c.args.at + 1 + 1 + 1 ≡ c.args.at + 3 = omega arith in (
      omega (arith, c.from_le_bytes.ensures, ap byte two, ap byte three),
      search rules,
    )
