-- What a piece came to is what the call on its records answered.
use native.Mathlib.Omega.{arith}
use Rattle.bitmap.specs.Bit.{Bytes}
use Rattle.report.proofs.Pieces.{as_accepting}
use Rattle.report.proofs.run.run_piece.Goals as goal

of-bytes-Then-ran-ne0 : (c : goal.Then-ran-ne0) → Bytes c.args.bytes.now
unfolding Bytes
of-bytes-Then-ran-ne0 c i = (c.type_inv.bytes i).fits

pub returns-then-ran-ne0 : goal.returns-then-ran-ne0
returns-then-ran-ne0 c = ((_, c.run_records-ran.ensures, c.if-ran-ne0.true), of-bytes-Then-ran-ne0 c)

of-bytes-Then-next-ne0 : (c : goal.Then-next-ne0) → Bytes c.args.bytes.now
unfolding Bytes
of-bytes-Then-next-ne0 c i = (c.type_inv.bytes i).fits

pub returns-then-next-ne0 : goal.returns-then-next-ne0
returns-then-next-ne0 c = (
  (as_accepting c.run_records-ran.ensures c.if-ran-ne0.false, λ e. absurd (c.if-next-ne0.true e)),
  of-bytes-Then-next-ne0 c,
)

of-bytes-Then-bytes-lt-PIECE : (c : goal.Then-bytes-lt-PIECE) → Bytes c.args.bytes.now
unfolding Bytes
of-bytes-Then-bytes-lt-PIECE c i = (c.type_inv.bytes i).fits

pub returns-then-bytes-lt-PIECE : goal.returns-then-bytes-lt-PIECE
returns-then-bytes-lt-PIECE c = (
  (as_accepting c.run_records-ran.ensures c.if-ran-ne0.false, λ _. c.if-bytes-lt-PIECE.true),
  of-bytes-Then-bytes-lt-PIECE c,
)

of-bytes-Else-bytes-lt-PIECE : (c : goal.Else-bytes-lt-PIECE) → Bytes c.args.bytes.now
unfolding Bytes
of-bytes-Else-bytes-lt-PIECE c i = (c.type_inv.bytes i).fits

pub returns : goal.returns
returns c = (
  (as_accepting c.run_records-ran.ensures c.if-ran-ne0.false, c.if-next-ne0.false, omega (arith, c.if-bytes-lt-PIECE.false)),
  of-bytes-Else-bytes-lt-PIECE c,
)
