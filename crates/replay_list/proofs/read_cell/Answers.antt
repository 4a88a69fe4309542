-- A byte, a mark and an address, as in the definition.
use Rattle.std.proofs.Common.{arith}
use Rattle.text_reading.specs.Lemmas.Found.{gone, got, gone_place, got_place, somewhere}
use Rattle.replay_list.specs.Lines.{cell_at}
use Rattle.replay_list.specs.Lemmas.Lost.{none_cell, some_cell, after_byte, after_mark}
use Rattle.replay_list.proofs.read_cell.Goals as goal

pub returns-in_err-byte : goal.returns-in_err-byte
unfolding cell_at
returns-in_err-byte c =
    rw c.from_residual.ensures
    (none_cell _ (after_byte c.args.text.now (omega arith) _ (gone _ c.in_err-byte.ensures)))

pub returns-in_err-read_mark : goal.returns-in_err-read_mark
unfolding cell_at
returns-in_err-read_mark c =
    rw c.from_residual-in_err-read_mark.ensures
    (none_cell _ (rw (got _ c.in_ok-byte.ensures) (after_mark c.args.text.now (omega arith) _ (gone_place _ c.in_err-read_mark.ensures))))

pub returns-in_err-address : goal.returns-in_err-address
unfolding cell_at
returns-in_err-address c =
    rw c.from_residual-in_err-address.ensures
    (none_cell _ (rw (got _ c.in_ok-byte.ensures, got_place _ c.in_ok-read_mark.ensures) (gone _ c.in_err-address.ensures)))

pub returns : goal.returns
unfolding cell_at
returns c =
    rw (got _ c.in_ok-byte.ensures, got_place _ c.in_ok-read_mark.ensures, got _ c.in_ok-address.ensures)
    (some_cell _ (λ z. somewhere _ c.in_ok-address.ensures (rw (got _ c.in_ok-address.ensures) z)))
