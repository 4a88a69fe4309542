-- The fields that were read are those of the definition, from the first call to the last; after one that is not there the place stays nowhere.
use Rattle.std.proofs.Common.{arith}
use Rattle.text_reading.specs.Lemmas.Found.{gone, got, gone_place, got_place, somewhere}
use Rattle.replay_list.specs.Lines.{state_at}
use Rattle.replay_list.specs.Lemmas.Lost.{none_state, some_state, after_number, after_levels, after_space, after_counter, after_accumulator, after_x, after_y, after_stack, after_status, after_last_space}
use Rattle.replay_list.proofs.read_state.Goals as goal

pub returns-in_err-number : goal.returns-in_err-number
unfolding state_at
returns-in_err-number c =
    rw c.from_residual.ensures
    (none_state _ (after_number c.args.text.now (omega arith) _ (gone _ c.in_err-number.ensures)))

pub returns-in_err-levels : goal.returns-in_err-levels
unfolding state_at
returns-in_err-levels c =
    rw c.from_residual-in_err-levels.ensures
    (none_state _ (rw (got _ c.in_ok-number.ensures) (after_levels c.args.text.now (omega arith) _ (gone _ c.in_err-levels.ensures))))

pub returns-in_err-read_mark : goal.returns-in_err-read_mark
unfolding state_at
returns-in_err-read_mark c =
    rw c.from_residual-in_err-read_mark.ensures
    (none_state _ (rw (got _ c.in_ok-number.ensures, got _ c.in_ok-levels.ensures) (after_space c.args.text.now (omega arith) _ (gone_place _ c.in_err-read_mark.ensures))))

pub returns-in_err-counter : goal.returns-in_err-counter
unfolding state_at
returns-in_err-counter c =
    rw c.from_residual-in_err-counter.ensures
    (none_state _ (rw (got _ c.in_ok-number.ensures, got _ c.in_ok-levels.ensures, got_place _ c.in_ok-read_mark.ensures) (after_counter c.args.text.now (omega arith) _ (gone _ c.in_err-counter.ensures))))

pub returns-in_err-accumulator : goal.returns-in_err-accumulator
unfolding state_at
returns-in_err-accumulator c =
    rw c.from_residual-in_err-accumulator.ensures
    (none_state _ (rw (got _ c.in_ok-number.ensures, got _ c.in_ok-levels.ensures, got_place _ c.in_ok-read_mark.ensures, got _ c.in_ok-counter.ensures) (after_accumulator c.args.text.now (omega arith) _ (gone _ c.in_err-accumulator.ensures))))

pub returns-in_err-x : goal.returns-in_err-x
unfolding state_at
returns-in_err-x c =
    rw c.from_residual-in_err-x.ensures
    (none_state _ (rw (got _ c.in_ok-number.ensures, got _ c.in_ok-levels.ensures, got_place _ c.in_ok-read_mark.ensures, got _ c.in_ok-counter.ensures, got _ c.in_ok-accumulator.ensures) (after_x c.args.text.now (omega arith) _ (gone _ c.in_err-x.ensures))))

pub returns-in_err-y : goal.returns-in_err-y
unfolding state_at
returns-in_err-y c =
    rw c.from_residual-in_err-y.ensures
    (none_state _ (rw (got _ c.in_ok-number.ensures, got _ c.in_ok-levels.ensures, got_place _ c.in_ok-read_mark.ensures, got _ c.in_ok-counter.ensures, got _ c.in_ok-accumulator.ensures, got _ c.in_ok-x.ensures) (after_y c.args.text.now (omega arith) _ (gone _ c.in_err-y.ensures))))

pub returns-in_err-stack : goal.returns-in_err-stack
unfolding state_at
returns-in_err-stack c =
    rw c.from_residual-in_err-stack.ensures
    (none_state _ (rw (got _ c.in_ok-number.ensures, got _ c.in_ok-levels.ensures, got_place _ c.in_ok-read_mark.ensures, got _ c.in_ok-counter.ensures, got _ c.in_ok-accumulator.ensures, got _ c.in_ok-x.ensures, got _ c.in_ok-y.ensures) (after_stack c.args.text.now (omega arith) _ (gone _ c.in_err-stack.ensures))))

pub returns-in_err-status : goal.returns-in_err-status
unfolding state_at
returns-in_err-status c =
    rw c.from_residual-in_err-status.ensures
    (none_state _ (rw (got _ c.in_ok-number.ensures, got _ c.in_ok-levels.ensures, got_place _ c.in_ok-read_mark.ensures, got _ c.in_ok-counter.ensures, got _ c.in_ok-accumulator.ensures, got _ c.in_ok-x.ensures, got _ c.in_ok-y.ensures, got _ c.in_ok-stack.ensures) (after_status c.args.text.now (omega arith) _ (gone _ c.in_err-status.ensures))))

pub returns-in_err-read_mark-2 : goal.returns-in_err-read_mark-2
unfolding state_at
returns-in_err-read_mark-2 c =
    rw c.from_residual-in_err-read_mark-2.ensures
    (none_state _ (rw (got _ c.in_ok-number.ensures, got _ c.in_ok-levels.ensures, got_place _ c.in_ok-read_mark.ensures, got _ c.in_ok-counter.ensures, got _ c.in_ok-accumulator.ensures, got _ c.in_ok-x.ensures, got _ c.in_ok-y.ensures, got _ c.in_ok-stack.ensures, got _ c.in_ok-status.ensures) (after_last_space c.args.text.now (omega arith) _ (gone_place _ c.in_err-read_mark-2.ensures))))

pub returns-in_err-cycles : goal.returns-in_err-cycles
unfolding state_at
returns-in_err-cycles c =
    rw c.from_residual-in_err-cycles.ensures
    (none_state _ (rw (got _ c.in_ok-number.ensures, got _ c.in_ok-levels.ensures, got_place _ c.in_ok-read_mark.ensures, got _ c.in_ok-counter.ensures, got _ c.in_ok-accumulator.ensures, got _ c.in_ok-x.ensures, got _ c.in_ok-y.ensures, got _ c.in_ok-stack.ensures, got _ c.in_ok-status.ensures, got_place _ c.in_ok-read_mark-2.ensures) (gone _ c.in_err-cycles.ensures)))

pub returns : goal.returns
unfolding state_at
returns c =
    rw (got _ c.in_ok-number.ensures, got _ c.in_ok-levels.ensures, got_place _ c.in_ok-read_mark.ensures, got _ c.in_ok-counter.ensures, got _ c.in_ok-accumulator.ensures, got _ c.in_ok-x.ensures, got _ c.in_ok-y.ensures, got _ c.in_ok-stack.ensures, got _ c.in_ok-status.ensures, got_place _ c.in_ok-read_mark-2.ensures, got _ c.in_ok-cycles.ensures)
    (some_state _ (λ z. somewhere _ c.in_ok-cycles.ensures (rw (got _ c.in_ok-cycles.ensures) z)))
