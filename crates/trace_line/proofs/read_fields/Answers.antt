-- The fields that were read are those of the definition, from the first call to the last; after one that is not there the place stays nowhere.
use Rattle.std.proofs.Common.{arith}
use Rattle.text_reading.specs.Lemmas.Found.{gone, got, gone_place, got_place, somewhere_place}
use Rattle.trace_line.specs.Fields.{fields_of}
use Rattle.trace_line.specs.Lemmas.Machines.{none_fields, some_fields}
use Rattle.trace_line.specs.Lemmas.Lost.{after_cycles, after_space, after_counter, after_accumulator, after_x, after_y, after_stack, after_status}
use Rattle.trace_line.proofs.read_fields.Goals as goal

pub returns-in_err-cycles : goal.returns-in_err-cycles
unfolding fields_of
returns-in_err-cycles c =
    rw c.from_residual.ensures
    (none_fields _ (after_cycles c.args.text.now (omega arith) _ (gone _ c.in_err-cycles.ensures)))

pub returns-in_err-space : goal.returns-in_err-space
unfolding fields_of
returns-in_err-space c =
    rw c.from_residual-in_err-space.ensures
    (none_fields _ (rw (got _ c.in_ok-cycles.ensures) (after_space c.args.text.now (omega arith) _ (gone_place _ c.in_err-space.ensures))))

pub returns-in_err-counter : goal.returns-in_err-counter
unfolding fields_of
returns-in_err-counter c =
    rw c.from_residual-in_err-counter.ensures
    (none_fields _ (rw (got _ c.in_ok-cycles.ensures, got_place _ c.in_ok-space.ensures) (after_counter c.args.text.now (omega arith) _ (gone _ c.in_err-counter.ensures))))

pub returns-in_err-accumulator : goal.returns-in_err-accumulator
unfolding fields_of
returns-in_err-accumulator c =
    rw c.from_residual-in_err-accumulator.ensures
    (none_fields _ (rw (got _ c.in_ok-cycles.ensures, got_place _ c.in_ok-space.ensures, got _ c.in_ok-counter.ensures) (after_accumulator c.args.text.now (omega arith) _ (gone _ c.in_err-accumulator.ensures))))

pub returns-in_err-x : goal.returns-in_err-x
unfolding fields_of
returns-in_err-x c =
    rw c.from_residual-in_err-x.ensures
    (none_fields _ (rw (got _ c.in_ok-cycles.ensures, got_place _ c.in_ok-space.ensures, got _ c.in_ok-counter.ensures, got _ c.in_ok-accumulator.ensures) (after_x c.args.text.now (omega arith) _ (gone _ c.in_err-x.ensures))))

pub returns-in_err-y : goal.returns-in_err-y
unfolding fields_of
returns-in_err-y c =
    rw c.from_residual-in_err-y.ensures
    (none_fields _ (rw (got _ c.in_ok-cycles.ensures, got_place _ c.in_ok-space.ensures, got _ c.in_ok-counter.ensures, got _ c.in_ok-accumulator.ensures, got _ c.in_ok-x.ensures) (after_y c.args.text.now (omega arith) _ (gone _ c.in_err-y.ensures))))

pub returns-in_err-stack : goal.returns-in_err-stack
unfolding fields_of
returns-in_err-stack c =
    rw c.from_residual-in_err-stack.ensures
    (none_fields _ (rw (got _ c.in_ok-cycles.ensures, got_place _ c.in_ok-space.ensures, got _ c.in_ok-counter.ensures, got _ c.in_ok-accumulator.ensures, got _ c.in_ok-x.ensures, got _ c.in_ok-y.ensures) (after_stack c.args.text.now (omega arith) _ (gone _ c.in_err-stack.ensures))))

pub returns-in_err-status : goal.returns-in_err-status
unfolding fields_of
returns-in_err-status c =
    rw c.from_residual-in_err-status.ensures
    (none_fields _ (rw (got _ c.in_ok-cycles.ensures, got_place _ c.in_ok-space.ensures, got _ c.in_ok-counter.ensures, got _ c.in_ok-accumulator.ensures, got _ c.in_ok-x.ensures, got _ c.in_ok-y.ensures, got _ c.in_ok-stack.ensures) (after_status c.args.text.now (omega arith) _ (gone _ c.in_err-status.ensures))))

pub returns-in_err-next : goal.returns-in_err-next
unfolding fields_of
returns-in_err-next c =
    rw c.from_residual-in_err-next.ensures
    (none_fields _ (rw (got _ c.in_ok-cycles.ensures, got_place _ c.in_ok-space.ensures, got _ c.in_ok-counter.ensures, got _ c.in_ok-accumulator.ensures, got _ c.in_ok-x.ensures, got _ c.in_ok-y.ensures, got _ c.in_ok-stack.ensures, got _ c.in_ok-status.ensures) (gone_place _ c.in_err-next.ensures)))

pub returns : goal.returns
unfolding fields_of
returns c =
    rw (got _ c.in_ok-cycles.ensures, got_place _ c.in_ok-space.ensures, got _ c.in_ok-counter.ensures, got _ c.in_ok-accumulator.ensures, got _ c.in_ok-x.ensures, got _ c.in_ok-y.ensures, got _ c.in_ok-stack.ensures, got _ c.in_ok-status.ensures, got_place _ c.in_ok-next.ensures)
    (some_fields _ (λ z. somewhere_place _ c.in_ok-next.ensures (rw (got_place _ c.in_ok-next.ensures) z)))
