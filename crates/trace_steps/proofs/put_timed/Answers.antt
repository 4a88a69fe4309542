-- The instruction stands in a buffer of its own until the step is made.
use Rattle.std.proofs.Common.{◌≡◌, length, ap, sym, ◌∙◌, arith, rules, length-take-le}
use Rattle.manual.proofs.Lemmas.StepLaws.{step_whole}
use Rattle.trace_text.specs.declared.View.TheVariants.{Steps}
use Rattle.trace_steps.specs.Lemmas.Traces.{not_back, shown_as, in_buffer, inside_buffer}
use Rattle.trace_steps.proofs.put_timed.Goals as goal

pub returns-then-not-is_made-clause-gives : goal.returns-then-not-is_made-clause-gives
returns-then-not-is_made-clause-gives c =
    let full : length c.args.memory.now ≡ 65536 = omega arith in
    rw c.idle.ensures at (rw (step_whole _ _ _ full) at c.single_step-stepped.ensures)

pub slice_bounds-instruction-end : goal.slice_bounds-instruction-end
slice_bounds-instruction-end c =
    inside_buffer c.args.memory.now c.args.machine.registers.counter (ap length c.new-listed.ensures.same_bytes) c.new-listed.ensures.begins c.put_instruction.ensures c.place-size.ensures (search rules)

pub slice_bounds-instruction-end-2 : goal.slice_bounds-instruction-end-2
slice_bounds-instruction-end-2 c =
    sym (length-take-le _ _ (inside_buffer c.args.memory.now c.args.machine.registers.counter (ap length c.new-listed.ensures.same_bytes) c.new-listed.ensures.begins c.put_instruction.ensures c.place-size.ensures (search rules)))

pub overflow_sub-cycles : goal.overflow_sub-cycles
overflow_sub-cycles c =
    let full : length c.args.memory.now ≡ 65536 = omega arith in
    not_back _ _ (rw c.idle.ensures at (rw (step_whole _ _ _ full) at c.single_step-stepped.ensures))

pub returns-clause-gives : goal.returns-clause-gives
returns-clause-gives c =
    let full : length c.args.memory.now ≡ 65536 = omega arith in
    rw c.idle.ensures at (rw (step_whole _ _ _ full) at c.single_step-stepped.ensures)

pub returns-clause-wrote : goal.returns-clause-wrote
returns-clause-wrote c =
    shown_as Steps c.args.memory.now c.args.machine c.single_step-stepped.result c.put_entry.ensures.wrote
    (sym c.is_made.ensures ∙ c.if-not-is_made.false)
    (in_buffer c.args.memory.now c.args.machine.registers.counter (ap length c.new-listed.ensures.same_bytes) c.new-listed.ensures.begins c.put_instruction.ensures c.place-size.ensures (search rules))
