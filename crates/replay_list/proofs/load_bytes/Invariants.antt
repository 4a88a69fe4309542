-- The loop's invariant: what the whole list gives is what the cells that are left give from here.
use Rattle.std.proofs.Common.{◌≡◌, ◌-◌, length}
use Rattle.replay_list.specs.Lines.{loaded_from, most_cells}
use Rattle.replay_list.proofs.load_bytes.Given as goal

abbrev pub invariant-loop : goal.invariant-loop
invariant-loop l =
    (length l.memory ≡ length l.initial.memory)
    × (loaded_from most_cells l.text l.at l.initial.memory ≡ loaded_from (64 - l.counter) l.text l.next l.memory)
