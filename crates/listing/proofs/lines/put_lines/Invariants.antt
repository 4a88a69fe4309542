-- The lines that are left are those from the address on.
use Prim.Native.Nat.{◌≤◌, ◌-◌}
use Rattle.text_writing.specs.Lemmas.Writing.{Remains}
use Rattle.listing.specs.Lines.{lines, texts}
use Rattle.listing.proofs.lines.put_lines.Given as goal

abbrev pub invariant-loop-address : goal.invariant-loop-address
invariant-loop-address l = (l.address ≤ l.end)
    × Remains l.out (texts (lines l.memory l.address (l.end - l.address) 0)) l.fn.out (texts (lines l.memory l.first (l.end - l.first) 0))

abbrev pub decreases-loop-address : goal.decreases-loop-address
decreases-loop-address l = l.end - l.address
