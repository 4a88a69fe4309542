-- The loop's invariant: what the whole sum is, is what the bytes that are left make of it.
use Rattle.std.proofs.Common.{◌≡◌, ◌+◌, ◌-◌, ◌*◌, ◌<◌, drop}
use Rattle.tape_records.specs.Records.{bytes_of}
use Rattle.tape_records.specs.Inner.Reading.{summed}
use Rattle.tape_records.proofs.read_sum.Given as goal

abbrev pub invariant-loop : goal.invariant-loop
invariant-loop l = (l.next ≡ 1 + 2 * l.counter) × (l.value < 65536)
    × (summed 0 1 (bytes_of l.count (drop 1 l.text)) ≡ summed l.value l.next (bytes_of (l.count - l.counter) (drop l.next l.text)))
