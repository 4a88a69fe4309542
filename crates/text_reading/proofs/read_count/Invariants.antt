-- The loop's invariant: what the whole number is read as is what the digits that are left give from here.
use Rattle.std.proofs.Common.{◌≡◌, ◌-◌}
use Rattle.text_reading.specs.Numbers.{nowhere, count_at, count_from}
use Rattle.text_reading.proofs.read_count.Given as goal

abbrev pub invariant-loop : goal.invariant-loop
invariant-loop l = (count_at l.text l.at ≡ count_from (20 - l.counter) l.text l.next l.value) × (l.next ≡ nowhere → ⊥)
