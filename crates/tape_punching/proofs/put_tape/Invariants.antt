-- The loop's invariant: the records that are left are still to be written. Before the last one each had 24 bytes.
use Rattle.std.proofs.Common.{◌≡◌, ◌+◌, ◌*◌, ◌<◌, ◌≤◌, length}
use Rattle.std.specs.Slice.Iter.{chunks_rest, chunks_size}
use Rattle.tape_records.specs.Lemmas.Writing.{Left}
use Rattle.tape_paper.specs.Grammar.{tape_text}
use Rattle.tape_punching.specs.Punching.{cut}
use Rattle.tape_punching.proofs.put_tape.Given as goal

abbrev pub invariant-loop-record : goal.invariant-loop-record
invariant-loop-record l =
    let rest = chunks_rest l.record-iterator in
    (goal.iterator-loop-record).can_next l.record-iterator
    × (goal.iterator-loop-record).is_finite l.record-iterator
    × (chunks_size l.record-iterator ≡ 24)
    × (l.address + length rest ≤ 65536)
    × (24 * l.records ≤ l.address + 23)
    × (0 < length rest → 24 * l.records ≤ l.address)
    × Left l.out (tape_text l.records (cut l.address 0 rest)) l.initial.out (tape_text 0 (cut l.first 0 l.stretch))
