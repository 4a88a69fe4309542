-- The loop's invariant: the sum with the bytes so far.
use Rattle.std.proofs.Common.{◌≡◌, ◌+◌, ◌%◌, take}
use Rattle.tape_records.specs.Records.{total}
use Rattle.tape_punching.proofs.sum_bytes.Given as goal

abbrev pub invariant-loop-byte : goal.invariant-loop-byte
invariant-loop-byte l = l.value ≡ (l.sum + total (take l.byte-index l.bytes)) % 65536
