-- A record's sum by its parts, for those who write it.
use Rattle.std.specs.Prelude.{ℕ, ◌+◌, ◌/◌, ◌%◌, ◌≡◌, List, length}
use Rattle.std.proofs.Common.{arith}
use Rattle.tape_records.specs.Records.{total}
use Rattle.tape_paper.specs.Grammar.{sum_of}

-- the sum that begins with the count and the address
pub head_sum : (w : ℕ) (bs : List ℕ) {n s : ℕ} → n ≡ length bs → s ≡ (n + w / 256 + w % 256 + total bs) % 65536 → s ≡ sum_of w bs
head_sum w bs {n} {s} e f = omega arith
