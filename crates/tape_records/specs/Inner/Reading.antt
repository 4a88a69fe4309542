-- What the code reads, in the definition's terms.
use Rattle.std.specs.Prelude.{ℕ, zero, suc, ◌+◌, ◌*◌, ◌%◌, List, [], ◌∷◌, length, Option as Told, None, Some}
use Rattle.std.proofs.Math.Option.{Option, none, some}
use Rattle.text_reading.specs.Numbers.{nowhere, byte_at}
use Rattle.text_reading.specs.declared.Reading.{Reading}
use Rattle.tape_records.specs.declared.Parts.{Parts}
use Rattle.tape_records.specs.Records.{total, count, address, sum, last}

-- the sum after some more bytes, and the place after them
abbrev pub summed : ℕ → ℕ → Option (List ℕ) → Reading ℕ
summed value next none = record { value = 0; next = nowhere }
summed value next (some bs) = record { value = (value + total bs) % 65536; next = next + 2 * length bs }

abbrev pub parts_of : List ℕ → Parts
parts_of bs = record { head = record { address = address bs; count = count bs }; sum = sum bs; last = last bs }

abbrev pub found : Option (List ℕ) → Told Parts
found none = None
found (some bs) = Some (parts_of bs)

-- the bytes that stand from a place on, whatever they are
abbrev pub values_at : ℕ → List ℕ → ℕ → List ℕ
values_at zero s at = []
values_at (suc n) s at = (byte_at s at).value ∷ values_at n s (at + 2)
