-- Lines that are read, and lines that are malformed.
use Rattle.std.specs.Prelude.{ℕ, ◌≡◌, refl, true, List, [], ◌∷◌, map, Some, None}
use Rattle.registers.specs.State.{registers_of}
use Rattle.registers.specs.StatusByte.{status_byte, pulled_status}
use Rattle.manual.specs.declared.Machine.{Machine}
use Rattle.manual.specs.Outcomes.{machine_of}
use Rattle.text_reading.specs.Numbers.{digit_value, digit_at, byte_at, word_at, count_from, count_at, mark_at}
use Rattle.laws.specs.Characters.{characters}
use Rattle.trace_line.specs.Fields.{cycles_of, field_at, fields_of, state_of, spelled_by, line_of}

-- cycles, counter, A, X, Y, S and the status byte
state : ℕ → ℕ → ℕ → ℕ → ℕ → ℕ → ℕ → Machine
state cycles counter a x y s p = machine_of (registers_of a x y s counter (pulled_status p)) cycles true

-- document 01's example of a report, and the highest count; what follows a line does not matter
good_lines : map line_of (characters "2 0202 05 00 00 FF 34\n" ∷ characters "18446744073709551615 FFFF 00 01 02 7D FF\nx" ∷ characters "0 0000 00 00 00 00 30\n\n" ∷ [])
    ≡ Some (record { machine = state 2 0x0202 0x05 0x00 0x00 0xFF 0x34; next = 22 })
    ∷ Some (record { machine = state 18446744073709551615 0xFFFF 0x00 0x01 0x02 0x7D 0xFF; next = 41 })
    ∷ Some (record { machine = state 0 0x0000 0x00 0x00 0x00 0x00 0x30; next = 22 })
    ∷ []
unfolding state status_byte pulled_status digit_value digit_at byte_at word_at count_from count_at mark_at cycles_of field_at fields_of state_of spelled_by line_of
good_lines = refl

abbrev bad : List (List ℕ)
bad =
    characters ""
    ∷ characters "\n"
    ∷ characters "2 0202 05 00 00 FF 34"
    ∷ characters "2 0202 05 00 00 FF 34\r\n"
    ∷ characters "2 0202 05 00 00 FF 34 \n"
    ∷ characters " 2 0202 05 00 00 FF 34\n"
    ∷ characters "02 0202 05 00 00 FF 34\n"
    ∷ characters "00 0202 05 00 00 FF 34\n"
    ∷ characters "2  0202 05 00 00 FF 34\n"
    ∷ characters "2 202 05 00 00 FF 34\n"
    ∷ characters "2 0202 05 00 00 ff 34\n"
    ∷ characters "2 0202 05 00 00 FF 24\n"
    ∷ characters "2 0202 05 00 00 FF 14\n"
    ∷ characters "18446744073709551616 0202 05 00 00 FF 34\n"
    ∷ characters "100000000000000000000 0202 05 00 00 FF 34\n"
    ∷ []

bad_lines : map line_of bad ≡ map (λ (s : List ℕ). None) bad
unfolding state status_byte pulled_status digit_value digit_at byte_at word_at count_from count_at mark_at cycles_of field_at fields_of state_of spelled_by line_of
bad_lines = refl
