-- Torn tapes, by computation: the records kept, how many are dropped, and where the first of these begins.
use Rattle.std.specs.Prelude.{◌≡◌, refl, List, [], ◌∷◌}
use Rattle.laws.specs.Characters.{characters}
use Rattle.text_reading.specs.Numbers.{digit_value}
use Rattle.tape_records.specs.Records.{record_of}
use Rattle.tape_records.specs.Contents.{Stretch}
use Rattle.tape_rescuing.specs.Rescuing.{saved}

-- the record of the byte A9 at 0200, which is `;010200A900AC`
abbrev one : List Stretch
one = record { first = 0x0200; bytes = 0xA9 ∷ [] } ∷ []

-- nothing at all; two end records, with any number; noise round a record; a `;` inside a torn record; marks alone before a good one;
-- a record cut short, one with a wrong sum, and one past FFFF
pub torn_tapes :
    (saved 0 (characters "") ≡ record { records = []; dropped = 0; first = 0 })
    × (saved 0 (characters ";0000000000;0012340046") ≡ record { records = []; dropped = 0; first = 22 })
    × (saved 0 (characters "x;010200A900ACy") ≡ record { records = one; dropped = 0; first = 15 })
    × (saved 0 (characters ";0;0200010004") ≡ record { records = []; dropped = 2; first = 0 })
    × (saved 0 (characters "\n;;;010200A900AC") ≡ record { records = one; dropped = 2; first = 1 })
    × (saved 0 (characters ";010200A900AC;010200A900A") ≡ record { records = one; dropped = 1; first = 13 })
    × (saved 0 (characters ";010200A900AD") ≡ record { records = []; dropped = 1; first = 0 })
    × (saved 0 (characters ";02FFFF00000200") ≡ record { records = []; dropped = 1; first = 0 })
unfolding record_of digit_value
torn_tapes = (refl, refl, refl, refl, refl, refl, refl, refl)
