-- The end record of the request, and the edges of each answer, with the place of the first bad record.
use Rattle.std.specs.Prelude.{◌≡◌, refl, [], ◌∷◌}
use Rattle.laws.specs.Answers.{malformed_record, wrong_sum, past_the_end, no_end}
use Rattle.laws.specs.Characters.{characters}
use Rattle.text_reading.specs.Numbers.{digit_value}
use Rattle.tape_records.specs.Records.{record_of, separator}
use Rattle.tape_records.specs.Contents.{stop, bad, stretch}
use Rattle.tape_records.specs.Theorems.Complete.{whole}
use Rattle.tape_intel.specs.IntelHex.{hex_item, hex_of}

-- good HEX: with data, without, separators before, between and after, the last address
pub good_hex :
    (hex_of (characters ":020200000102F9\r\n:00000001FF\r\n") ≡ whole 0 (record { first = 0x0200; bytes = 1 ∷ 2 ∷ [] } ∷ []))
    × (hex_of (characters ":00000001FF") ≡ whole 0 [])
    × (hex_of (characters "\0\r\n:01020000A954\0:00000001FF\r\n\0") ≡ whole 0 (record { first = 0x0200; bytes = 0xA9 ∷ [] } ∷ []))
    × (hex_of (characters ":01FFFF000001:00000001FF") ≡ whole 0 (record { first = 0xFFFF; bytes = 0 ∷ [] } ∷ []))
unfolding hex_of hex_item record_of separator digit_value
good_hex = (refl, refl, refl, refl)

-- bad HEX: the answer, the good records before the first bad one, and the characters from it on
pub bad_hex :
    (hex_of (characters "") ≡ stop no_end 0 0)
    × (hex_of (characters "\0\r\n") ≡ stop no_end 0 0)
    × (hex_of (characters ":00000001FE") ≡ stop wrong_sum 0 11)
    × (hex_of (characters ":00000101FE") ≡ stop malformed_record 0 11)
    × (hex_of (characters ":00000101FF") ≡ stop wrong_sum 0 11)
    × (hex_of (characters ":0100000100FE") ≡ stop malformed_record 0 13)
    × (hex_of (characters ":0000000000") ≡ stop malformed_record 0 11)
    × (hex_of (characters ":0000000001") ≡ stop malformed_record 0 11)
    × (hex_of (characters ":00000002FE") ≡ stop malformed_record 0 11)
    × (hex_of (characters ":00000002FF") ≡ stop malformed_record 0 11)
    × (hex_of (characters ":00000001ff") ≡ stop malformed_record 0 11)
    × (hex_of (characters ":00000001F") ≡ stop malformed_record 0 10)
    × (hex_of (characters "\r :00000001FF") ≡ stop malformed_record 0 12)
    × (hex_of (characters ";0000000000") ≡ stop malformed_record 0 11)
    × (hex_of (characters ":02FFFF00010200") ≡ stop wrong_sum 0 15)
    × (hex_of (characters ":02FFFF000102FD") ≡ stop past_the_end 0 15)
    × (hex_of (characters ":00000001FF:00000001FF") ≡ stop malformed_record 1 11)
    × (hex_of (characters ":00000001FE ") ≡ stop wrong_sum 0 12)
unfolding hex_of hex_item record_of separator digit_value
bad_hex = (refl, refl, refl, refl, refl, refl, refl, refl, refl, refl, refl, refl, refl, refl, refl, refl, refl, refl)

-- what stands before a bad record is counted, and an end record that is good too
pub later_bad :
    (hex_of (characters ":01020000A954") ≡ record { records = record { first = 0x0200; bytes = 0xA9 ∷ [] } ∷ []; answer = no_end; good = 1; left = 0 })
    × (hex_of (characters ":01020000A954\n:00000001FF\nx\n") ≡ record { records = record { first = 0x0200; bytes = 0xA9 ∷ [] } ∷ []; answer = malformed_record; good = 2; left = 2 })
unfolding hex_of hex_item record_of separator digit_value
later_bad = (refl, refl)

-- the 65,535th data record is one; the 65,536th is refused with 8, but first with 5, 6 and 7
pub last_record :
    (hex_item 65534 (characters ":01020000A954") ≡ stretch (record { first = 0x0200; bytes = 0xA9 ∷ [] }))
    × (hex_item 65535 (characters ":01020000A954") ≡ bad no_end)
    × (hex_item 65535 (characters ":02FFFF000102FD") ≡ bad past_the_end)
    × (hex_item 65535 (characters ":01020000A955") ≡ bad wrong_sum)
    × (hex_item 65535 (characters ":0000000000") ≡ bad malformed_record)
unfolding hex_item record_of digit_value
last_record = (refl, refl, refl, refl, refl)
