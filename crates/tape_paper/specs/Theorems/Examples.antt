-- The end record of the request, and the edges of each answer, with the place of the first bad record.
use Rattle.std.specs.Prelude.{◌≡◌, refl, [], ◌∷◌}
use Rattle.laws.specs.Answers.{malformed_record, wrong_sum, past_the_end, no_end}
use Rattle.laws.specs.Characters.{characters}
use Rattle.text_reading.specs.Numbers.{digit_value}
use Rattle.tape_records.specs.Records.{record_of, separator}
use Rattle.tape_records.specs.Contents.{stop}
use Rattle.tape_records.specs.Theorems.Complete.{whole}
use Rattle.tape_paper.specs.Tapes.{tape_item, tape_of}

-- good tapes: the request's end record, one without data, separators before, between and after, the last address
pub good_tapes :
    (tape_of (characters ";010200A900AC;0000010001") ≡ whole 0 (record { first = 0x0200; bytes = 0xA9 ∷ [] } ∷ []))
    × (tape_of (characters ";0000000000") ≡ whole 0 [])
    × (tape_of (characters "\0\r\n;010200A900AC\0;0000010001\r\n\0") ≡ whole 0 (record { first = 0x0200; bytes = 0xA9 ∷ [] } ∷ []))
    × (tape_of (characters ";01FFFF0001FF;0000010001") ≡ whole 0 (record { first = 0xFFFF; bytes = 0 ∷ [] } ∷ []))
unfolding tape_of tape_item record_of separator digit_value
good_tapes = (refl, refl, refl, refl)

-- bad ones: the answer, the good records before the first bad one, and the characters from it on
pub bad_tapes :
    (tape_of (characters "") ≡ stop no_end 0 0)
    × (tape_of (characters "\0\r\n") ≡ stop no_end 0 0)
    × (tape_of (characters ";0000010001") ≡ stop no_end 0 11)
    × (tape_of (characters ";010200A900AD") ≡ stop wrong_sum 0 13)
    × (tape_of (characters ";010200a900AC") ≡ stop malformed_record 0 13)
    × (tape_of (characters ";010200A900A") ≡ stop malformed_record 0 12)
    × (tape_of (characters "\r ;010200A900AC") ≡ stop malformed_record 0 14)
    × (tape_of (characters ";0;0200010004") ≡ stop malformed_record 0 13)
    × (tape_of (characters ";02FFFF00000200") ≡ stop past_the_end 0 15)
    × (tape_of (characters ";02FFFF00000201") ≡ stop wrong_sum 0 15)
    × (tape_of (characters ";0000000000;0000000000") ≡ stop malformed_record 1 11)
    × (tape_of (characters ";0000010001 ") ≡ stop no_end 0 12)
    × (tape_of (characters ";0000000001 ") ≡ stop wrong_sum 0 12)
unfolding tape_of tape_item record_of separator digit_value
bad_tapes = (refl, refl, refl, refl, refl, refl, refl, refl, refl, refl, refl, refl, refl)

-- what stands before a bad record is counted, and an end record that is good too
pub later_bad :
    (tape_of (characters ";010200A900AC") ≡ record { records = record { first = 0x0200; bytes = 0xA9 ∷ [] } ∷ []; answer = no_end; good = 1; left = 0 })
    × (tape_of (characters ";010200A900AC\n;0000010001\nx\n") ≡ record { records = record { first = 0x0200; bytes = 0xA9 ∷ [] } ∷ []; answer = malformed_record; good = 2; left = 2 })
unfolding tape_of tape_item record_of separator digit_value
later_bad = (refl, refl)
