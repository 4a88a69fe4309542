-- The answers by name: docs/RULES.md says when each is given. An exit status from 1 to 13 is one of them too; 14 and 15 are
-- given to hosts alone.
use Rattle.std.specs.Prelude.{ℕ}
use Rattle.laws.specs.declared.answers.Refusal.{Refusal}
use Rattle.laws.specs.declared.answers.Refusal.TheVariants.{MemoryNotFull, NoCycleRoom, NotAnOpcode, BoundTooHigh, MalformedRecord, WrongSum, PastTheEnd, NoEnd, FirstAboveLast, NoRoom, MalformedEntry, StrayEntry, WouldRead, WouldStore, NotThere}

-- of every function: what was asked for is not refused; of a run: all its steps are made, or its cycles spent, and its program still runs;
-- of a run to an address: the counter is at it
abbrev pub not_refused : ℕ
not_refused = 0

-- of whatever takes a memory or an image: it is not 65,536 bytes long
abbrev pub memory_not_full : ℕ
memory_not_full = 1

-- of a step: the cycle count leaves no room for it
abbrev pub no_cycle_room : ℕ
no_cycle_room = 2

-- the byte at the counter is no documented opcode
abbrev pub not_an_opcode : ℕ
not_an_opcode = 3

-- of a run: its bound is above 1,000,000
abbrev pub bound_too_high : ℕ
bound_too_high = 4

-- of a text of records, at the first bad one: it is malformed, or something else stands there
abbrev pub malformed_record : ℕ
malformed_record = 5

-- its sum is wrong
abbrev pub wrong_sum : ℕ
wrong_sum = 6

-- it goes past FFFF
abbrev pub past_the_end : ℕ
past_the_end = 7

-- there is no end record, or it has a wrong number, or there are too many records for one
abbrev pub no_end : ℕ
no_end = 8

-- of a text that is written: the first address is above the last
abbrev pub first_above_last : ℕ
first_above_last = 9

-- it does not fit into the buffer
abbrev pub no_room : ℕ
no_room = 10

-- of a recorded trace, at the first bad entry: it is malformed, or there is none
abbrev pub malformed_entry : ℕ
malformed_entry = 11

-- it does not follow from the entry before
abbrev pub stray_entry : ℕ
stray_entry = 12

-- of a guarded run: the next step would read a byte that is guarded against reads
abbrev pub would_read : ℕ
would_read = 13

-- it would store to one that is guarded against stores
abbrev pub would_store : ℕ
would_store = 14

-- of a run to an address: all its steps are made, and the counter is not at it
abbrev pub not_there : ℕ
not_there = 15

-- the number of a refusal
abbrev pub answer_of : Refusal → ℕ
answer_of MemoryNotFull = memory_not_full
answer_of NoCycleRoom = no_cycle_room
answer_of NotAnOpcode = not_an_opcode
answer_of BoundTooHigh = bound_too_high
answer_of MalformedRecord = malformed_record
answer_of WrongSum = wrong_sum
answer_of PastTheEnd = past_the_end
answer_of NoEnd = no_end
answer_of FirstAboveLast = first_above_last
answer_of NoRoom = no_room
answer_of MalformedEntry = malformed_entry
answer_of StrayEntry = stray_entry
answer_of WouldRead = would_read
answer_of WouldStore = would_store
answer_of NotThere = not_there
