-- The report of an image, as the rules have it (docs/RULES.md): the run that is made, and the line that is printed.
use Rattle.std.specs.Prelude.{ℕ, true, false, cond, List, eqb, length, get_or}
use Rattle.registers.specs.State.{status_of, registers_of}
use Rattle.manual.specs.declared.Machine.{Machine}
use Rattle.manual.specs.declared.Ended.{Ended}
use Rattle.manual.specs.declared.Reason.TheVariants.{MemoryNotFull}
use Rattle.manual.specs.Micro.{Micro, done, ◌>>=◌, exec}
use Rattle.manual.specs.Words.{joined}
use Rattle.manual.specs.Addressing.{word}
use Rattle.manual.specs.Outcomes.{machine_of, ended}
use Rattle.manual.specs.Interrupts.{idle}
use Rattle.manual.specs.Stepping.{full_memory, run, long_run}
use Rattle.sentences.specs.Line.{line}

-- A, X, Y 00, S FF, only I set, no cycles; NMI was high
unfoldable pub start : ℕ → Machine
start counter = machine_of (registers_of 0x00 0x00 0x00 0xFF counter (status_of false false false true false false)) 0 true

-- a run from the address at FFFC; an image of another length is refused with 1 and not looked at
unfoldable pub from_start : (Machine → Micro Ended) → ℕ → Micro Ended
from_start go size =
    cond (eqb size full_memory) (do
      first ← word 0xFFFC 0xFFFD
      go (start first))
    (done (ended MemoryNotFull 0 (start 0)))

-- at most 1,000 steps, and at most so many, with idle lines
abbrev pub image_run : ℕ → Micro Ended
image_run size = from_start (run size 1000 idle) size

abbrev pub long_image_run : ℕ → ℕ → Micro Ended
long_image_run steps size = from_start (long_run size steps idle) size

-- the machine that an image starts with
unfoldable pub image_start : List ℕ → Machine
image_start image = cond (eqb (length image) full_memory) (start (joined (get_or image 0xFFFD 0) (get_or image 0xFFFC 0))) (start 0)

-- the line that is printed for an image
abbrev pub report_line : List ℕ → List ℕ
report_line image = line (exec (image_run (length image)) image).0
