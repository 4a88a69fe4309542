-- Machines and memories as the worked examples write them down.
use Rattle.std.specs.Prelude.{ℕ, true, List, [], ◌∷◌, replicate}
use Rattle.std.proofs.lemmas.List.Edits.{sets}
use Rattle.registers.specs.State.{registers_of}
use Rattle.registers.specs.StatusByte.{pulled_status}
use Rattle.manual.specs.declared.Machine.{Machine}
use Rattle.manual.specs.Outcomes.{machine_of}

-- a machine, in the order of the report's fields: cycles, counter, A, X, Y, S, and the status as PHP pushes it; NMI was high
abbrev pub machine : ℕ → ℕ → ℕ → ℕ → ℕ → ℕ → ℕ → Machine
machine cycles counter a x y s p = machine_of (registers_of a x y s counter (pulled_status p)) cycles true

-- bytes laid down from an address on, the rest of 65,536 being 0
abbrev pub Laid : Type 0
Laid = ℕ × List ℕ

abbrev pub memory : List Laid → List ℕ
memory [] = replicate 65536 0
memory (l ∷ ls) = sets (memory ls) l.0 l.1
