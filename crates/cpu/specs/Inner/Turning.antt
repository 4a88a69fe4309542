-- A turn: the service of a line, or as many steps as no line can become due between; and a run by its turns.
use Rattle.std.specs.Prelude.{◌≡◌, ℕ, ◌+◌, ◌-◌, ◌*◌, ◌/◌, ◌<◌, ◌≤◌, Bool, true, cond, ◌⊎◌, nat_lt, Option, Some, None}
use Rattle.registers.specs.declared.Registers.{Registers}
use Rattle.manual.specs.declared.Lines.{Lines}
use Rattle.manual.specs.declared.Machine.{Machine}
use Rattle.manual.specs.declared.Ended.{Ended}
use Rattle.manual.specs.declared.Reason.TheVariants.{Made}
use Rattle.manual.specs.Micro.{Micro, done, ◌>>=◌}
use Rattle.manual.specs.Outcomes.{machine_of, ended}
use Rattle.manual.specs.Interrupts.{serving_cycles, served, due}
use Rattle.manual.specs.Stepping.{highest_count}
use Rattle.cpu.specs.declared.Travelled.{Travelled}
use Rattle.cpu.specs.Inner.Travelling.{travelled, travelling}

-- IRQ high, and NMI at a level
abbrev pub raised : Bool → Lines
raised nmi = record { irq = true; nmi = nmi }

abbrev pub levelled : Bool → Machine → Machine
levelled nmi s = machine_of s.registers s.cycles nmi

-- the machine that is left has the present level of NMI, also if no step was made
abbrev pub recording : Lines → Travelled → Travelled
recording lines w = travelled w.first (ended w.ended.reason w.ended.steps (levelled lines.nmi w.ended.machine))

-- a line is served by one step
abbrev pub stretch : Option ℕ → ℕ → ℕ
stretch (Some vector) n = 1
stretch None n = n

unfoldable pub turning : ℕ → Lines → Machine → Micro Travelled
turning n lines s = do
  w ← travelling (stretch (due lines s) n) 0 0 lines s
  done (recording lines w)

-- between the steps of a turn no line can become due: IRQ is high, or there is one step
abbrev pub Calm : Lines → ℕ → Type 0
Calm lines n = (lines.irq ≡ true) ⊎ (n ≡ 1)

abbrev pub reach : Bool → ℕ → ℕ
reach irq bound = cond irq bound 1

-- no step of a turn but its last can pass the highest count: each takes at most seven cycles
abbrev pub Fits : ℕ → ℕ → Type 0
Fits cycles n = (0 < n) × (n ≤ 16777216) × (cycles ≤ highest_count → cycles + 7 * (n - 1) ≤ highest_count)

abbrev pub least : ℕ → ℕ → ℕ
least a b = cond (nat_lt a b) a b

abbrev pub fitting : ℕ → ℕ → ℕ
fitting bound cycles = least bound (least ((highest_count - cycles) / 7 + 1) 16777216)

-- the service of a line alone, for which there is room
unfoldable pub serving : ℕ → Registers → ℕ → Bool → Micro Travelled
serving vector r count nmi = do
  r₁ ← served vector r
  done (travelled 0 (ended Made 1 (machine_of r₁ (count + serving_cycles) nmi)))

-- the answer of a turn, with the machine that counts
abbrev pub settled : Machine → Ended → Ended
settled s q = ended q.reason q.steps (cond (nat_lt 0 q.steps) q.machine s)

-- how far a turn goes of n steps
abbrev pub going : Lines → ℕ → ℕ → ℕ
going lines cycles n = reach lines.irq (fitting n cycles)
