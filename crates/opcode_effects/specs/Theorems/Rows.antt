-- An opcode's row of the table, and an opcode that has none.
use Rattle.std.specs.Prelude.{ℕ, ◌+◌, ◌<◌, ◌≡◌, refl, cond, List, get_or, Option, Some, None}
use Rattle.opcode_effects.specs.declared.Performed.{Performed}
use Rattle.std.proofs.Common.{ap, sym, ◌∙◌, arith}
use Rattle.laws.specs.Lemmas.LastArm.{NoneOf, among, not_among}
use Rattle.registers.specs.declared.Registers.{Registers}
use Rattle.registers.specs.StatusByte.{bit}
use Rattle.instruction.specs.declared.ReadOperation.{ReadOperation}
use Rattle.instruction.specs.declared.AddressingMode.{AddressingMode}
use Rattle.instruction.specs.declared.Entry.{Entry}
use Rattle.instruction.specs.Opcodes.{decoded}
use Rattle.manual.specs.declared.Effect.{Effect}
use Rattle.manual.specs.declared.Target.{Target}
use Rattle.manual.specs.Micro.{done, Gives}
use Rattle.manual.specs.Addressing.{target}
use Rattle.manual.specs.Instructions.{advanced, perform}
use Rattle.manual.specs.Lemmas.Programs.{exec_bind, then}
use Rattle.opcode_effects.specs.declared.Pending.{Pending}
use Rattle.opcode_effects.specs.Inner.Performing.{read_entry, ticks_of, performed_from, performed, dispatched, finished_by, fetching}

-- what a row's instruction leaves
pub entry_performed : (e : Entry) (r : Registers) (m : List ℕ) {f : Effect} {m' : List ℕ} → Gives (perform e.instruction e.mode r) m f m'
    → Gives (performed e r) m (Some (performed_from e.cycles f)) m'
entry_performed e r m g = then (perform e.instruction e.mode r) (λ f. done (Some (performed_from e.cycles f))) m g refl

-- the byte that is read there
pub fetching_gives : (mode : AddressingMode) (cycles : ℕ) (r : Registers) (m : List ℕ) (t : Target) → Gives (target mode r) m t m
    → Gives (fetching mode cycles r) m (record { registers = advanced mode r; ticks = ticks_of (cycles + bit t.crossed); first = t.first; value = get_or m t.address 0 }) m
unfolding fetching
fetching_gives mode cycles r m t e = then (target mode r) _ m e refl

-- whatever the operation is, with the byte it gives what its row does
pub fetch_performs : (k : ReadOperation) (mode : AddressingMode) (cycles : ℕ) (r : Registers) (m : List ℕ) {p : Pending} {m' : List ℕ}
    → Gives (fetching mode cycles r) m p m' → Gives (performed (read_entry k mode cycles) r) m (finished_by k p) m'
unfolding fetching perform
fetch_performs k mode cycles r m g =
    entry_performed (read_entry k mode cycles) r m (exec_bind (target mode r) _ m)
    ∙ ap (λ (w : Pending × List ℕ). (finished_by k w.0, w.1)) (sym (exec_bind (target mode r) _ m) ∙ g)

module _ (r : Registers) (m : List ℕ) where
  pub row : (opcode code : ℕ) (e : Entry) {q : Option Performed} {m' : List ℕ} → opcode ≡ code
      → decoded code ≡ Some e → Gives (performed e r) m q m' → Gives (dispatched (decoded opcode) r) m q m'
  unfolding dispatched
  row opcode code e p d g = rw (ap decoded p ∙ d) g

-- how many rows an opcode has
abbrev rows_of : Option Entry → ℕ
rows_of (Some e) = 1
rows_of None = 0

-- 0 for an opcode that is in the list or has no row
abbrev pub left : List ℕ → ℕ → ℕ
left ks k = cond (among k ks) 0 (rows_of (decoded k))

undefined_of : (d : Option Entry) → rows_of d ≡ 0 → d ≡ None
undefined_of (Some e) p = absurd (omega (arith, p))
undefined_of None p = refl

-- an opcode without a row, by a test of all 256
pub no_row : (ks : List ℕ) → ((k : ℕ) → k < 256 → left ks k ≡ 0)
    → (opcode : ℕ) (r : Registers) (m : List ℕ) → opcode < 256 → NoneOf opcode ks
    → Gives (dispatched (decoded opcode) r) m None m
unfolding dispatched
no_row ks test opcode r m l none = rw (undefined_of (decoded opcode) (rw (not_among opcode ks none) at (test opcode l)))
