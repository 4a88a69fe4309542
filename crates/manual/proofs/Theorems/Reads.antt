-- The definition reads exactly the addresses of the rules' list (ReadList), in that order: for a step and for a run, refused ones too.
use Rattle.std.specs.Prelude.{ℕ, zero, suc, ◌+◌, ◌≡◌, List, ◌∷◌, ◌++◌, Bool, true, T, eqb, leb, ltb, get_or, Option, Some, None}
use Rattle.std.proofs.Math.Path.{refl}
use Rattle.std.proofs.Common.{ap, ap₂, ◌∙◌}
use Rattle.instruction.specs.declared.Entry.{Entry}
use Rattle.instruction.specs.Opcodes.{decoded}
use Rattle.manual.specs.declared.Lines.{Lines}
use Rattle.manual.specs.declared.Machine.{Machine}
use Rattle.manual.specs.declared.Ended.{Ended}
use Rattle.manual.specs.Micro.{Micro, exec, accesses, reads_of, reads}
use Rattle.manual.specs.Outcomes.{is_made}
use Rattle.manual.specs.Interrupts.{due}
use Rattle.manual.specs.Stepping.{full_memory, highest_count, highest_bound, act, attend, step_full, step, run_while, on_full, bounded, run_full, run, long_run, spend_full, run_cycles}
use Rattle.manual.specs.ReadList.{listed, listed_entry, listed_due, listed_step_full, listed_step, listed_run_while, listed_on_full, listed_bounded, listed_run, listed_long_run, listed_run_cycles}
use Rattle.manual.specs.Lemmas.Programs.{reads_bind, alike}
use Rattle.manual.specs.StoreList.{stored_to, three_pushed}
use Rattle.manual.proofs.Theorems.Accesses.{order_of, stores_first, suits, entry_suits, act_accesses, attend_accesses, reads_in_order}

-- the program p reads l
abbrev ReadsFrom : {A : Type 0} → List ℕ → Micro A → List ℕ → Type 0
ReadsFrom m p l = reads p m ≡ l

act_reads : (d : Option Entry) (lines : Lines) (s : Machine) (m : List ℕ) → ((e : Entry) → d ≡ Some e → T (suits e.instruction e.mode))
    → reads (act d lines s) m ≡ listed_entry d s.registers m
act_reads (Some e) lines s m h =
    ap reads_of (act_accesses (Some e) lines s m h)
    ∙ reads_in_order (order_of e.instruction) (listed e.instruction e.mode s.registers m) (stored_to e.instruction e.mode s.registers m)
act_reads None lines s m h = ap reads_of (act_accesses None lines s m h)

-- A line that is served reads the two bytes of its vector.
attend_reads : (d : Option ℕ) (lines : Lines) (s : Machine) (m : List ℕ) → reads (attend d lines s) m ≡ listed_due d s.registers m
unfolding accesses attend
attend_reads (Some vector) lines s m =
    ap reads_of (attend_accesses (Some vector) lines s m)
    ∙ reads_in_order stores_first (listed_due (Some vector) s.registers m) (three_pushed s.registers)
attend_reads None lines s m =
    let opcode = get_or m s.registers.counter 0 in
    ap (λ (l : List ℕ). s.registers.counter ∷ l) (act_reads (decoded opcode) lines s m (entry_suits opcode))

pub step_full_reads : (lines : Lines) (s : Machine) (m : List ℕ) → reads (step_full lines s) m ≡ listed_step_full lines s m
unfolding accesses step_full
step_full_reads lines s m = alike (ReadsFrom m) (ltb highest_count s.cycles) _ _ _ _ refl (attend_reads (due lines s) lines s m)

-- A step reads the rules' list.
pub step_reads : (size : ℕ) (lines : Lines) (s : Machine) (m : List ℕ) → reads (step size lines s) m ≡ listed_step size lines s m
unfolding accesses step
step_reads size lines s m = alike (ReadsFrom m) (eqb size full_memory) _ _ _ _ (step_full_reads lines s m) refl

-- A run reads what the rules list.
pub while_reads : (goes : Machine → Bool) (n k : ℕ) (lines : Lines) (s : Machine) (m : List ℕ)
    → reads (run_while goes n k lines s) m ≡ listed_run_while goes n lines s m
unfolding accesses run_while
while_reads goes zero k lines s m = refl
while_reads goes (suc n) k lines s m =
    alike (ReadsFrom m) (goes s) _ _ _ _
    (reads_bind (step_full lines s) _ m
    ∙ ap₂ (λ (l t : List ℕ). l ++ t) (step_full_reads lines s m)
    (alike (ReadsFrom (exec (step_full lines s) m).1) (is_made (exec (step_full lines s) m).0.reason) _ _ _ _ (while_reads goes n (k + 1) lines _ _) refl))
    refl

module _ (s : Machine) (p : Micro Ended) (m l : List ℕ) (h : reads p m ≡ l) where
  pub on_full_reads : (size : ℕ) → reads (on_full size s p) m ≡ listed_on_full size l
  unfolding accesses
  on_full_reads size = alike (ReadsFrom m) (eqb size full_memory) _ _ _ _ h refl

  pub bounded_reads : (bound : ℕ) → reads (bounded bound s p) m ≡ listed_bounded bound l
  unfolding accesses
  bounded_reads bound = alike (ReadsFrom m) (leb bound highest_bound) _ _ _ _ h refl

pub run_reads : (size bound : ℕ) (lines : Lines) (s : Machine) (m : List ℕ) → reads (run size bound lines s) m ≡ listed_run size bound lines s m
unfolding run run_full
run_reads size bound lines s m =
    on_full_reads s _ m _ (bounded_reads s _ m _ (while_reads (λ s. true) bound 0 lines s m) bound) size

pub long_run_reads : (size bound : ℕ) (lines : Lines) (s : Machine) (m : List ℕ) → reads (long_run size bound lines s) m ≡ listed_long_run size bound lines s m
unfolding long_run run_full
long_run_reads size bound lines s m = on_full_reads s _ m _ (while_reads (λ s. true) bound 0 lines s m) size

pub run_cycles_reads : (size limit : ℕ) (lines : Lines) (s : Machine) (m : List ℕ) → reads (run_cycles size limit lines s) m ≡ listed_run_cycles size limit lines s m
unfolding run_cycles spend_full
run_cycles_reads size limit lines s m =
    on_full_reads s _ m _ (bounded_reads s _ m _ (while_reads (λ t. ltb t.cycles (s.cycles + limit)) limit 0 lines s m) limit) size
