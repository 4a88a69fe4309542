-- The edges of the answer table (docs/RULES.md).
use Rattle.std.specs.Prelude.{ℕ, suc, ◌+◌, ◌-◌, ◌<◌, ◌^◌, ◌≡◌, List, [], Some, None}
use Rattle.std.proofs.Math.Path.{refl}
use Rattle.std.proofs.Common.{inl, inr, arith}
use Rattle.instruction.specs.declared.Entry.{Entry}
use Rattle.instruction.specs.Opcodes.{decoded}
use Rattle.manual.specs.declared.Lines.{Lines}
use Rattle.manual.specs.declared.Machine.{Machine}
use Rattle.manual.specs.Micro.{accesses, reads, Gives}
use Rattle.manual.specs.declared.Reason.TheVariants.{Made, MemoryNotFull, NoCycleRoom, BoundTooHigh}
use Rattle.manual.specs.Outcomes.{refused, ended}
use Rattle.manual.specs.Interrupts.{due}
use Rattle.manual.specs.Stepping.{step_full, step, run_while, run_full, run}
use Rattle.manual.proofs.Lemmas.StepLaws.{opcode_of, step_late}
use Rattle.manual.proofs.Theorems.Answers.{step_answer, step_answers}
use Rattle.manual.proofs.Theorems.RunAnswers.{no_cycle_room_lem, ran, run_answers}

module _ (lines : Lines) (s : Machine) (m : List ℕ) where
  -- A memory of 65,535 bytes gives 1, and so does one of 65,537; one of 65,536 is stepped, and run.
  pub length_65535 : Gives (step 65535 lines s) m (refused MemoryNotFull s) m
  unfolding step
  length_65535 = refl

  pub length_65536 : step 65536 lines s ≡ step_full lines s
  unfolding step
  length_65536 = refl

  pub length_65537 : Gives (step 65537 lines s) m (refused MemoryNotFull s) m
  unfolding step
  length_65537 = refl

  pub run_length_65535 : (bound : ℕ) → Gives (run 65535 bound lines s) m (ended MemoryNotFull 0 s) m
  unfolding run
  run_length_65535 bound = refl

  pub run_length_65537 : (bound : ℕ) → Gives (run 65537 bound lines s) m (ended MemoryNotFull 0 s) m
  unfolding run
  run_length_65537 bound = refl

  -- From the count ..608 a step is made, of an opcode or of a line, and seven more cycles reach the last number of 64 bits; ..609 gives 2,
  -- whatever is due.
  pub count_608 : (e : Entry) → s.cycles ≡ 18446744073709551608 → due lines s ≡ None → decoded (opcode_of s m) ≡ Some e
      → step_answer 65536 lines s m ≡ 0
  count_608 e c q d = (step_answers 65536 lines s m).zero.1 (refl, inr (omega arith, q, (e, d)))

  pub line_608 : (vector : ℕ) → s.cycles ≡ 18446744073709551608 → due lines s ≡ Some vector → step_answer 65536 lines s m ≡ 0
  line_608 vector c d = (step_answers 65536 lines s m).zero.1 (refl, inl (omega arith, (vector, d)))

  pub seven_more : 18446744073709551608 + 7 ≡ 2 ^ 64 - 1
  seven_more = refl

  pub count_609 : s.cycles ≡ 18446744073709551609 → Gives (step_full lines s) m (refused NoCycleRoom s) m
  count_609 c = step_late lines s m (omega arith)

  -- A run from there makes no step.
  pub run_count_609 : (n : ℕ) → n < 1000000 → s.cycles ≡ 18446744073709551609 → Gives (run 65536 (suc n) lines s) m (ended NoCycleRoom 0 s) m
  run_count_609 n l c = (run_answers 65536 (suc n) lines s m).1 (ran (refl, l) (no_cycle_room_lem {k = 0} (omega arith) (refl, refl) (omega arith)))

  -- A bound of 1,000,000 is run, one of 1,000,001 gives 4.
  pub bound_1000000 : run 65536 1000000 lines s ≡ run_full 1000000 0 lines s
  unfolding run
  bound_1000000 = refl

  pub bound_1000001 : Gives (run 65536 1000001 lines s) m (ended BoundTooHigh 0 s) m
  unfolding run
  bound_1000001 = refl

  -- A bound of 0 on a full memory answers 0 with 0 steps, and reads nothing.
  pub bound_0 : Gives (run 65536 0 lines s) m (ended Made 0 s) m
  unfolding run run_full run_while
  bound_0 = refl

  pub bound_0_reads : reads (run 65536 0 lines s) m ≡ []
  unfolding run run_full run_while accesses
  bound_0_reads = refl
