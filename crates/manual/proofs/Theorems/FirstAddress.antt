-- The first address on the bus (P8): the base's page with the sum's low byte, before the carry has reached the high byte.
use Rattle.std.specs.Prelude.{ℕ, ◌+◌, ◌≤◌, ◌<◌, ◌≡◌, ◌↔◌, ◌⊎◌, Bool, not, List, T, get_or, Some, None}
use Rattle.std.proofs.Math.Path.{refl, ap, sym}
use Rattle.std.proofs.Common.{◌∙◌, subst, ⊎_elim, arith, eqb-true, eq-eqb}
use Rattle.std.proofs.Math.Bool.{true, false}
use Rattle.std.proofs.Math.Decide.{ℕ_discrete}
use Rattle.std.proofs.lemmas.Bool.{eqb-false, not-true, not-false}
use Rattle.registers.specs.declared.Registers.{Registers}
use Rattle.registers.specs.State.{set_s, set_pc}
use Rattle.instruction.specs.declared.Instruction.{Instruction}
use Rattle.instruction.specs.declared.Instruction.TheVariants.{Read, Store, Modify, Branch, Internal, BRK, JMP, JSR, PHA, PHP, PLA, PLP, RTI, RTS}
use Rattle.instruction.specs.declared.ModifyOperation.{ModifyOperation}
use Rattle.instruction.specs.declared.Entry.{Entry}
use Rattle.instruction.specs.Opcodes.{rows, decoded}
use Rattle.instruction.specs.Lemmas.Rule.{every_entry}
use Rattle.instruction.specs.declared.AddressingMode.{AddressingMode}
use Rattle.instruction.specs.declared.AddressingMode.TheVariants.{Accumulator, Implied, Immediate, ZeroPage, ZeroPageX, ZeroPageY, Relative, Absolute, AbsoluteX, AbsoluteY, BuggyIndirect, IndexedIndirectX, IndirectIndexedY}
use Rattle.manual.specs.declared.Lines.{Lines}
use Rattle.manual.specs.declared.Machine.{Machine}
use Rattle.manual.specs.declared.Effect.{Effect}
use Rattle.manual.specs.declared.Stepped.{Stepped}
use Rattle.manual.specs.declared.Reason.TheVariants.{Made}
use Rattle.manual.specs.declared.Target.{Target}
use Rattle.manual.specs.Micro.{exec, Gives}
use Rattle.manual.specs.Words.{low_byte, address_of, page, joined}
use Rattle.manual.specs.Addressing.{operand, indexed, target}
use Rattle.manual.specs.Branching.{holds, branched}
use Rattle.manual.specs.Stack.{push, pull, push_address, pull_address}
use Rattle.manual.specs.Interrupts.{enter, due}
use Rattle.manual.specs.Instructions.{advanced, modify, perform}
use Rattle.manual.specs.Stepping.{full_memory, highest_count, step_full, step}
use Rattle.manual.specs.ReadList.{addressed}
use Rattle.manual.specs.Lemmas.Programs.{exec_bind}
use Rattle.manual.proofs.Lemmas.StepLaws.{opcode_of, step_short, step_whole, step_late, step_serves, step_undefined, step_defined}
use Rattle.manual.proofs.Theorems.Answers.{Served, Way, late, serves, undefined, ready, way, not_quiet}
use Rattle.manual.proofs.Theorems.RunAnswers.{same}
use Rattle.registers.specs.InRange.{InRange}
use Rattle.manual.specs.Theorems.Within.{Bytes}

-- What is said of a target that has an address.
pub record PutOut (t : Target) : Type 0 where
  -- it is the final address exactly if no page is crossed
  pub same : (t.first ≡ t.address) ↔ (t.crossed ≡ false)
  -- and otherwise the final address less 0100, modulo 65,536
  pub less : t.crossed ≡ true → t.first ≡ address_of (t.address + 0xFF00)

plain_out : (t : Target) → t.first ≡ t.address → t.crossed ≡ false → PutOut t
plain_out t e c =
    record { same = (λ p. c, λ p. e); less = λ p. let z : ◌≡◌ {A = ℕ} 0 1 = cc in absurd (omega arith) }

module _ (base index : ℕ) (base-address : base < 65536) (index-byte : index < 256) where
  abbrev sum : ℕ
  sum = address_of (base + index)

  -- Its page is the base's.
  pub first_page : page (indexed base index).first ≡ page base
  first_page = omega arith

  pub indexed_out : PutOut (indexed base index)
  indexed_out = record {
    same = (
      λ (e : (indexed base index).first ≡ sum). let f : page base ≡ page sum = omega arith in rw (eq-eqb (page base) (page sum) f),
      λ c. let f : page base ≡ page sum = eqb-true (page base) (page sum) (not-false _ c) in omega arith,
    );
    less = λ c. let f : page base ≡ page sum → ⊥ = eqb-false (page base) (page sum) (not-true _ c) in omega arith;
  }

-- where the mode leads
abbrev aimed : AddressingMode → Registers → List ℕ → Target
aimed mode r m = (exec (target mode r) m).0

-- The first address of a mode, for every mode that has one.
pub put_out : (mode : AddressingMode) (r : Registers) (m : List ℕ) → InRange r → Bytes m → T (addressed mode) → PutOut (aimed mode r m)
unfolding target
put_out Accumulator r m h b t = absurd t
put_out Implied r m h b t = absurd t
put_out Immediate r m h b t = absurd t
put_out ZeroPage r m h b t = plain_out _ refl refl
put_out ZeroPageX r m h b t = plain_out _ refl refl
put_out ZeroPageY r m h b t = plain_out _ refl refl
put_out Relative r m h b t = absurd t
put_out Absolute r m h b t = plain_out _ refl refl
put_out AbsoluteX r m h b t = indexed_out _ r.x (omega (arith, b (operand r 1), b (operand r 2))) h.x
put_out AbsoluteY r m h b t = indexed_out _ r.y (omega (arith, b (operand r 1), b (operand r 2))) h.y
put_out BuggyIndirect r m h b t = plain_out _ refl refl
put_out IndexedIndirectX r m h b t = plain_out _ refl refl
put_out IndirectIndexedY r m h b t =
    let p = get_or m (operand r 1) 0 in
    indexed_out _ r.y (omega (arith, b (joined 0 p), b (joined 0 (low_byte (p + 1))))) h.y

-- A mode that has none gives 0000.
pub none_out : (mode : AddressingMode) (r : Registers) (m : List ℕ) → T (not (addressed mode)) → (aimed mode r m).first ≡ 0
unfolding target
none_out Accumulator r m t = refl
none_out Implied r m t = refl
none_out Immediate r m t = refl
none_out ZeroPage r m t = absurd t
none_out ZeroPageX r m t = absurd t
none_out ZeroPageY r m t = absurd t
none_out Relative r m t = refl
none_out Absolute r m t = absurd t
none_out AbsoluteX r m t = absurd t
none_out AbsoluteY r m t = absurd t
none_out BuggyIndirect r m t = absurd t
none_out IndexedIndirectX r m t = absurd t
none_out IndirectIndexedY r m t = absurd t

-- ---- of an instruction

-- JSR has an address, and so has no other instruction that puts none out
abbrev outs : Instruction → AddressingMode → Bool
outs (Read k) mode = true
outs (Store k) mode = true
outs (Modify k) mode = true
outs (Branch k) mode = not (addressed mode)
outs (Internal k) mode = not (addressed mode)
outs JMP mode = true
outs JSR mode = addressed mode
outs RTS mode = not (addressed mode)
outs RTI mode = not (addressed mode)
outs PLA mode = not (addressed mode)
outs PLP mode = not (addressed mode)
outs PHA mode = not (addressed mode)
outs PHP mode = not (addressed mode)
outs BRK mode = not (addressed mode)

table_outs : (k : ℕ) (e : Entry) → decoded k ≡ Some e → T (outs e.instruction e.mode)
unfolding rows
table_outs = every_entry (λ e. outs e.instruction e.mode) tt

module _ (r : Registers) (m : List ℕ) where
  abbrev first : Effect × List ℕ → ℕ
  first w = w.0.first

  -- the first address of an instruction
  abbrev puts_out : Instruction → AddressingMode → ℕ
  puts_out i mode = (exec (perform i mode r) m).0.first

  no_branch : (taken : Bool) (t : Target) (r : Registers) → (branched taken t r).first ≡ 0
  unfolding branched
  no_branch true t r = refl
  no_branch false t r = refl

  modify_first : (k : ModifyOperation) (mode : AddressingMode) → (exec (modify k mode r) m).0.first ≡ (aimed mode r m).first
  unfolding target modify
  modify_first k Accumulator = refl
  modify_first k Implied = refl
  modify_first k Immediate = refl
  modify_first k ZeroPage = refl
  modify_first k ZeroPageX = refl
  modify_first k ZeroPageY = refl
  modify_first k Relative = refl
  modify_first k Absolute = refl
  modify_first k AbsoluteX = refl
  modify_first k AbsoluteY = refl
  modify_first k BuggyIndirect = refl
  modify_first k IndexedIndirectX = refl
  modify_first k IndirectIndexedY = refl

  -- that of the mode, but for JSR
  out_first : (i : Instruction) (mode : AddressingMode) → T (outs i mode) → (i ≡ JSR → ⊥) → puts_out i mode ≡ (aimed mode r m).first
  unfolding perform push pull push_address pull_address enter
  out_first (Read k) mode t f = ap first (exec_bind (target mode r) _ m)
  out_first (Store k) mode t f = ap first (exec_bind (target mode r) _ m)
  out_first (Modify k) mode t f = modify_first k mode
  out_first (Branch k) mode t f = ap first (exec_bind (target mode r) _ m) ∙ no_branch (holds k r.status) _ (advanced mode r) ∙ sym (none_out mode r m t)
  out_first (Internal k) mode t f = sym (none_out mode r m t)
  out_first JMP mode t f = ap first (exec_bind (target mode r) _ m)
  out_first JSR mode t f = absurd (f refl)
  out_first RTS mode t f = sym (none_out mode r m t)
  out_first RTI mode t f = sym (none_out mode r m t)
  out_first PLA mode t f = sym (none_out mode r m t)
  out_first PLP mode t f = sym (none_out mode r m t)
  out_first PHA mode t f = sym (none_out mode r m t)
  out_first PHP mode t f = sym (none_out mode r m t)
  out_first BRK mode t f = sym (none_out mode r m t)

  -- JSR gives the address that it goes to
  call_first : (mode : AddressingMode) → puts_out JSR mode ≡ (exec (perform JSR mode r) m).0.registers.counter
  unfolding perform push push_address set_s set_pc
  call_first mode = refl

-- ---- of a step

-- The first address of a step whose opcode has the row e.
pub record StepFirst (e : Entry) (r : Registers) (m : List ℕ) (q : Stepped) : Type 0 where
  -- if the mode has an address: that of the mode (`put_out`); JSR gives where it goes
  pub address : T (addressed e.mode) → (e.instruction ≡ JSR → ⊥) → q.first ≡ (aimed e.mode r m).first
  pub call : e.instruction ≡ JSR → q.first ≡ q.machine.registers.counter
  -- implied, accumulator, immediate and relative: 0000
  pub none : T (not (addressed e.mode)) → q.first ≡ 0

not_both : (b : Bool) → T b → T (not b) → ⊥
not_both true t u = u
not_both false t u = t

module _ (size : ℕ) (lines : Lines) (s : Machine) (m : List ℕ) {q : Stepped} {m' : List ℕ} (g : Gives (step size lines s) m q m') where
  -- P8, of a step that is made with no line to serve.
  pub step_first : (e : Entry) → size ≡ full_memory → s.cycles ≤ highest_count → due lines s ≡ None → decoded (opcode_of s m) ≡ Some e
      → StepFirst e s.registers m q
  step_first e f h d p =
      let r = s.registers in
      let i = e.instruction in
      let outs-so = table_outs (opcode_of s m) e p in
      let w = exec (perform i e.mode r) m in
      same (λ q m'. StepFirst e r m q)
      (step_defined lines s m e {f = w.0} {m' = w.1} h d p refl)
      (record {
        address = λ t n. out_first r m i e.mode outs-so n;
        call = λ c. subst (λ (i : Instruction). puts_out r m i e.mode ≡ (exec (perform i e.mode r) m).0.registers.counter) (sym c) (call_first r m e.mode);
        none = λ t. out_first r m i e.mode outs-so
            (λ c. not_both (addressed e.mode) (subst (λ (i : Instruction). T (outs i e.mode)) c outs-so) t)
            ∙ none_out e.mode r m t;
      })
      (rw (step_whole size lines s f) at g)

  -- A refused step and one that serves a line give 0000.
  pub step_none : (q.reason ≡ Made → ⊥) ⊎ Served lines s → q.first ≡ 0
  step_none = by_size (ℕ_discrete size full_memory)
    where
      Nowhere : Stepped → List ℕ → Type 0
      Nowhere q m' = (q.reason ≡ Made → ⊥) ⊎ Served lines s → q.first ≡ 0

      by_way : Gives (step_full lines s) m q m' → Way lines s m → Nowhere q m'
      by_way g (late h) = same Nowhere (step_late lines s m h) (λ c. refl) g
      by_way g (serves h) = same Nowhere (step_serves lines s m h.1.0 h.0 h.1.1 refl) (λ c. refl) g
      by_way g (undefined h) = same Nowhere (step_undefined lines s m h.0 h.1 h.2) (λ c. refl) g
      by_way g (ready h) =
          same Nowhere (step_defined lines s m h.2.0 h.0 h.1 h.2.1 refl)
          (⊎_elim (λ f. absurd (f refl)) (λ v. absurd (not_quiet _ _ h.1 v.1.1))) g

      by_size : Dec (size ≡ full_memory) → Nowhere q m'
      by_size (yes e) = by_way (rw (step_whole size lines s e) at g) (way lines s m)
      by_size (no f) = same Nowhere (step_short size lines s m f) (λ c. refl) g
