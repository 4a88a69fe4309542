-- Each answer of the table (docs/RULES.md), 'given exactly when', for a step; and what is left behind.
use Rattle.std.specs.Prelude.{ℕ, ◌≤◌, ◌<◌, ◌≡◌, refl, ◌↔◌, ◌⊎◌, List, Option, Some, None}
use Rattle.std.proofs.Common.{ap, inl, inr, ⊎_elim, arith}
use Rattle.std.proofs.Math.Decide.{dec_lt, ℕ_discrete}
use Rattle.instruction.specs.declared.Entry.{Entry}
use Rattle.instruction.specs.Opcodes.{decoded}
use Rattle.manual.specs.declared.Lines.{Lines}
use Rattle.manual.specs.declared.Machine.{Machine}
use Rattle.manual.specs.declared.Stepped.{Stepped}
use Rattle.manual.specs.declared.Reason.{Reason}
use Rattle.manual.specs.declared.Reason.TheVariants.{MemoryNotFull, NoCycleRoom, NotAnOpcode}
use Rattle.manual.specs.Micro.{exec, Gives}
use Rattle.manual.specs.Outcomes.{number, refused}
use Rattle.manual.specs.Interrupts.{due}
use Rattle.manual.specs.Stepping.{full_memory, highest_count, step_full, step}
use Rattle.manual.proofs.Lemmas.StepLaws.{opcode_of, step_short, step_whole, step_late, step_serves, step_undefined, step_defined}

-- why a step on a full memory is refused: no room, or, with no line to serve, no opcode
abbrev pub NoRoom : Machine → Type 0
NoRoom s = highest_count < s.cycles

abbrev pub NoOpcode : Lines → Machine → List ℕ → Type 0
NoOpcode lines s m = (s.cycles ≤ highest_count) × (due lines s ≡ None) × (decoded (opcode_of s m) ≡ None)

-- there is room, and a line is served
abbrev pub Served : Lines → Machine → Type 0
Served lines s = (s.cycles ≤ highest_count) × ((vector : ℕ) × (due lines s ≡ Some vector))

-- there is room and no line to serve, and the byte at the counter is one of the 151
abbrev pub Ready : Lines → Machine → List ℕ → Type 0
Ready lines s m = (s.cycles ≤ highest_count) × (due lines s ≡ None) × ((e : Entry) × (decoded (opcode_of s m) ≡ Some e))

-- the four ways of a step on a full memory
pub data Way (lines : Lines) (s : Machine) (m : List ℕ) : Type 0 where
  late : NoRoom s → Way lines s m
  serves : Served lines s → Way lines s m
  undefined : NoOpcode lines s m → Way lines s m
  ready : Ready lines s m → Way lines s m

pub way : (lines : Lines) (s : Machine) (m : List ℕ) → Way lines s m
way lines s m = room (dec_lt highest_count s.cycles)
  where
    opcode : s.cycles ≤ highest_count → due lines s ≡ None → (d : Option Entry) → decoded (opcode_of s m) ≡ d → Way lines s m
    opcode h q (Some e) p = ready (h, q, (e, p))
    opcode h q None p = undefined (h, q, p)

    line : s.cycles ≤ highest_count → (d : Option ℕ) → due lines s ≡ d → Way lines s m
    line h (Some vector) p = serves (h, (vector, p))
    line h None p = opcode h p (decoded (opcode_of s m)) refl

    room : Dec (highest_count < s.cycles) → Way lines s m
    room (yes h) = late h
    room (no n) = line (omega arith) (due lines s) refl

-- the answer to a step, and that it is the one of any result that meets the step's promise
abbrev pub step_answer : ℕ → Lines → Machine → List ℕ → ℕ
step_answer size lines s m = number (exec (step size lines s) m).0.reason

answers : (size : ℕ) (lines : Lines) (s : Machine) (m : List ℕ) {q : Stepped} {m' : List ℕ}
    → Gives (step size lines s) m q m' → step_answer size lines s m ≡ number q.reason
answers size lines s m g = ap (λ (w : Stepped × List ℕ). number w.0.reason) g

-- The table for a step: each answer is given exactly when the rules say, and a refused step changes nothing.
pub record StepAnswers (size : ℕ) (lines : Lines) (s : Machine) (m : List ℕ) : Type 0 where
  pub zero : (step_answer size lines s m ≡ 0) ↔ ((size ≡ full_memory) × (Served lines s ⊎ Ready lines s m))
  pub one : (step_answer size lines s m ≡ 1) ↔ (size ≡ full_memory → ⊥)
  pub two : (step_answer size lines s m ≡ 2) ↔ ((size ≡ full_memory) × NoRoom s)
  pub three : (step_answer size lines s m ≡ 3) ↔ ((size ≡ full_memory) × NoOpcode lines s m)
  -- a step has no bound that could be too high
  pub four : step_answer size lines s m ≡ 4 → ⊥
  pub unchanged : (step_answer size lines s m ≡ 0 → ⊥) → Gives (step size lines s) m (refused (exec (step size lines s) m).0.reason s) m

pub not_both : (d : Option Entry) (e : Entry) → d ≡ None → d ≡ Some e → ⊥
not_both d e p q = let z : ◌≡◌ {A = ℕ} 0 1 = cc in omega arith

pub not_quiet : (d : Option ℕ) (vector : ℕ) → d ≡ None → d ≡ Some vector → ⊥
not_quiet d vector p q = let z : ◌≡◌ {A = ℕ} 0 1 = cc in omega arith

-- what is no opcode, with no line to serve, is not made
not_made : (lines : Lines) (s : Machine) (m : List ℕ) → NoOpcode lines s m → Served lines s ⊎ Ready lines s m → ⊥
not_made lines s m h = ⊎_elim (λ g. not_quiet _ _ h.1 g.1.1) (λ g. not_both _ _ h.2 g.2.1)

-- and there is room for what is made
has_room : (lines : Lines) (s : Machine) (m : List ℕ) → Served lines s ⊎ Ready lines s m → s.cycles ≤ highest_count
has_room lines s m = ⊎_elim (λ g. g.0) (λ g. g.0)

-- a refusal, from the step's law
module _ (size : ℕ) (lines : Lines) (s : Machine) (m : List ℕ) where
  stays : (r : Reason) → Gives (step size lines s) m (refused r s) m → Gives (step size lines s) m (refused (exec (step size lines s) m).0.reason s) m
  stays r g = rw (ap (λ (w : Stepped × List ℕ). w.0.reason) g) g

  whole : {q : Stepped} {m' : List ℕ} → size ≡ full_memory → Gives (step_full lines s) m q m' → Gives (step size lines s) m q m'
  whole e g = rw (step_whole size lines s e) g

  is_made_lem : size ≡ full_memory → Served lines s ⊎ Ready lines s m → step_answer size lines s m ≡ 0 → StepAnswers size lines s m
  is_made_lem f h a = record {
    zero = (λ z. (f, h), λ c. a);
    one = (λ z. absurd (omega arith), λ c. absurd (c f));
    two = (λ z. absurd (omega arith), λ c. absurd (omega (arith, has_room lines s m h)));
    three = (λ z. absurd (omega arith), λ c. absurd (not_made lines s m c.1 h));
    four = λ z. omega arith;
    unchanged = λ z. absurd (z a);
  }

  by_way : size ≡ full_memory → Way lines s m → StepAnswers size lines s m
  by_way f (late h) =
      let g = whole f (step_late lines s m h) in
      let a : step_answer size lines s m ≡ 2 = answers size lines s m g in
      record {
        zero = (λ z. absurd (omega arith), λ c. absurd (omega (arith, has_room lines s m c.1)));
        one = (λ z. absurd (omega arith), λ c. absurd (c f));
        two = (λ z. (f, h), λ c. a);
        three = (λ z. absurd (omega arith), λ c. absurd (omega (arith, c.1.0)));
        four = λ z. omega arith;
        unchanged = λ z. stays NoCycleRoom g;
      }
  by_way f (serves h) = is_made_lem f (inl h) (answers size lines s m (whole f (step_serves lines s m h.1.0 h.0 h.1.1 refl)))
  by_way f (undefined h) =
      let g = whole f (step_undefined lines s m h.0 h.1 h.2) in
      let a : step_answer size lines s m ≡ 3 = answers size lines s m g in
      record {
        zero = (λ z. absurd (omega arith), λ c. absurd (not_made lines s m h c.1));
        one = (λ z. absurd (omega arith), λ c. absurd (c f));
        two = (λ z. absurd (omega arith), λ c. absurd (omega (arith, h.0)));
        three = (λ z. (f, h), λ c. a);
        four = λ z. omega arith;
        unchanged = λ z. stays NotAnOpcode g;
      }
  by_way f (ready h) = is_made_lem f (inr h) (answers size lines s m (whole f (step_defined lines s m h.2.0 h.0 h.1 h.2.1 refl)))

  not_full : (size ≡ full_memory → ⊥) → StepAnswers size lines s m
  not_full f =
      let g = step_short size lines s m f in
      let a : step_answer size lines s m ≡ 1 = answers size lines s m g in
      record {
        zero = (λ z. absurd (omega arith), λ c. absurd (f c.0));
        one = (λ z. f, λ c. a);
        two = (λ z. absurd (omega arith), λ c. absurd (f c.0));
        three = (λ z. absurd (omega arith), λ c. absurd (f c.0));
        four = λ z. omega arith;
        unchanged = λ z. stays MemoryNotFull g;
      }

pub step_answers : (size : ℕ) (lines : Lines) (s : Machine) (m : List ℕ) → StepAnswers size lines s m
step_answers size lines s m = go (ℕ_discrete size full_memory)
  where
    go : Dec (size ≡ full_memory) → StepAnswers size lines s m
    go (yes e) = by_way size lines s m e (way lines s m)
    go (no f) = not_full size lines s m f
