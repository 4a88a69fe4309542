-- The definition's answer behind the numbers of a call: how the three runs end, and that the numbers hold the machine that is left.
use Rattle.std.specs.Prelude.{ℕ, zero, suc, ◌+◌, ◌≤◌, ◌≡◌, refl, Bool, true, false, ◌↔◌, ◌⊎◌, List}
use Rattle.std.proofs.Common.{ap, sym, ◌∙◌, subst, ⊎_elim, arith}
use Rattle.manual.specs.declared.Lines.{Lines}
use Rattle.manual.specs.declared.Machine.{Machine}
use Rattle.manual.specs.declared.Ended.{Ended}
use Rattle.manual.specs.declared.Reason.{Reason}
use Rattle.manual.specs.declared.Reason.TheVariants.{Made, MemoryNotFull, NoCycleRoom, NotAnOpcode, BoundTooHigh}
use Rattle.manual.specs.Micro.{Micro, done, exec, ◌>>=◌, Gives}
use Rattle.manual.specs.Outcomes.{number, is_made}
use Rattle.manual.specs.Stepping.{full_memory, highest_bound}
use Rattle.manual.specs.Lemmas.Programs.{exec_bind}
use Rattle.manual.proofs.Lemmas.StepLaws.{was_refused}
use Rattle.manual.proofs.Theorems.Answers.{NoRoom, NoOpcode}
use Rattle.manual.proofs.Theorems.RunAnswers.{Leads, Ends, all_made_lem, no_cycle_room_lem, not_an_opcode_lem, RunTable, ran, memory_not_full_lem, bound_too_high_lem, LongTable, long_ran, long_not_full}
use Rattle.manual.proofs.Theorems.Spending.{CycleTable, ran as spent-ran, memory_not_full_lem as cycles-not-full, limit_too_high, ends, spent, no_cycle_room_lem as late-unspent, not_an_opcode_lem as undefined-unspent}
use Rattle.registers.specs.InRange.{InRange}
use Rattle.mos6502_numbers.specs.Packed.{unpacked}
use Rattle.mos6502_numbers.specs.Lemmas.RoundTrip.{unpacked_packed, level_packed}
use Rattle.mos6502_numbers.specs.Machines.{machine_from, registers_after, cycles_after}

-- ---- the answer behind the numbers

pub record Behind {A B : Type 0} (p : Micro A) (f : A → B) (m : List ℕ) (v : B) (m' : List ℕ) : Type 0 where
  pub told : v ≡ f (exec p m).0
  pub leaves : m' ≡ (exec p m).1

pub behind : {A B : Type 0} (p : Micro A) (f : A → B) (m : List ℕ) {v : B} {m' : List ℕ} → Gives (p >>= (λ a. done (f a))) m v m' → Behind p f m v m'
behind p f m g =
    let w = sym (exec_bind p (λ a. done (f a)) m) ∙ g in
    record { told = sym (ap (λ (w : _ × List ℕ). w.0) w); leaves = sym (ap (λ (w : _ × List ℕ). w.1) w) }

-- what is said of the definition's answer is said of what comes back
pub carried : {A B : Type 0} {p : Micro A} {f : A → B} {m : List ℕ} {v : B} {m' : List ℕ} (P : B → List ℕ → Type 0) → Behind p f m v m'
    → P (f (exec p m).0) (exec p m).1 → P v m'
carried {p = p} {m = m} {v = v} P b h = subst (P v) (sym b.leaves) (subst (λ v. P v (exec p m).1) (sym b.told) h)

-- ---- the answers' numbers

pub number_refused : (r : Reason) → is_made r ≡ false → number r ≡ 0 → ⊥
number_refused r e z = was_refused r e (is_made_lem r z)
  where
    is_made_lem : (r : Reason) → number r ≡ 0 → r ≡ Made
    is_made_lem Made z = refl
    is_made_lem MemoryNotFull z = absurd (omega arith)
    is_made_lem NoCycleRoom z = absurd (omega arith)
    is_made_lem NotAnOpcode z = absurd (omega arith)
    is_made_lem BoundTooHigh z = absurd (omega arith)

pub number_most : (r : Reason) → number r ≤ 4
number_most Made = omega arith
number_most MemoryNotFull = omega arith
number_most NoCycleRoom = omega arith
number_most NotAnOpcode = omega arith
number_most BoundTooHigh = omega arith

-- ---- the machine that the numbers hold

-- any number's registers are in range
pub from_in_range : (n : ℕ) → InRange (unpacked n)
unfolding unpacked
from_in_range n = record { accumulator = omega arith; x = omega arith; y = omega arith; stack = omega arith; counter = omega arith }

pub held : (t : Bool) (q : Machine) (registers cycles : ℕ) → InRange q.registers → (t ≡ false → q ≡ machine_from registers cycles)
    → machine_from (registers_after t q registers) (cycles_after t q cycles) ≡ q
held true q registers cycles h f = rw (unpacked_packed q.registers q.nmi h, level_packed q.registers q.nmi h)
held false q registers cycles h f = sym (f refl)

-- no step made, and the machine and the memory are those that they were
pub none_made : (k : ℕ) (lines : Lines) (s : Machine) (m : List ℕ) (s' : Machine) (m' : List ℕ) → Leads k lines s m s' m' → k ≡ 0 → (s' ≡ s) × (m' ≡ m)
none_made zero lines s m s' m' h e = (sym h.0, sym h.1)
none_made (suc k) lines s m s' m' h e = absurd (omega arith)

-- ---- how a run ended, and what its answer means

module _ (full allowed over : Type 0) (lines : Lines) (q : Ended) (m' : List ℕ) where
  pub data Came : Type 0 where
    finished : full → allowed → over → q.reason ≡ Made → Came
    late : full → allowed → (over → ⊥) → NoRoom q.machine → q.reason ≡ NoCycleRoom → Came
    undefined : full → allowed → (over → ⊥) → NoOpcode lines q.machine m' → q.reason ≡ NotAnOpcode → Came
    short : (full → ⊥) → q.steps ≡ 0 → q.reason ≡ MemoryNotFull → Came
    high : full → (allowed → ⊥) → q.steps ≡ 0 → q.reason ≡ BoundTooHigh → Came

  abbrev answer : ℕ
  answer = number q.reason

  -- each answer exactly when
  pub record Means : Type 0 where
    pub zero : (answer ≡ 0) ↔ (full × allowed × over)
    pub one : (answer ≡ 1) ↔ (full → ⊥)
    pub two : (answer ≡ 2) ↔ (full × allowed × (over → ⊥) × NoRoom q.machine)
    pub three : (answer ≡ 3) ↔ (full × allowed × (over → ⊥) × NoOpcode lines q.machine m')
    pub four : (answer ≡ 4) ↔ (full × (allowed → ⊥))
    pub none : (answer ≡ 1) ⊎ (answer ≡ 4) → q.steps ≡ 0

  pub means : Came → Means
  means (finished f a o e) =
      let is : answer ≡ 0 = ap number e in
      record {
        zero = (λ z. (f, a, o), λ c. is);
        one = (λ z. absurd (omega arith), λ c. absurd (c f));
        two = (λ z. absurd (omega arith), λ c. absurd (c.2 o));
        three = (λ z. absurd (omega arith), λ c. absurd (c.2 o));
        four = (λ z. absurd (omega arith), λ c. absurd (c.1 a));
        none = ⊎_elim (λ z. absurd (omega arith)) (λ z. absurd (omega arith));
      }
  means (late f a o r e) =
      let is : answer ≡ 2 = ap number e in
      record {
        zero = (λ z. absurd (omega arith), λ c. absurd (o c.2));
        one = (λ z. absurd (omega arith), λ c. absurd (c f));
        two = (λ z. (f, a, o, r), λ c. is);
        three = (λ z. absurd (omega arith), λ c. absurd (omega (arith, c.3.0)));
        four = (λ z. absurd (omega arith), λ c. absurd (c.1 a));
        none = ⊎_elim (λ z. absurd (omega arith)) (λ z. absurd (omega arith));
      }
  means (undefined f a o r e) =
      let is : answer ≡ 3 = ap number e in
      record {
        zero = (λ z. absurd (omega arith), λ c. absurd (o c.2));
        one = (λ z. absurd (omega arith), λ c. absurd (c f));
        two = (λ z. absurd (omega arith), λ c. absurd (omega (arith, c.3, r.0)));
        three = (λ z. (f, a, o, r), λ c. is);
        four = (λ z. absurd (omega arith), λ c. absurd (c.1 a));
        none = ⊎_elim (λ z. absurd (omega arith)) (λ z. absurd (omega arith));
      }
  means (short f n e) =
      let is : answer ≡ 1 = ap number e in
      record {
        zero = (λ z. absurd (omega arith), λ c. absurd (f c.0));
        one = (λ z. f, λ c. is);
        two = (λ z. absurd (omega arith), λ c. absurd (f c.0));
        three = (λ z. absurd (omega arith), λ c. absurd (f c.0));
        four = (λ z. absurd (omega arith), λ c. absurd (f c.0));
        none = λ z. n;
      }
  means (high f a n e) =
      let is : answer ≡ 4 = ap number e in
      record {
        zero = (λ z. absurd (omega arith), λ c. absurd (a c.1));
        one = (λ z. absurd (omega arith), λ c. absurd (c f));
        two = (λ z. absurd (omega arith), λ c. absurd (a c.1));
        three = (λ z. absurd (omega arith), λ c. absurd (a c.1));
        four = (λ z. (f, a), λ c. is);
        none = λ z. n;
      }

-- what the answer means, and where the steps led
pub record Told (full allowed over : Type 0) (lines : Lines) (s : Machine) (m : List ℕ) (q : Ended) (m' : List ℕ) : Type 0 where
  pub came : Came full allowed over lines q m'
  pub led : Leads q.steps lines s m q.machine m'

module _ (size bound : ℕ) (lines : Lines) (s : Machine) (m : List ℕ) where
  -- a run that is not refused before its first step is over when all its steps are made
  ended_told : (full allowed : Type 0) {q : Ended} {m' : List ℕ} → full → allowed → Ends bound lines s m q m'
      → Told full allowed (q.steps ≡ bound) lines s m q m'
  ended_told full allowed f a (all_made_lem h) = record { came = finished f a refl refl; led = h }
  ended_told full allowed f a (no_cycle_room_lem l h r) = record { came = late f a (λ e. omega arith) r refl; led = h }
  ended_told full allowed f a (not_an_opcode_lem l h r) = record { came = undefined f a (λ e. omega arith) r refl; led = h }

  pub run_told : {q : Ended} {m' : List ℕ} → RunTable size bound lines s m q m'
      → Told (size ≡ full_memory) (bound ≤ highest_bound) (q.steps ≡ bound) lines s m q m'
  run_told (ran a e) = ended_told (size ≡ full_memory) (bound ≤ highest_bound) a.0 a.1 e
  run_told (memory_not_full_lem f) = record { came = short f refl refl; led = (refl, refl) }
  run_told (bound_too_high_lem f l) = record { came = high f (λ a. omega arith) refl refl; led = (refl, refl) }

  pub long_run_told : {q : Ended} {m' : List ℕ} → LongTable size bound lines s m q m'
      → Told (size ≡ full_memory) (Unit {0}) (q.steps ≡ bound) lines s m q m'
  long_run_told (long_ran f e) = ended_told (size ≡ full_memory) (Unit {0}) f tt e
  long_run_told (long_not_full f) = record { came = short f refl refl; led = (refl, refl) }

  -- a run by cycles is over when its limit or more is spent
  pub cycles_told : {q : Ended} {m' : List ℕ} → CycleTable size bound lines s m q m'
      → Told (size ≡ full_memory) (bound ≤ highest_bound) (s.cycles + bound ≤ q.machine.cycles) lines s m q m'
  cycles_told (spent-ran a (ends h b (spent l))) = record { came = finished a.0 a.1 l refl; led = h }
  cycles_told (spent-ran a (ends h b (late-unspent l r))) = record { came = late a.0 a.1 (λ e. omega arith) r refl; led = h }
  cycles_told (spent-ran a (ends h b (undefined-unspent l r))) = record { came = undefined a.0 a.1 (λ e. omega arith) r refl; led = h }
  cycles_told (cycles-not-full f) = record { came = short f refl refl; led = (refl, refl) }
  cycles_told (limit_too_high f l) = record { came = high f (λ a. omega arith) refl refl; led = (refl, refl) }
