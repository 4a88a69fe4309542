-- What the promise of `run_to` is worth: when it is over, and that until then it is the run.
use Prim.Native.Nat.{ℕ, zero, suc, ◌+◌, ◌≤◌, ◌<◌}
use Rattle.std.specs.Prelude.{◌≡◌, refl, Bool, true, false, not, cond, List, ◌↔◌, eqb}
use Rattle.std.proofs.Common.{ap, sym, ◌∙◌, subst, arith, eqb-true, eq-eqb, ne_eqb}
use Rattle.std.proofs.Math.Decide.{ℕ_discrete}
use Rattle.laws.specs.Answers.{not_refused, not_there}
use Rattle.manual.specs.declared.Lines.{Lines}
use Rattle.manual.specs.declared.Machine.{Machine}
use Rattle.manual.specs.declared.Stepped.{Stepped}
use Rattle.manual.specs.declared.Ended.{Ended}
use Rattle.manual.specs.declared.Reason.{Reason}
use Rattle.manual.specs.declared.Reason.TheVariants.{Made, MemoryNotFull, NoCycleRoom, NotAnOpcode, BoundTooHigh}
use Rattle.manual.specs.Micro.{Micro, exec, Gives}
use Rattle.manual.specs.Outcomes.{number, is_made, refused, ended}
use Rattle.manual.specs.Stepping.{full_memory, step_full, run_while}
use Rattle.manual.proofs.Lemmas.StepLaws.{step_late, step_serves, step_undefined, step_defined, was_refused, while_over, while_more, while_stop}
use Rattle.manual.proofs.Theorems.Answers.{NoRoom, NoOpcode, Way, late, serves, undefined, ready, way}
use Rattle.manual.proofs.Theorems.RunAnswers.{Leads, same}
use Rattle.guard_stop.specs.Stop.{elsewhere, run_to, stop_answer}
use Rattle.guard_stop.specs.Lemmas.Nearing.{to_short, to_whole}

abbrev pub At : ℕ → Machine → Type 0
At stop s = s.registers.counter ≡ stop

module _ (stop : ℕ) (lines : Lines) where
  -- before none of the first k steps the counter is at the address
  abbrev pub Before : ℕ → Machine → List ℕ → Type 0
  Before k s m = (j : ℕ) (s₁ : Machine) (m₁ : List ℕ) → j < k → Leads j lines s m s₁ m₁ → At stop s₁ → ⊥

  -- why no step more is made after k of at most n, and the reason that is given
  pub data Over (n k : ℕ) (s : Machine) (m : List ℕ) : Reason → Type 0 where
    -- 0 with the counter at the address, and 15 if it is not
    arrived : At stop s → Over n k s m Made
    all_made_lem : (At stop s → ⊥) → k ≡ n → Over n k s m Made
    -- 2 and 3: the next step is refused, and does not begin at the address
    no_cycle_room_lem : (At stop s → ⊥) → k < n → NoRoom s → Over n k s m NoCycleRoom
    not_an_opcode_lem : (At stop s → ⊥) → k < n → NoOpcode lines s m → Over n k s m NotAnOpcode

  -- how a run of at most n steps ends on a full memory
  pub record Comes (n k : ℕ) (s : Machine) (m : List ℕ) (q : Ended) (m' : List ℕ) : Type 0 where
    pub steps : ℕ
    pub count : q.steps ≡ k + steps
    pub few : steps ≤ n
    pub leads : Leads steps lines s m q.machine m'
    pub before : Before steps s m
    pub over : Over n steps q.machine m' q.reason

  -- no step is made
  module _ (n k : ℕ) (s : Machine) (m : List ℕ) (r : Reason) (o : Over n 0 s m r) where
    none : Comes n k s m (ended r k s) m
    none = record {
      steps = 0;
      count = omega arith;
      few = omega arith;
      leads = (refl, refl);
      before = λ j s₁ m₁ l. absurd (omega arith);
      over = o;
    }

  -- one step is made, and then the others
  module _ (n k : ℕ) (s : Machine) (m : List ℕ) (f : At stop s → ⊥) (q : Stepped) (m₁ : List ℕ) (g : Gives (step_full lines s) m q m₁) (r : q.reason ≡ Made) where
    one_more : {p : Ended} {m' : List ℕ} → Comes n (k + 1) q.machine m₁ p m' → Comes (suc n) k s m p m'
    one_more c = record {
      steps = suc c.steps;
      count = omega (arith, c.count);
      few = omega (arith, c.few);
      leads = (q, m₁, g, r, c.leads);
      before = earlier;
      over = later c.over;
    }
      where
        earlier : Before (suc c.steps) s m
        earlier zero s₁ m₂ l led z = f (ap (λ (t : Machine). t.registers.counter) led.0 ∙ z)
        earlier (suc j) s₁ m₂ l (q₁, m₃, g₁, r₁, led) z =
            c.before j s₁ m₂ (omega arith) (same (λ t e. Leads j lines t.machine e s₁ m₂) g₁ led g) z

        later : {x : Reason} {t : Machine} {e : List ℕ} {i : ℕ} → Over n i t e x → Over (suc n) (suc i) t e x
        later (arrived z) = arrived z
        later (all_made_lem z e) = all_made_lem z (ap suc e)
        later (no_cycle_room_lem z l h) = no_cycle_room_lem z (omega arith) h
        later (not_an_opcode_lem z l h) = not_an_opcode_lem z (omega arith) h

  abbrev gives : ℕ → ℕ → Machine → List ℕ → Ended × List ℕ
  gives n k s m = exec (run_while (elsewhere stop) n k lines s) m

  abbrev Right : ℕ → ℕ → Machine → List ℕ → Ended × List ℕ → Type 0
  Right n k s m w = Comes n k s m w.0 w.1

  -- from another address: refused, or a step and then the others
  module _ (n k : ℕ) (s : Machine) (m : List ℕ) (f : At stop s → ⊥) where
    away : elsewhere stop s ≡ true
    away = ap not (ne_eqb s.registers.counter stop f)

    refusal : (r : Reason) → (r ≡ Made → ⊥) → Gives (step_full lines s) m (refused r s) m → Over (suc n) 0 s m r → Right (suc n) k s m (gives (suc n) k s m)
    refusal r x g o = subst (Right (suc n) k s m) (sym (while_stop (elsewhere stop) lines s m (refused r s) m g away n k x)) (none (suc n) k s m r o)

    made : {p : Stepped} {m₁ : List ℕ} → Gives (step_full lines s) m p m₁ → p.reason ≡ Made
        → Right n (k + 1) p.machine m₁ (gives n (k + 1) p.machine m₁)
        → Right (suc n) k s m (gives (suc n) k s m)
    made g r rest = subst (Right (suc n) k s m) (sym (while_more (elsewhere stop) lines s m _ _ g away n k r)) (one_more n k s m f _ _ g r rest)

    by_way : ((t : Machine) (e : List ℕ) → Right n (k + 1) t e (gives n (k + 1) t e)) → Way lines s m → Right (suc n) k s m (gives (suc n) k s m)
    by_way rest (late h) = refusal NoCycleRoom (was_refused NoCycleRoom refl) (step_late lines s m h) (no_cycle_room_lem f (omega arith) h)
    by_way rest (undefined h) =
        refusal NotAnOpcode (was_refused NotAnOpcode refl) (step_undefined lines s m h.0 h.1 h.2) (not_an_opcode_lem f (omega arith) h)
    by_way rest (serves h) = made (step_serves lines s m h.1.0 h.0 h.1.1 refl) refl (rest _ _)
    by_way rest (ready h) = made (step_defined lines s m h.2.0 h.0 h.1 h.2.1 refl) refl (rest _ _)

  there : (n k : ℕ) (s : Machine) (m : List ℕ) → At stop s → Right n k s m (gives n k s m)
  there n k s m z =
      subst (Right n k s m) (sym (while_over (elsewhere stop) n k lines s m (ap not (eq-eqb _ _ z)))) (none n k s m Made (arrived z))

  by_place : (n k : ℕ) (s : Machine) (m : List ℕ) → Dec (At stop s) → ((At stop s → ⊥) → Right n k s m (gives n k s m)) → Right n k s m (gives n k s m)
  by_place n k s m (yes z) else = there n k s m z
  by_place n k s m (no f) else = else f

  right : (n k : ℕ) (s : Machine) (m : List ℕ) → Right n k s m (gives n k s m)
  unfolding run_while
  right zero k s m = by_place 0 k s m (ℕ_discrete _ _) (λ f. none 0 k s m Made (all_made_lem f refl))
  right (suc n) k s m = by_place (suc n) k s m (ℕ_discrete _ _) (λ f. by_way n k s m f (λ t e. right n (k + 1) t e) (way lines s m))

-- The table: what a run to an address answers and leaves.
pub data StopTable (size stop bound : ℕ) (lines : Lines) (s : Machine) (m : List ℕ) : Ended → List ℕ → Type 0 where
  -- 0, 15, 2 and 3
  ran : {q : Ended} {m' : List ℕ} → size ≡ full_memory → Comes stop lines bound 0 s m q m' → StopTable size stop bound lines s m q m'
  -- 1, with no step made and nothing changed
  memory_not_full_lem : (size ≡ full_memory → ⊥) → StopTable size stop bound lines s m (ended MemoryNotFull 0 s) m

-- A run to an address gives what the table says: it makes the steps of the definition until the counter is at the address before one, which it
-- is before none that was made; or until all are made; or until one is refused.
pub run_to_answers : (size stop bound : ℕ) (lines : Lines) (s : Machine) (m : List ℕ) {q : Ended} {m' : List ℕ}
    → Gives (run_to size stop bound lines s) m q m' → StopTable size stop bound lines s m q m'
run_to_answers size stop bound lines s m {q} {m'} g = by_size (ℕ_discrete size full_memory)
  where
    by_size : Dec (size ≡ full_memory) → StopTable size stop bound lines s m q m'
    by_size (yes e) =
        ran e
        (subst (λ (w : Ended × List ℕ). Comes stop lines bound 0 s m w.0 w.1)
        (ap (λ (p : Micro Ended). exec p m) (sym (to_whole size stop bound lines s e)) ∙ g)
        (right stop lines bound 0 s m))
    by_size (no f) = same (StopTable size stop bound lines s m) (to_short size stop bound lines s m f) (memory_not_full_lem f) g

-- It answers 0 exactly when the counter is at the address: "it came back" is no answer.
pub zero_there : (stop : ℕ) (q : Ended) → (stop_answer stop q ≡ not_refused) ↔ ((q.reason ≡ Made) × At stop q.machine)
zero_there stop q = (by_reason q.reason, λ h. rw (h.0, eq-eqb _ _ h.1))
  where
    by_place : (t : Bool) → cond t not_refused not_there ≡ not_refused → t ≡ true
    by_place true e = refl
    by_place false e = absurd (omega arith)

    by_reason : (r : Reason) → cond (is_made r) (cond (eqb q.machine.registers.counter stop) not_refused not_there) (number r) ≡ not_refused
        → (r ≡ Made) × At stop q.machine
    by_reason Made e = (refl, eqb-true _ _ (by_place _ e))
    by_reason MemoryNotFull e = absurd (omega arith)
    by_reason NoCycleRoom e = absurd (omega arith)
    by_reason NotAnOpcode e = absurd (omega arith)
    by_reason BoundTooHigh e = absurd (omega arith)
