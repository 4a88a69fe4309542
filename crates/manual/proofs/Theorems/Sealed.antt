-- Demand 3. Two executions start from the same machine, its last level of NMI too, with the same levels of the lines (and, for a run, the
-- same bound) on full memories that differ only at sealed addresses. If the first reads no sealed address, then both give the same: reason,
-- step count, registers, cycles and the last level of NMI. Their memories hold
-- the same bytes elsewhere; a sealed byte that the first stored to is equal in both; any other sealed byte keeps its own starting value.
-- `Sealed` is any predicate on addresses; what the first reads is the rules' list (ReadList). One induction over programs proves it for all.
use Rattle.std.specs.Prelude.{ℕ, zero, suc, ◌≡◌, refl, set, length}
use Rattle.std.proofs.Math.Path.{ap, subst}
use Rattle.std.proofs.Common.{sym, ◌∙◌, inl, inr, arith}
use Rattle.std.proofs.Math.Logic.{⊎_elim}
use mathlib.Core.List.{List, [], ◌∷◌}
use Rattle.std.proofs.Math.ListN.{get_or, length-set}
use Rattle.manual.specs.declared.Lines.{Lines}
use Rattle.manual.specs.declared.Machine.{Machine}
use Rattle.manual.specs.Micro.{Micro, done, read, write, exec, accesses, reads, stores, Gives}
use Rattle.manual.specs.declared.Stepped.{Stepped}
use Rattle.manual.specs.declared.Ended.{Ended}
use Rattle.manual.specs.Stepping.{step, run, long_run}
use Rattle.manual.specs.ReadList.{listed_step, listed_run, listed_long_run}
use Rattle.manual.specs.Lemmas.Programs.{◌∈◌, untouched}
use Rattle.manual.proofs.Theorems.Reads.{step_reads, run_reads, long_run_reads}

-- two full memories that differ only at sealed addresses
pub record Differ (Sealed : ℕ → Type 0) (m₁ m₂ : List ℕ) : Type 0 where
  pub full₁ : length m₁ ≡ 65536
  pub full₂ : length m₂ ≡ 65536
  pub same : (a : ℕ) → (Sealed a → ⊥) → get_or m₁ a 0 ≡ get_or m₂ a 0

-- none of the addresses in the list is sealed
abbrev pub Unsealed : (ℕ → Type 0) → List ℕ → Type 0
Unsealed Sealed l = (a : ℕ) → a ∈ l → Sealed a → ⊥

-- the memories e₁ and e₂ left of m₁ and m₂, where the first execution stored to the addresses of the list
pub record Kept (Sealed : ℕ → Type 0) (stored_to m₁ m₂ e₁ e₂ : List ℕ) : Type 0 where
  pub elsewhere : (a : ℕ) → (Sealed a → ⊥) → get_or e₁ a 0 ≡ get_or e₂ a 0
  pub stored : (a : ℕ) → Sealed a → a ∈ stored_to → get_or e₁ a 0 ≡ get_or e₂ a 0
  pub own₁ : (a : ℕ) → Sealed a → (a ∈ stored_to → ⊥) → get_or e₁ a 0 ≡ get_or m₁ a 0
  pub own₂ : (a : ℕ) → Sealed a → (a ∈ stored_to → ⊥) → get_or e₂ a 0 ≡ get_or m₂ a 0

-- a store at the same place keeps what agreed, and agrees itself
pub agree_set : (m₁ m₂ : List ℕ) (q b a : ℕ) → length m₁ ≡ length m₂ → get_or m₁ a 0 ≡ get_or m₂ a 0 → get_or (set m₁ q b) a 0 ≡ get_or (set m₂ q b) a 0
agree_set [] [] q b a l e = refl
agree_set [] (y ∷ ys) q b a l e = absurd (omega arith)
agree_set (x ∷ xs) [] q b a l e = absurd (omega arith)
agree_set (x ∷ xs) (y ∷ ys) zero b zero l e = refl
agree_set (x ∷ xs) (y ∷ ys) zero b (suc a) l e = e
agree_set (x ∷ xs) (y ∷ ys) (suc q) b zero l e = e
agree_set (x ∷ xs) (y ∷ ys) (suc q) b (suc a) l e = agree_set xs ys q b a (omega arith) e

agree_at : (m₁ m₂ : List ℕ) (q b : ℕ) → length m₁ ≡ length m₂ → get_or (set m₁ q b) q 0 ≡ get_or (set m₂ q b) q 0
agree_at [] [] q b l = refl
agree_at [] (y ∷ ys) q b l = absurd (omega arith)
agree_at (x ∷ xs) [] q b l = absurd (omega arith)
agree_at (x ∷ xs) (y ∷ ys) zero b l = refl
agree_at (x ∷ xs) (y ∷ ys) (suc q) b l = agree_at xs ys q b (omega arith)

-- what two executions share
record Shared {A : Type 0} (p₁ : Micro A) (m₁ : List ℕ) (p₂ : Micro A) (m₂ : List ℕ) : Type 0 where
  result : (exec p₁ m₁).0 ≡ (exec p₂ m₂).0
  same_stores : stores p₁ m₁ ≡ stores p₂ m₂
  kept : (a : ℕ) → get_or m₁ a 0 ≡ get_or m₂ a 0 → get_or (exec p₁ m₁).1 a 0 ≡ get_or (exec p₂ m₂).1 a 0
  stored : (a : ℕ) → a ∈ stores p₁ m₁ → get_or (exec p₁ m₁).1 a 0 ≡ get_or (exec p₂ m₂).1 a 0

module _ (Sealed : ℕ → Type 0) where
  shared : {A : Type 0} (p : Micro A) (m₁ m₂ : List ℕ) → length m₁ ≡ length m₂
      → ((a : ℕ) → (Sealed a → ⊥) → get_or m₁ a 0 ≡ get_or m₂ a 0) → Unsealed Sealed (reads p m₁) → Shared p m₁ p m₂
  unfolding accesses
  shared (done x) m₁ m₂ l s u = record { result = refl; same_stores = refl; kept = λ a e. e; stored = λ a i. absurd i }
  shared (read q k) m₁ m₂ l s u =
      let h : Shared (k (get_or m₁ q 0)) m₁ (k (get_or m₂ q 0)) m₂ =
      subst (λ (b : ℕ). Shared (k (get_or m₁ q 0)) m₁ (k b) m₂) (s q (u q (inl refl)))
      (shared (k (get_or m₁ q 0)) m₁ m₂ l s (λ a i. u a (inr i))) in
      record { result = h.result; same_stores = h.same_stores; kept = h.kept; stored = h.stored }
  shared (write q b k) m₁ m₂ l s u =
      let h : Shared k (set m₁ q b) k (set m₂ q b) =
      shared k (set m₁ q b) (set m₂ q b) (simp length-set l) (λ a f. agree_set m₁ m₂ q b a l (s a f)) u in
      record {
        result = h.result;
        same_stores = ap (λ (t : List ℕ). q ∷ t) h.same_stores;
        kept = λ a e. h.kept a (agree_set m₁ m₂ q b a l e);
        stored = λ a i.
            ⊎_elim
            (λ (e : a ≡ q). h.kept a (subst (λ (c : ℕ). get_or (set m₁ q b) c 0 ≡ get_or (set m₂ q b) c 0) (sym e) (agree_at m₁ m₂ q b l)))
            (h.stored a)
            i;
      }

-- if it reads nothing sealed, a program stores to the same addresses on both
pub stores_alike : {A : Type 0} (Sealed : ℕ → Type 0) (p : Micro A) (m₁ m₂ : List ℕ) → Differ Sealed m₁ m₂ → Unsealed Sealed (reads p m₁)
    → stores p m₁ ≡ stores p m₂
stores_alike Sealed p m₁ m₂ d u = (shared Sealed p m₁ m₂ (d.full₁ ∙ sym d.full₂) d.same u).same_stores

-- demand 3 of any program, for whatever results meet its promise on the two memories
pub sealed : {A : Type 0} (Sealed : ℕ → Type 0) (p : Micro A) (m₁ m₂ : List ℕ) {q₁ q₂ : A} {e₁ e₂ : List ℕ}
    → Differ Sealed m₁ m₂ → Unsealed Sealed (reads p m₁) → Gives p m₁ q₁ e₁ → Gives p m₂ q₂ e₂
    → (q₁ ≡ q₂) × Kept Sealed (stores p m₁) m₁ m₂ e₁ e₂
sealed Sealed p m₁ m₂ d u g₁ g₂ =
    let h = shared Sealed p m₁ m₂ (d.full₁ ∙ sym d.full₂) d.same u in
    let x₁ = ap (λ (w : _ × List ℕ). w.1) g₁ in
    let x₂ = ap (λ (w : _ × List ℕ). w.1) g₂ in (
      sym (ap (λ (w : _ × List ℕ). w.0) g₁) ∙ h.result ∙ ap (λ (w : _ × List ℕ). w.0) g₂,
      record {
        elsewhere = λ a f. rw (← x₁, ← x₂) (h.kept a (d.same a f));
        stored = λ a s i. rw (← x₁, ← x₂) (h.stored a i);
        own₁ = λ a s f. rw (← x₁) (untouched p m₁ a f);
        own₂ = λ a s f. rw (← x₂) (untouched p m₂ a (λ i. f (subst (λ (l : List ℕ). a ∈ l) (sym h.same_stores) i)));
      },
    )

-- demand 3 of a step
pub step_sealed : (Sealed : ℕ → Type 0) (lines : Lines) (s : Machine) (m₁ m₂ : List ℕ) {q₁ q₂ : Stepped} {e₁ e₂ : List ℕ}
    → Differ Sealed m₁ m₂
    → Unsealed Sealed (listed_step (length m₁) lines s m₁)
    → Gives (step (length m₁) lines s) m₁ q₁ e₁
    → Gives (step (length m₂) lines s) m₂ q₂ e₂
    → (q₁ ≡ q₂) × Kept Sealed (stores (step (length m₁) lines s) m₁) m₁ m₂ e₁ e₂
step_sealed Sealed lines s m₁ m₂ {q₂ = q₂} {e₂ = e₂} d u g₁ g₂ =
    sealed Sealed (step (length m₁) lines s) m₁ m₂ d (subst (Unsealed Sealed) (sym (step_reads (length m₁) lines s m₁)) u) g₁
    (subst (λ (n : ℕ). Gives (step n lines s) m₂ q₂ e₂) (d.full₂ ∙ sym d.full₁) g₂)

-- demand 3 of a bounded run
pub run_sealed_lem : (Sealed : ℕ → Type 0) (bound : ℕ) (lines : Lines) (s : Machine) (m₁ m₂ : List ℕ) {q₁ q₂ : Ended} {e₁ e₂ : List ℕ}
    → Differ Sealed m₁ m₂
    → Unsealed Sealed (listed_run (length m₁) bound lines s m₁)
    → Gives (run (length m₁) bound lines s) m₁ q₁ e₁
    → Gives (run (length m₂) bound lines s) m₂ q₂ e₂
    → (q₁ ≡ q₂) × Kept Sealed (stores (run (length m₁) bound lines s) m₁) m₁ m₂ e₁ e₂
run_sealed_lem Sealed bound lines s m₁ m₂ {q₂ = q₂} {e₂ = e₂} d u g₁ g₂ =
    sealed Sealed (run (length m₁) bound lines s) m₁ m₂ d (subst (Unsealed Sealed) (sym (run_reads (length m₁) bound lines s m₁)) u) g₁
    (subst (λ (n : ℕ). Gives (run n bound lines s) m₂ q₂ e₂) (d.full₂ ∙ sym d.full₁) g₂)

-- demand 3 of a run of any number of steps
pub long_run_sealed : (Sealed : ℕ → Type 0) (bound : ℕ) (lines : Lines) (s : Machine) (m₁ m₂ : List ℕ) {q₁ q₂ : Ended} {e₁ e₂ : List ℕ}
    → Differ Sealed m₁ m₂
    → Unsealed Sealed (listed_long_run (length m₁) bound lines s m₁)
    → Gives (long_run (length m₁) bound lines s) m₁ q₁ e₁
    → Gives (long_run (length m₂) bound lines s) m₂ q₂ e₂
    → (q₁ ≡ q₂) × Kept Sealed (stores (long_run (length m₁) bound lines s) m₁) m₁ m₂ e₁ e₂
long_run_sealed Sealed bound lines s m₁ m₂ {q₂ = q₂} {e₂ = e₂} d u g₁ g₂ =
    sealed Sealed (long_run (length m₁) bound lines s) m₁ m₂ d (subst (Unsealed Sealed) (sym (long_run_reads (length m₁) bound lines s m₁)) u) g₁
    (subst (λ (n : ℕ). Gives (long_run n bound lines s) m₂ q₂ e₂) (d.full₂ ∙ sym d.full₁) g₂)
