-- Programs that stay in range: every address that they read or store to is one of the memory's, every byte that they store is a byte, and
-- what they are done with has a property, given that what they read are bytes.
use Rattle.std.specs.Prelude.{ℕ, zero, suc, ◌<◌, ◌≡◌, ◌⊎◌, List, [], ◌∷◌, get_or, set}
use Rattle.std.proofs.Common.{inl, inr, ⊎_elim}
use Rattle.manual.specs.Micro.{Micro, done, read, write, exec, accesses, reads, stores, ◌>>=◌}
use Rattle.manual.specs.Lemmas.Programs.{◌∈◌}

abbrev pub Within : {A : Type 0} → (A → Type 0) → Micro A → Type 0
Within Q (done a) = Q a
Within Q (read p k) = (p < 65536) × ((b : ℕ) → b < 256 → Within Q (k b))
Within Q (write p b k) = (p < 65536) × (b < 256) × Within Q k

-- a memory of bytes
abbrev pub Bytes : List ℕ → Type 0
Bytes m = (a : ℕ) → get_or m a 0 < 256

bytes_set : (m : List ℕ) (p b : ℕ) → Bytes m → b < 256 → Bytes (set m p b)
bytes_set [] p b h l a = h a
bytes_set (x ∷ xs) zero b h l zero = l
bytes_set (x ∷ xs) zero b h l (suc a) = h (suc a)
bytes_set (x ∷ xs) (suc p) b h l zero = h 0
bytes_set (x ∷ xs) (suc p) b h l (suc a) = bytes_set xs p b (λ i. h (suc i)) l a

-- such a program leaves a memory of bytes
pub within_exec : {A : Type 0} (Q : A → Type 0) (p : Micro A) (m : List ℕ) → Within Q p → Bytes m → Q (exec p m).0 × Bytes (exec p m).1
within_exec Q (done a) m w h = (w, h)
within_exec Q (read p k) m w h = within_exec Q (k (get_or m p 0)) m (w.1 (get_or m p 0) (h p)) h
within_exec Q (write p b k) m w h = within_exec Q k (set m p b) w.2 (bytes_set m p b h w.1)

pub within_bind : {A B : Type 0} (R : A → Type 0) (Q : B → Type 0) (p : Micro A) (f : A → Micro B)
    → Within R p → ((a : A) → R a → Within Q (f a)) → Within Q (p >>= f)
within_bind R Q (done a) f w h = h a w
within_bind R Q (read p k) f w h = (w.0, λ b l. within_bind R Q (k b) f (w.1 b l) h)
within_bind R Q (write p b k) f w h = (w.0, w.1, within_bind R Q k f w.2 h)

pub within_weaken : {A : Type 0} (P Q : A → Type 0) (p : Micro A) → ((a : A) → P a → Q a) → Within P p → Within Q p
within_weaken P Q (done a) f w = f a w
within_weaken P Q (read p k) f w = (w.0, λ b l. within_weaken P Q (k b) f (w.1 b l))
within_weaken P Q (write p b k) f w = (w.0, w.1, within_weaken P Q k f w.2)

-- every address that such a program reads or stores to is one of the memory's
abbrev pub InMemory : {A : Type 0} → Micro A → List ℕ → Type 0
InMemory p m = (a : ℕ) → (a ∈ reads p m) ⊎ (a ∈ stores p m) → a < 65536

pub within_memory : {A : Type 0} (Q : A → Type 0) (p : Micro A) (m : List ℕ) → Within Q p → Bytes m → InMemory p m
unfolding accesses
within_memory Q (done a) m w h q i = absurd (⊎_elim (λ x. x) (λ x. x) i)
within_memory Q (read p k) m w h q i =
    let rest = within_memory Q (k (get_or m p 0)) m (w.1 (get_or m p 0) (h p)) h q in
    ⊎_elim (⊎_elim (λ (e : q ≡ p). rw e w.0) (λ x. rest (inl x))) (λ x. rest (inr x)) i
within_memory Q (write p b k) m w h q i =
    let rest = within_memory Q k (set m p b) w.2 (bytes_set m p b h w.1) q in
    ⊎_elim (λ x. rest (inl x)) (⊎_elim (λ (e : q ≡ p). rw e w.0) (λ x. rest (inr x))) i
