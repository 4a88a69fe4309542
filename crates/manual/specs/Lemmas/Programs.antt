-- Laws of programs over the memory that every other theorem uses.
use Rattle.std.specs.Prelude.{ℕ, ◌≡◌, refl, Bool, true, false, cond, ◌⊎◌, List, [], ◌∷◌, ◌++◌, get_or, set, length}
use Rattle.std.proofs.Common.{ap, ◌∙◌, inl, inr, length-set, get_or-set_other}
use Rattle.manual.specs.Micro.{Micro, done, read, write, exec, Access, read_at, store_at, accesses, reads_of, stores_of, reads, stores, ◌>>=◌, Gives}

infix 30 ◌∈◌
-- a number stands in a list
abbrev pub ◌∈◌ : ℕ → List ℕ → Type 0
a ∈ [] = ⊥
a ∈ (b ∷ l) = (a ≡ b) ⊎ (a ∈ l)

-- one program after another gives what the second gives on the memory that the first leaves
pub exec_bind : {A B : Type 0} (p : Micro A) (f : A → Micro B) (m : List ℕ) → exec (p >>= f) m ≡ exec (f (exec p m).0) (exec p m).1
exec_bind (done a) f m = refl
exec_bind (read q k) f m = exec_bind (k (get_or m q 0)) f m
exec_bind (write q b k) f m = exec_bind k f (set m q b)

-- a program that is done leaves the memory as it is
pub at_once : {A : Type 0} {p : Micro A} {a : A} (m : List ℕ) → p ≡ done a → Gives p m a m
at_once m e = ap (λ p. exec p m) e

-- it reads and stores what the first does and then what the second does
pub accesses_bind : {A B : Type 0} (p : Micro A) (f : A → Micro B) (m : List ℕ)
    → accesses (p >>= f) m ≡ accesses p m ++ accesses (f (exec p m).0) (exec p m).1
unfolding accesses
accesses_bind (done a) f m = refl
accesses_bind (read q k) f m = ap (λ (l : List Access). read_at q ∷ l) (accesses_bind (k (get_or m q 0)) f m)
accesses_bind (write q b k) f m = ap (λ (l : List Access). store_at q ∷ l) (accesses_bind k f (set m q b))

pub reads_append : (k l : List Access) → reads_of (k ++ l) ≡ reads_of k ++ reads_of l
reads_append [] l = refl
reads_append (read_at p ∷ k) l = ap (λ (t : List ℕ). p ∷ t) (reads_append k l)
reads_append (store_at p ∷ k) l = reads_append k l

pub stores_append : (k l : List Access) → stores_of (k ++ l) ≡ stores_of k ++ stores_of l
stores_append [] l = refl
stores_append (read_at p ∷ k) l = stores_append k l
stores_append (store_at p ∷ k) l = ap (λ (t : List ℕ). p ∷ t) (stores_append k l)

pub reads_bind : {A B : Type 0} (p : Micro A) (f : A → Micro B) (m : List ℕ)
    → reads (p >>= f) m ≡ reads p m ++ reads (f (exec p m).0) (exec p m).1
reads_bind p f m = ap reads_of (accesses_bind p f m) ∙ reads_append (accesses p m) _

pub stores_bind : {A B : Type 0} (p : Micro A) (f : A → Micro B) (m : List ℕ)
    → stores (p >>= f) m ≡ stores p m ++ stores (f (exec p m).0) (exec p m).1
stores_bind p f m = ap stores_of (accesses_bind p f m) ∙ stores_append (accesses p m) _

-- what holds of both sides of a test holds of what the test chooses
pub either : {A : Type 0} (P : A → Type 0) (t : Bool) (a b : A) → P a → P b → P (cond t a b)
either P true a b p q = p
either P false a b p q = q

pub alike : {A B : Type 0} (R : A → B → Type 0) (t : Bool) (a a' : A) (b b' : B) → R a b → R a' b' → R (cond t a a') (cond t b b')
alike R true a a' b b' p q = p
alike R false a a' b b' p q = q

-- what the first part gave is handed on to the second
pub exec_then : {A B : Type 0} (p : Micro A) (f : A → Micro B) (m : List ℕ) {m' : List ℕ} {a : A}
    → Gives p m a m' → exec (p >>= f) m ≡ exec (f a) m'
exec_then p f m e = exec_bind p f m ∙ ap (λ (w : _ × List ℕ). exec (f w.0) w.1) e

pub then : {A B : Type 0} (p : Micro A) (f : A → Micro B) (m : List ℕ) {m' m'' : List ℕ} {a : A} {b : B}
    → Gives p m a m' → Gives (f a) m' b m'' → Gives (p >>= f) m b m''
then p f m e g = exec_then p f m e ∙ g

-- a byte that a program does not store to stays
pub untouched : {A : Type 0} (p : Micro A) (m : List ℕ) (a : ℕ) → (a ∈ stores p m → ⊥) → get_or (exec p m).1 a 0 ≡ get_or m a 0
unfolding accesses
untouched (done x) m a f = refl
untouched (read q k) m a f = untouched (k (get_or m q 0)) m a f
untouched (write q b k) m a f = untouched k (set m q b) a (λ i. f (inr i)) ∙ get_or-set_other m q a b 0 (λ e. f (inl e))

-- no program makes the memory longer or shorter
pub exec_length : {A : Type 0} (p : Micro A) (m : List ℕ) → length (exec p m).1 ≡ length m
exec_length (done x) m = refl
exec_length (read q k) m = exec_length (k (get_or m q 0)) m
exec_length (write q b k) m = exec_length k (set m q b) ∙ length-set m q b
