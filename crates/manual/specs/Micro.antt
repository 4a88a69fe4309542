-- The language of the definition: a program over the memory. It is done with a value, or it reads the byte at an address and goes on by
-- what it was, or it stores a byte at an address and goes on. Reads and stores happen in the order in which they are written.
use Rattle.std.specs.Prelude.{ℕ, ◌≡◌, List, [], ◌∷◌, get_or, set}

infixl 20 ◌>>=◌
infixl 20 ◌>>◌
pub data Micro (A : Type 0) : Type 0 where
  done : A → Micro A
  read : ℕ → (ℕ → Micro A) → Micro A
  write : ℕ → ℕ → Micro A → Micro A

-- what a program gives on a memory, and the memory that it leaves
abbrev pub exec : {A : Type 0} → Micro A → List ℕ → A × List ℕ
exec (done a) m = (a, m)
exec (read p k) m = exec (k (get_or m p 0)) m
exec (write p b k) m = exec k (set m p b)

-- a look at the memory, or a store
pub data Access : Type 0 where
  read_at : ℕ → Access
  store_at : ℕ → Access

-- what a program reads and stores to, in order
unfoldable pub accesses : {A : Type 0} → Micro A → List ℕ → List Access
accesses (done a) m = []
accesses (read p k) m = read_at p ∷ accesses (k (get_or m p 0)) m
accesses (write p b k) m = store_at p ∷ accesses k (set m p b)

abbrev pub reads_of : List Access → List ℕ
reads_of [] = []
reads_of (read_at p ∷ l) = p ∷ reads_of l
reads_of (store_at p ∷ l) = reads_of l

abbrev pub stores_of : List Access → List ℕ
stores_of [] = []
stores_of (read_at p ∷ l) = stores_of l
stores_of (store_at p ∷ l) = p ∷ stores_of l

-- the addresses that it reads, and those that it stores to
abbrev pub reads : {A : Type 0} → Micro A → List ℕ → List ℕ
reads p m = reads_of (accesses p m)

abbrev pub stores : {A : Type 0} → Micro A → List ℕ → List ℕ
stores p m = stores_of (accesses p m)

-- one program after another: a `do` block is written with these
abbrev pub ◌>>=◌ : {A B : Type 0} → Micro A → (A → Micro B) → Micro B
done a >>= f = f a
read p k >>= f = read p (λ b. k b >>= f)
write p b k >>= f = write p b (k >>= f)

abbrev pub ◌>>◌ : {A B : Type 0} → Micro A → Micro B → Micro B
p >> q = p >>= (λ u. q)

-- the byte at an address, and a byte stored at one
abbrev pub fetch : ℕ → Micro ℕ
fetch p = read p done

abbrev pub store : ℕ → ℕ → Micro (Unit {0})
store p b = write p b (done tt)

-- The form of the promises of instructions, steps and runs: on the memory m the program p gives a and leaves m'.
abbrev pub Gives : {A : Type 0} → Micro A → List ℕ → A → List ℕ → Type 0
Gives p m a m' = exec p m ≡ (a, m')
