-- Laws of Restoring.antt.
use Rattle.std.specs.Prelude.{ℕ, zero, suc, ◌≤◌, ◌≡◌, refl, List, [], ◌∷◌, get_or, set, length}
use Rattle.std.proofs.Common.{ap, sym, ◌∙◌, subst, inl, inr, arith}
use Rattle.std.proofs.lemmas.List.{set-get_or}
use Rattle.manual.specs.declared.Lines.{Lines}
use Rattle.manual.specs.declared.Machine.{Machine}
use Rattle.manual.specs.declared.Stepped.{Stepped}
use Rattle.manual.specs.Micro.{Micro, done, read, write, exec, accesses, stores, Gives}
use Rattle.manual.specs.Stepping.{step}
use Rattle.manual.specs.Lemmas.Programs.{◌∈◌}
use Rattle.manual.specs.StoreList.{stored_by_step}
use Rattle.manual.proofs.Theorems.Stores.{step_stores, at_most_three_stores}
use Rattle.footprint.specs.declared.places.Footprint.{Footprint}
use Rattle.footprint.specs.Places.{footprint_of}

-- the bytes that m has at the places of a list, put back into e
abbrev pub restored : List ℕ → List ℕ → List ℕ → List ℕ
restored [] m e = e
restored (a ∷ l) m e = restored l m (set e a (get_or m a 0))

-- of two bytes at one place the later one stays; at two places the order does not matter
over : (e : List ℕ) (a b v : ℕ) → set (set e a b) a v ≡ set e a v
over [] a b v = refl
over (x ∷ e) zero b v = refl
over (x ∷ e) (suc a) b v = ap (λ (l : List ℕ). x ∷ l) (over e a b v)

turned : (e : List ℕ) (q a b v : ℕ) → (b' : ℕ) × (set (set e q b) a v ≡ set (set e a v) q b')
turned [] q a b v = (0, refl)
turned (x ∷ e) zero zero b v = (v, refl)
turned (x ∷ e) zero (suc a) b v = (b, refl)
turned (x ∷ e) (suc q) zero b v = (b, refl)
turned (x ∷ e) (suc q) (suc a) b v = let w = turned e q a b v in (w.0, ap (λ (l : List ℕ). x ∷ l) w.1)

-- So a store to a place of the list is of no account.
no_account : (l m e : List ℕ) (q b : ℕ) → q ∈ l → restored l m (set e q b) ≡ restored l m e
no_account [] m e q b j = absurd j
no_account (a ∷ l) m e q b (inl p) =
    ap (restored l m) (subst (λ (k : ℕ). set (set e k b) a (get_or m a 0) ≡ set e a (get_or m a 0)) (sym p) (over e a b (get_or m a 0)))
no_account (a ∷ l) m e q b (inr j) =
    let w = turned e q a b (get_or m a 0) in ap (restored l m) w.1 ∙ no_account l m (set e a (get_or m a 0)) q w.0 j

itself : (l m : List ℕ) → restored l m m ≡ m
itself [] m = refl
itself (a ∷ l) m = ap (restored l m) (set-get_or m a 0) ∙ itself l m

-- Whatever a program stored to, its old bytes put back give the old memory. A place that it did not store to does no harm, and neither does
-- one that is named twice: every byte put back is one of the old memory.
undone : {A : Type 0} (p : Micro A) (l m e : List ℕ) → restored l m e ≡ m → ((i : ℕ) → i ∈ stores p e → i ∈ l) → restored l m (exec p e).1 ≡ m
unfolding accesses
undone (done x) l m e h covers = h
undone (read q k) l m e h covers = undone (k (get_or e q 0)) l m e h covers
undone (write q b k) l m e h covers = undone k l m (set e q b) (no_account l m e q b (covers q (inl refl)) ∙ h) (λ i j. covers i (inr j))

-- the first three places of a footprint
abbrev pub first_three : Footprint → List ℕ
first_three f = get_or f.places 0 0 ∷ get_or f.places 1 0 ∷ get_or f.places 2 0 ∷ []

named : (l : List ℕ) (i : ℕ) → length l ≤ 3 → i ∈ l → i ∈ first_three (footprint_of l)
named [] i h j = absurd j
named (a ∷ l) i h (inl e) = inl e
named (a ∷ []) i h (inr j) = absurd j
named (a ∷ b ∷ l) i h (inr (inl e)) = inr (inl e)
named (a ∷ b ∷ []) i h (inr (inr j)) = absurd j
named (a ∷ b ∷ c ∷ l) i h (inr (inr (inl e))) = inr (inr (inl e))
named (a ∷ b ∷ c ∷ []) i h (inr (inr (inr j))) = absurd j
named (a ∷ b ∷ c ∷ d ∷ l) i h (inr (inr (inr j))) = absurd (omega arith)

-- What stood at the first three places of what a step stores to, put back after it, gives the memory before it.
pub step_undone : (lines : Lines) (s : Machine) (m : List ℕ) {f : Footprint} {q : Stepped} {m' : List ℕ}
    → f ≡ footprint_of (stored_by_step (length m) lines s m) → Gives (step (length m) lines s) m q m' → restored (first_three f) m m' ≡ m
step_undone lines s m {f} {q} {m'} e g =
    let places = stored_by_step (length m) lines s m in
    let few : length places ≤ 3 = rw (step_stores (length m) lines s m) at (at_most_three_stores (length m) lines s m) in
    let three = first_three (footprint_of places) in
    ap (λ (w : Footprint). restored (first_three w) m m') e
    ∙ ap (λ (w : Stepped × List ℕ). restored three m w.1) (sym g)
    ∙ undone (step (length m) lines s) three m m (itself three m)
    (λ i j. named places i few (subst (λ (l : List ℕ). i ∈ l) (step_stores (length m) lines s m) j))
