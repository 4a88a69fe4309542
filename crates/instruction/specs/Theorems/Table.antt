-- The rules of the opcode table: one test, computed over all its rows, and what it shows of every opcode.
use Rattle.std.specs.Prelude.{ℕ, zero, suc, ◌+◌, ◌≤◌, ◌<◌, Bool, true, false, not, ◌&&◌, cond, List, [], ◌∷◌, ◌≡◌, refl, T, leb, ltb, Option, Some, None}
use Rattle.std.proofs.Common.{ap, ◌∙◌, arith, eq-eqb, ne_eqb, leb→le, ltb→lt}
use Rattle.std.proofs.Math.Decide.{ℕ_discrete}
use Rattle.std.specs.Float.Ieee.Fits.{and_l, and_r}
use Rattle.instruction.specs.Modes.{length_of}
use Rattle.instruction.specs.Opcodes.{Row, rows, find, decoded}
use Rattle.instruction.specs.Lemmas.Rule.{every_row, every_entry}
use Rattle.instruction.specs.declared.Instruction.{Instruction}
use Rattle.instruction.specs.declared.Instruction.TheVariants.{Read, Store, Modify, Branch, Internal, BRK, JMP, JSR, PHA, PHP, PLA, PLP, RTI, RTS}
use Rattle.instruction.specs.declared.Entry.{Entry}

-- The most cycles that may be added to a row's: 1 if a read crosses a page, and 2 for a branch that is taken to another page.
abbrev pub most_extra : Instruction → ℕ
most_extra (Read o) = 1
most_extra (Store o) = 0
most_extra (Modify o) = 0
most_extra (Branch o) = 2
most_extra (Internal o) = 0
most_extra BRK = 0
most_extra JMP = 0
most_extra JSR = 0
most_extra PHA = 0
most_extra PHP = 0
most_extra PLA = 0
most_extra PLP = 0
most_extra RTI = 0
most_extra RTS = 0

-- What holds of a row: 2 to 7 cycles, at most 7 with all that may be added, and 1 to 3 bytes.
pub record Ruled (e : Entry) : Type 0 where
  pub cycles_least : 2 ≤ e.cycles
  pub cycles_most : e.cycles ≤ 7
  pub total_most : e.cycles + most_extra e.instruction ≤ 7
  pub bytes_least : 1 ≤ length_of e.mode
  pub bytes_most : length_of e.mode ≤ 3

abbrev pub is_defined : Option Entry → Bool
is_defined (Some e) = true
is_defined None = false

-- how many numbers below a bound pass a test
abbrev pub count_below : (ℕ → Bool) → ℕ → ℕ
count_below test zero = 0
count_below test (suc n) = cond (test n) 1 0 + count_below test n

-- What holds of the table: of the 256 opcodes exactly 151 are defined, and whatever a number is decoded to keeps the rules.
pub record TableRules : Type 0 where
  pub defined_151 : count_below (λ k. is_defined (decoded k)) 256 ≡ 151
  pub ruled : (k : ℕ) (e : Entry) → decoded k ≡ Some e → Ruled e

-- ---- the test

-- a row keeps the rules
abbrev passes : Entry → Bool
passes e =
    leb 2 e.cycles
    && leb e.cycles 7
    && leb (e.cycles + most_extra e.instruction) 7
    && leb 1 (length_of e.mode)
    && leb (length_of e.mode) 3

-- there are n rows, each of a byte that stands in no later one
abbrev distinct : ℕ → List Row → Bool
distinct zero [] = true
distinct zero (r ∷ rs) = false
distinct (suc n) [] = false
distinct (suc n) (r ∷ rs) = ltb r.opcode 256 && not (is_defined (find r.opcode rs)) && distinct n rs

tested : T (every_row passes rows && distinct 151 rows)
unfolding rows
tested = tt

-- ---- what it shows

-- of two tests that differ at one number alone, the one that passes there counts one more
module _ (f g : ℕ → Bool) (a : ℕ) (passed : f a ≡ true) (failed : g a ≡ false) (else_same : (k : ℕ) → (k ≡ a → ⊥) → f k ≡ g k) where
  same_below : (n : ℕ) → n ≤ a → count_below f n ≡ count_below g n
  same_below zero h = refl
  same_below (suc n) h = let less : n ≡ a → ⊥ = λ e. omega arith in rw (else_same n less, same_below n (omega arith))

  one_more : (n : ℕ) → a < n → count_below f n ≡ suc (count_below g n)
  one_more zero h = absurd (omega arith)
  one_more (suc n) h = go (ℕ_discrete n a) (one_more n)
    where
      go : Dec (n ≡ a) → (a < n → count_below f n ≡ suc (count_below g n)) → cond (f n) 1 0 + count_below f n ≡ suc (cond (g n) 1 0 + count_below g n)
      go (yes e) more = rw (ap f e ∙ passed, ap g e ∙ failed, same_below n (omega arith)) (omega arith)
      go (no d) more = rw (else_same n d, more (omega arith)) (omega arith)

untrue : (b : Bool) → T (not b) → b ≡ false
untrue true t = absurd t
untrue false t = refl

-- so many rows define so many bytes
defined_by : (n : ℕ) (rs : List Row) → T (distinct n rs) → count_below (λ k. is_defined (find k rs)) 256 ≡ n
defined_by zero [] t = refl
defined_by zero (r ∷ rs) t = absurd t
defined_by (suc n) [] t = absurd t
defined_by (suc n) (r ∷ rs) t =
    let byte : T (ltb r.opcode 256) = search (and_l, and_r) in
    let fresh : T (not (is_defined (find r.opcode rs))) = search (and_l, and_r) in
    let later : T (distinct n rs) = search (and_l, and_r) in
    one_more (λ k. is_defined (find k (r ∷ rs))) (λ k. is_defined (find k rs)) r.opcode (rw (eq-eqb r.opcode r.opcode refl)) (untrue _ fresh)
    (λ k d. rw (ne_eqb k r.opcode d))
    256
    (ltb→lt r.opcode 256 byte)
    ∙ ap suc (defined_by n rs later)

-- Of the test and not of `tested`: an edit of the table is refused there and here, and leaves nothing unread.
by_test : T (every_row passes rows && distinct 151 rows) → TableRules
unfolding decoded
by_test tested = record {
  defined_151 = defined_by 151 rows (and_r (every_row passes rows) _ tested);
  ruled = λ k e is.
      let passed = every_entry passes (and_l (every_row passes rows) (distinct 151 rows) tested) k e is in
      record {
        cycles_least = leb→le _ _ (search (and_l, and_r));
        cycles_most = leb→le _ _ (search (and_l, and_r));
        total_most = leb→le _ _ (search (and_l, and_r));
        bytes_least = leb→le _ _ (search (and_l, and_r));
        bytes_most = leb→le _ _ (search (and_l, and_r));
      };
}

-- The one lemma. No bound on the number is needed.
pub table_rules : TableRules
unfolding rows
table_rules = by_test tt
