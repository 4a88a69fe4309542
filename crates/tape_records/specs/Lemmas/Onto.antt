-- Contents read onto a memory: a law for each way out of a reader, and what the two kinds of answer mean. Once for every format.
use Rattle.std.specs.Prelude.{◌≡◌, ℕ, ◌+◌, ◌-◌, Bool, true, false, cond, not, List, length, ◌==◌, ◌≢◌, refl}
use Rattle.std.proofs.Common.{ap, arith, eq-eqb, ne_eqb, eqb-true}
use Rattle.laws.specs.Answers.{not_refused, memory_not_full}
use Rattle.manual.specs.Stepping.{full_memory}
use Rattle.tape_records.specs.Contents.{Stretch, Contents, Loaded, laid, outcome, read_onto}
use Rattle.tape_records.specs.Theorems.Complete.{whole}

module _ (s : List ℕ) (c : Contents) (m : List ℕ) where
  pub read_short : (length m ≢ full_memory) → record { answer = memory_not_full; good = 0; place = 0; memory = m } ≡ read_onto s c m
  read_short h = rw (ne_eqb (length m) full_memory h)

  module _ (full : length m ≡ full_memory) where
    pub read_bad : (c.answer ≢ not_refused) → read_onto s c m ≡ outcome s c m
    read_bad h = rw (eq-eqb (length m) full_memory full, ne_eqb c.answer not_refused h)

    pub read_good : c.answer ≡ not_refused → read_onto s c m ≡ outcome s c (laid c.records m)
    read_good h = rw (eq-eqb (length m) full_memory full, eq-eqb c.answer not_refused h)

  by_length : (b : Bool) → (length m == full_memory) ≡ b
      → (cond (not b) (record { answer = memory_not_full; good = 0; place = 0; memory = m }) (outcome s c (cond (c.answer == not_refused) (laid c.records m) m))).answer ≡ not_refused
      → (length m ≡ full_memory) × (c.answer ≡ not_refused)
  by_length true e z = (eqb-true (length m) full_memory e, z)
  by_length false e z = absurd (omega arith)

  -- what is read with the answer 0, and what another answer leaves
  pub onto_good : (read_onto s c m).answer ≡ not_refused → (length m ≡ full_memory) × (c.answer ≡ not_refused) × ((read_onto s c m).memory ≡ laid c.records m)
  onto_good h =
      let read = by_length (length m == full_memory) refl h in
      (read.0, read.1, ap (λ (l : Loaded). l.memory) (read_good read.0 read.1))

  pub onto_refused : ((read_onto s c m).answer ≢ not_refused) → (read_onto s c m).memory ≡ m
  onto_refused h = by_full (length m == full_memory) h
    where
      by_answer : (b : Bool) → (c.answer == not_refused) ≡ b → (c.answer ≢ not_refused) → cond b (laid c.records m) m ≡ m
      by_answer true e g = absurd (g (eqb-true c.answer not_refused e))
      by_answer false e g = refl

      by_full : (b : Bool)
          → ((cond (not b) (record { answer = memory_not_full; good = 0; place = 0; memory = m }) (outcome s c (cond (c.answer == not_refused) (laid c.records m) m))).answer ≢ not_refused)
          → (cond (not b) (record { answer = memory_not_full; good = 0; place = 0; memory = m }) (outcome s c (cond (c.answer == not_refused) (laid c.records m) m))).memory ≡ m
      by_full true g = by_answer (c.answer == not_refused) refl g
      by_full false g = refl

-- what a good text with the data records rs gives
abbrev pub good_text : List ℕ → List Stretch → List ℕ → Loaded
good_text s rs m = record { answer = not_refused; good = length rs + 1; place = length s; memory = laid rs m }

pub read_whole : (s : List ℕ) (rs : List Stretch) (m : List ℕ) → length m ≡ full_memory → read_onto s (whole 0 rs) m ≡ good_text s rs m
read_whole s rs m h =
    let all : length s - 0 ≡ length s = omega arith in
    let counts : 0 + length rs + 1 ≡ length rs + 1 = omega arith in
    rw (eq-eqb (length m) full_memory h, all, counts)
