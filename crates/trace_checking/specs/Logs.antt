-- What the rules say of a trace (P10): the states that its entries spell, each the state after one step from the one before.
use Rattle.std.specs.Prelude.{ℕ, ◌+◌, ◌<◌, ◌≡◌, ◌⊎◌, List, [], ◌∷◌, ◌++◌, length, Option, Some, None}
use Rattle.laws.specs.Answers.{not_refused, memory_not_full, malformed_entry, stray_entry}
use Rattle.manual.specs.declared.Machine.{Machine}
use Rattle.manual.specs.Stepping.{full_memory}
use Rattle.trace_line.specs.Lines.{Spellable, line_text}
use Rattle.trace_step.specs.Following.{OneStep}
use Rattle.trace_checking.specs.Checking.{Part, Checked, part_of, checked_of}

-- the text of a log, an entry for each state
abbrev pub log_text : List Machine → List ℕ
log_text [] = []
log_text (s ∷ l) = line_text s ++ log_text l

abbrev pub AllSpellable : List Machine → Type 0
AllSpellable [] = Unit
AllSpellable (s ∷ l) = Spellable s × AllSpellable l

-- after the last entry and on the memory m, the state t may stand in the next one, and m' is then the memory: the first entry may be any, and
-- with it no step is made; a later one is the state after one step of the definition
abbrev pub Admits : Option Machine → List ℕ → Machine → List ℕ → Type 0
Admits None m t m' = m ≡ m'
Admits (Some s) m t m' = OneStep s m t m'

-- Each state of l may stand in the entry after the one before it, the memory carried along; the last of them is then last', and m' the memory.
abbrev pub Follow : Option Machine → List ℕ → List Machine → Option Machine → List ℕ → Type 0
Follow last m [] last' m' = (last ≡ last') × (m ≡ m')
Follow last m (t ∷ l) last' m' = (m₁ : List ℕ) × Admits last m t m₁ × Follow (Some t) m₁ l last' m'

-- A log on an image: a first entry, and later ones that each are the state after a step from the entry before. It leaves the memory m'.
pub record Log (image text m' : List ℕ) : Type 0 where
  pub first : Machine
  pub others : List Machine
  pub last : Option Machine
  pub spellable : AllSpellable (first ∷ others)
  pub spelled : text ≡ log_text (first ∷ others)
  pub follow : Follow (Some first) image others last m'

-- no state's entry stands at the head of the text: it is malformed, cut short or not there
abbrev pub NoLine : List ℕ → Type 0
NoLine text = (t : Machine) (u : List ℕ) → Spellable t → text ≡ line_text t ++ u → ⊥

-- The entries l are accepted, from the last entry before them and the memory m, and lead to last' and m'; `rest` is what follows them in the text.
pub record Accepted (last : Option Machine) (m text : List ℕ) (l : List Machine) (last' : Option Machine) (m' rest : List ℕ) : Type 0 where
  pub spellable : AllSpellable l
  pub follow : Follow last m l last' m'
  pub text_is : text ≡ log_text l ++ rest

-- a part of a trace, after k entries: all entries are accepted, or the first bad one follows the accepted ones
pub data PartVerdict (k : ℕ) (last : Option Machine) (m text : List ℕ) (o : Part × List ℕ) : Type 0 where
  all : (l : List Machine) (last' : Option Machine) (m' : List ℕ) → Accepted last m text l last' m' []
      → o ≡ (part_of not_refused (k + length l) last', m')
      → PartVerdict k last m text o
  malformed : (l : List Machine) (last' : Option Machine) (m' rest : List ℕ) → Accepted last m text l last' m' rest → 0 < length rest → NoLine rest
      → o ≡ (part_of malformed_entry (k + length l) last', m')
      → PartVerdict k last m text o
  astray : (l : List Machine) (last' : Option Machine) (m' : List ℕ) (t : Machine) (rest : List ℕ) → Accepted last m text l last' m' (line_text t ++ rest)
      → Spellable t → ((e : List ℕ) → Admits last' m' t e → ⊥)
      → o ≡ (part_of stray_entry (k + length l) last', m')
      → PartVerdict k last m text o

-- the whole check, in the words of the rules
pub data Verdict (image text copy : List ℕ) (o : Checked × List ℕ) : Type 0 where
  -- 1: nothing is written
  not_full : ((length image ≡ full_memory) × (length copy ≡ full_memory) → ⊥) → o ≡ (checked_of memory_not_full 0, copy) → Verdict image text copy o
  -- 0: the copy is left as the last entry leaves it
  accepted : length image ≡ full_memory → length copy ≡ full_memory → (m' : List ℕ) → Log image text m' → o ≡ (checked_of not_refused 0, m') → Verdict image text copy o
  -- 11: the entry after the accepted ones is malformed or cut short, or there is no entry at all
  bad_line_lem : length image ≡ full_memory → length copy ≡ full_memory
      → (l : List Machine) (last : Option Machine) (m' rest : List ℕ) → Accepted None image text l last m' rest → (0 < length rest) ⊎ (l ≡ []) → NoLine rest
      → o ≡ (checked_of malformed_entry (length l + 1), m')
      → Verdict image text copy o
  -- 12: it is not the state after a step, or none can be made
  bad_state : length image ≡ full_memory → length copy ≡ full_memory
      → (l : List Machine) (last : Option Machine) (m' : List ℕ) (t : Machine) (rest : List ℕ) → Accepted None image text l last m' (line_text t ++ rest)
      → Spellable t → ((e : List ℕ) → Admits last m' t e → ⊥)
      → o ≡ (checked_of stray_entry (length l + 1), m')
      → Verdict image text copy o
