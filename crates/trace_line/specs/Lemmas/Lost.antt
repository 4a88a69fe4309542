-- A line whose fields end early ends nowhere.
use Rattle.std.specs.Prelude.{ℕ, ◌≤◌, ◌≡◌, List, length}
use Rattle.text_reading.specs.Numbers.{nowhere, word_at, mark_at}
use Rattle.text_reading.specs.Lemmas.Found.{lost_word, lost_mark}
use Rattle.trace_line.specs.Fields.{field_at}
use Rattle.trace_line.specs.Lemmas.Machines.{lost_field}

-- the place after the line, from the place after each field on
module _ (s : List ℕ) where
  abbrev end_status : ℕ → ℕ
  end_status p = mark_at 10 s p

  abbrev end_stack : ℕ → ℕ
  end_stack p = end_status (field_at s p).next

  abbrev end_y : ℕ → ℕ
  end_y p = end_stack (field_at s p).next

  abbrev end_x : ℕ → ℕ
  end_x p = end_y (field_at s p).next

  abbrev end_accumulator : ℕ → ℕ
  end_accumulator p = end_x (field_at s p).next

  abbrev end_counter : ℕ → ℕ
  end_counter p = end_accumulator (field_at s p).next

  abbrev end_space : ℕ → ℕ
  end_space p = end_counter (word_at s p).next

  abbrev end_cycles : ℕ → ℕ
  end_cycles p = end_space (mark_at 32 s p)

module _ (s : List ℕ) (fits : length s ≤ nowhere) where
  pub after_status : (p : ℕ) → p ≡ nowhere → end_status s p ≡ nowhere
  after_status p lost = lost_mark s fits 10 p lost

  pub after_stack : (p : ℕ) → p ≡ nowhere → end_stack s p ≡ nowhere
  after_stack p lost = after_status _ (lost_field s fits p lost)

  pub after_y : (p : ℕ) → p ≡ nowhere → end_y s p ≡ nowhere
  after_y p lost = after_stack _ (lost_field s fits p lost)

  pub after_x : (p : ℕ) → p ≡ nowhere → end_x s p ≡ nowhere
  after_x p lost = after_y _ (lost_field s fits p lost)

  pub after_accumulator : (p : ℕ) → p ≡ nowhere → end_accumulator s p ≡ nowhere
  after_accumulator p lost = after_x _ (lost_field s fits p lost)

  pub after_counter : (p : ℕ) → p ≡ nowhere → end_counter s p ≡ nowhere
  after_counter p lost = after_accumulator _ (lost_field s fits p lost)

  pub after_space : (p : ℕ) → p ≡ nowhere → end_space s p ≡ nowhere
  after_space p lost = after_counter _ (lost_word s fits p lost)

  pub after_cycles : (p : ℕ) → p ≡ nowhere → end_cycles s p ≡ nowhere
  after_cycles p lost = after_space _ (lost_mark s fits 32 p lost)
