-- A state or a cell whose fields end early ends nowhere.
use Rattle.std.specs.Prelude.{ℕ, zero, suc, ◌≤◌, ◌≡◌, List, length, Some, None}
use Rattle.std.proofs.Common.{sym, eq-eqb, ne_eqb, eqb-true}
use Rattle.std.proofs.lemmas.Bool.{eqb-false}
use Rattle.text_reading.specs.Numbers.{nowhere, word_at, count_at, mark_at}
use Rattle.text_reading.specs.Lemmas.Found.{none_by, some_by, lost_byte, lost_word, lost_count, lost_mark}
use Rattle.replay_list.specs.declared.State.{State}
use Rattle.replay_list.specs.declared.Cell.{Cell}
use Rattle.replay_list.specs.Lines.{spaced_byte_at, state_at, state_found, cell_at, bar_at, loaded_from}
use Rattle.replay_list.specs.Inner.Cells.{cell_found}

module _ (s : State) where
  pub none_state : s.next ≡ nowhere → None ≡ state_found s
  none_state h = rw (eq-eqb s.next nowhere h)

  pub some_state : (s.next ≡ nowhere → ⊥) → Some s ≡ state_found s
  some_state h = rw (ne_eqb s.next nowhere h)

  pub gone_state : None ≡ state_found s → s.next ≡ nowhere
  gone_state e = eqb-true s.next nowhere (none_by s _ (sym e))

  pub got_state : {t : State} → Some t ≡ state_found s → s ≡ t
  got_state {t} e = (some_by s t _ (sym e)).1

module _ (b : Cell) where
  pub none_cell : b.next ≡ nowhere → None ≡ cell_found b
  none_cell h = rw (eq-eqb b.next nowhere h)

  pub some_cell : (b.next ≡ nowhere → ⊥) → Some b ≡ cell_found b
  some_cell h = rw (ne_eqb b.next nowhere h)

  pub gone_cell : None ≡ cell_found b → b.next ≡ nowhere
  gone_cell e = eqb-true b.next nowhere (none_by b _ (sym e))

  pub got_cell : {d : Cell} → Some d ≡ cell_found b → b ≡ d
  got_cell {d} e = (some_by b d _ (sym e)).1

  pub real_cell : {d : Cell} → Some d ≡ cell_found b → b.next ≡ nowhere → ⊥
  real_cell {d} e = eqb-false b.next nowhere (some_by b d _ (sym e)).0

-- the place after a state, or after a cell, from the place after each of its fields on
module _ (s : List ℕ) where
  abbrev end_last_space : ℕ → ℕ
  end_last_space p = (count_at s p).next

  abbrev end_status : ℕ → ℕ
  end_status p = end_last_space (mark_at 32 s p)

  abbrev end_stack : ℕ → ℕ
  end_stack p = end_status (spaced_byte_at s p).next

  abbrev end_y : ℕ → ℕ
  end_y p = end_stack (spaced_byte_at s p).next

  abbrev end_x : ℕ → ℕ
  end_x p = end_y (spaced_byte_at s p).next

  abbrev end_accumulator : ℕ → ℕ
  end_accumulator p = end_x (spaced_byte_at s p).next

  abbrev end_counter : ℕ → ℕ
  end_counter p = end_accumulator (spaced_byte_at s p).next

  abbrev end_space : ℕ → ℕ
  end_space p = end_counter (word_at s p).next

  abbrev end_levels : ℕ → ℕ
  end_levels p = end_space (mark_at 32 s p)

  abbrev end_number : ℕ → ℕ
  end_number p = end_levels (spaced_byte_at s p).next

  abbrev end_mark : ℕ → ℕ
  end_mark p = (word_at s p).next

  abbrev end_byte : ℕ → ℕ
  end_byte p = end_mark (mark_at 64 s p)

module _ (s : List ℕ) (fits : length s ≤ nowhere) where
  pub lost_spaced : (p : ℕ) → p ≡ nowhere → (spaced_byte_at s p).next ≡ nowhere
  unfolding spaced_byte_at
  lost_spaced p lost = lost_byte s fits _ (lost_mark s fits 32 p lost)

  pub after_last_space : (p : ℕ) → p ≡ nowhere → end_last_space s p ≡ nowhere
  after_last_space p lost = lost_count s fits p lost

  pub after_status : (p : ℕ) → p ≡ nowhere → end_status s p ≡ nowhere
  after_status p lost = after_last_space _ (lost_mark s fits 32 p lost)

  pub after_stack : (p : ℕ) → p ≡ nowhere → end_stack s p ≡ nowhere
  after_stack p lost = after_status _ (lost_spaced p lost)

  pub after_y : (p : ℕ) → p ≡ nowhere → end_y s p ≡ nowhere
  after_y p lost = after_stack _ (lost_spaced p lost)

  pub after_x : (p : ℕ) → p ≡ nowhere → end_x s p ≡ nowhere
  after_x p lost = after_y _ (lost_spaced p lost)

  pub after_accumulator : (p : ℕ) → p ≡ nowhere → end_accumulator s p ≡ nowhere
  after_accumulator p lost = after_x _ (lost_spaced p lost)

  pub after_counter : (p : ℕ) → p ≡ nowhere → end_counter s p ≡ nowhere
  after_counter p lost = after_accumulator _ (lost_spaced p lost)

  pub after_space : (p : ℕ) → p ≡ nowhere → end_space s p ≡ nowhere
  after_space p lost = after_counter _ (lost_word s fits p lost)

  pub after_levels : (p : ℕ) → p ≡ nowhere → end_levels s p ≡ nowhere
  after_levels p lost = after_space _ (lost_mark s fits 32 p lost)

  pub after_number : (p : ℕ) → p ≡ nowhere → end_number s p ≡ nowhere
  after_number p lost = after_levels _ (lost_spaced p lost)

  pub lost_state : (p : ℕ) → p ≡ nowhere → (state_at s p).next ≡ nowhere
  unfolding state_at
  lost_state p lost = after_number _ (lost_byte s fits p lost)

  pub lost_bar : (p : ℕ) → p ≡ nowhere → bar_at s p ≡ nowhere
  unfolding bar_at
  lost_bar p lost = lost_mark s fits 124 _ (lost_mark s fits 32 p lost)

  pub after_mark : (p : ℕ) → p ≡ nowhere → end_mark s p ≡ nowhere
  after_mark p lost = lost_word s fits p lost

  pub after_byte : (p : ℕ) → p ≡ nowhere → end_byte s p ≡ nowhere
  after_byte p lost = after_mark _ (lost_mark s fits 64 p lost)

  pub lost_cell : (p : ℕ) → p ≡ nowhere → (cell_at s p).next ≡ nowhere
  unfolding cell_at
  lost_cell p lost = after_byte _ (lost_spaced p lost)

  pub lost_loaded : (n p : ℕ) (m : List ℕ) → p ≡ nowhere → (loaded_from n s p m).0 ≡ nowhere
  unfolding loaded_from
  lost_loaded zero p m lost = lost
  lost_loaded (suc n) p m lost = rw (eq-eqb (cell_at s p).next nowhere (lost_cell p lost)) lost
