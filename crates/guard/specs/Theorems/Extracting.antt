-- What the promise of `extract` is worth: the memory that it leaves may be handed out whole. `sealed` is any test of addresses.
use Rattle.std.specs.Prelude.{◌≡◌, ℕ, Bool, true, false, cond, List, length, slice_index, refl, Ok}
use Rattle.std.proofs.Common.{ap, sym, ◌∙◌, true≢false, ext_get_or}
use Rattle.manual.specs.declared.Lines.{Lines}
use Rattle.manual.specs.declared.Machine.{Machine}
use Rattle.manual.specs.declared.Ended.{Ended}
use Rattle.manual.specs.Micro.{stores, Gives}
use Rattle.manual.specs.Stepping.{full_memory, long_run}
use Rattle.manual.specs.ReadList.{listed_long_run}
use Rattle.manual.specs.Lemmas.Programs.{◌∈◌, exec_length}
use Rattle.manual.proofs.Theorems.Sealed.{Differ, Unsealed, long_run_sealed}
use Rattle.guard_maps.specs.declared.Touch.{Touch}
use Rattle.guard_maps.specs.Maps.{nowhere}
use Rattle.guard.specs.Guarded.{Guarded, halted, guarded_full, guarded}
use Rattle.guard.specs.Extract.{blanked, extract}
use Rattle.guard.specs.Lemmas.AnyGuard.{Under}
use Rattle.guard.specs.Lemmas.Guarding.{guarded_whole}
use Rattle.guard.specs.Lemmas.Blanking.{blanked_length, blanked_at, extract_whole}
use Rattle.guard.specs.Theorems.Guarding.{Stopped, ran_right, halted_right, guarded_apart}

module _ (sealed : ℕ → Bool) where
  -- ---- the blanked memory

  -- memories that differ only in sealed bytes are one memory once they are blanked
  pub same_blanked : (m₁ m₂ : List ℕ) → Differ (Under sealed) m₁ m₂ → blanked sealed m₁ ≡ blanked sealed m₂
  same_blanked m₁ m₂ d =
      ext_get_or 0 (blanked sealed m₁) (blanked sealed m₂)
      (blanked_length sealed m₁ ∙ d.full₁ ∙ sym d.full₂ ∙ sym (blanked_length sealed m₂))
      (λ k f. blanked_at sealed m₁ k ∙ at k (sealed k) refl ∙ sym (blanked_at sealed m₂ k))
    where
      at : (k : ℕ) (t : Bool) → sealed k ≡ t → cond t 0 (slice_index m₁ k) ≡ cond t 0 (slice_index m₂ k)
      at k true e = refl
      at k false e = d.same k (λ h. absurd (true≢false (sym h ∙ e)))

  -- a memory differs from the blanked one in sealed bytes alone
  pub blanked_differs : (m : List ℕ) → length m ≡ full_memory → Differ (Under sealed) m (blanked sealed m)
  blanked_differs m full = record {
    full₁ = full;
    full₂ = blanked_length sealed m ∙ full;
    same = λ a f. sym (blanked_at sealed m a ∙ at a (sealed a) refl f);
  }
    where
      at : (a : ℕ) (t : Bool) → sealed a ≡ t → (Under sealed a → ⊥) → cond t 0 (slice_index m a) ≡ slice_index m a
      at a true e f = absurd (f e)
      at a false e f = refl

  -- ---- the extract

  -- what it leaves, x, beside the memory e that the run leaves, where the run stored to the addresses of the list
  pub record Extracted (stored_to x e : List ℕ) : Type 0 where
    pub size : length x ≡ length e
    pub elsewhere : (a : ℕ) → (Under sealed a → ⊥) → slice_index x a ≡ slice_index e a
    pub stored : (a : ℕ) → Under sealed a → a ∈ stored_to → slice_index x a ≡ slice_index e a
    pub blank : (a : ℕ) → Under sealed a → (a ∈ stored_to → ⊥) → slice_index x a ≡ 0

  module _ (bound : ℕ) (lines : Lines) (s : Machine) where
    -- Nothing that comes back depends on a sealed byte, no byte of the memory either: two full memories that differ only in sealed bytes have one
    -- extract. There is no condition.
    pub one_extract : (m₁ m₂ : List ℕ) → Differ (Under sealed) m₁ m₂ → extract sealed (length m₁) bound lines s m₁ ≡ extract sealed (length m₂) bound lines s m₂
    one_extract m₁ m₂ d =
        extract_whole sealed (length m₁) bound lines s m₁ d.full₁
        ∙ ap (λ (b : List ℕ). guarded_full sealed nowhere bound 0 lines s b) (same_blanked m₁ m₂ d)
        ∙ sym (extract_whole sealed (length m₂) bound lines s m₂ d.full₂)

    module _ (m : List ℕ) (full : length m ≡ full_memory) where
      size : length (blanked sealed m) ≡ full_memory
      size = blanked_length sealed m ∙ full

      -- it is the guarded run of the blanked memory
      as_guarded : extract sealed (length m) bound lines s m ≡ guarded sealed nowhere (length (blanked sealed m)) bound lines s (blanked sealed m)
      as_guarded = extract_whole sealed (length m) bound lines s m full ∙ sym (guarded_whole sealed nowhere (length (blanked sealed m)) bound lines s (blanked sealed m) size)

      -- blanking changes no answer: the guarded run of the memory itself answers the same
      itself : {w : Guarded} {x : List ℕ} → (w, x) ≡ extract sealed (length m) bound lines s m
          → guarded sealed nowhere (length m) bound lines s m ≡ (w, (guarded sealed nowhere (length m) bound lines s m).1)
      itself {w} {x} g =
          let k = guarded_apart sealed nowhere bound lines s m (blanked sealed m) (blanked_differs m full) _ w refl (g ∙ as_guarded) in
          ap (λ (v : Guarded). (v, (guarded sealed nowhere (length m) bound lines s m).1)) k.0

      -- If it answers as a run, it is the answer of the run of the memory itself, which reads no sealed byte; and the memory that it leaves is what
      -- that run leaves, but for zeros where a sealed byte was not stored to.
      pub extract_right : {q : Ended} {x : List ℕ} → (Ok q, x) ≡ extract sealed (length m) bound lines s m
          → {p : Ended} {e : List ℕ} → Gives (long_run (length m) bound lines s) m p e
          → (q ≡ p) × Unsealed (Under sealed) (listed_long_run (length m) bound lines s m) × Extracted (stores (long_run (length m) bound lines s) m) x e
      extract_right {q} {x} g {p} {e} r =
          let on-memory = ran_right sealed nowhere (length m) bound lines s m q _ (itself g) in
          let on-blanked = ran_right sealed nowhere (length (blanked sealed m)) bound lines s (blanked sealed m) q x (sym (g ∙ as_guarded)) in
          let beside = long_run_sealed (Under sealed) bound lines s m (blanked sealed m) (blanked_differs m full) on-memory.1.unread r on-blanked.0 in
          let k = beside.1 in (
            sym beside.0,
            on-memory.1.unread,
            record {
              size =
                  sym (ap (λ (w : Ended × List ℕ). length w.1) on-blanked.0) ∙ exec_length (long_run (length (blanked sealed m)) bound lines s) (blanked sealed m)
                  ∙ blanked_length sealed m ∙ sym (exec_length (long_run (length m) bound lines s) m) ∙ ap (λ (w : Ended × List ℕ). length w.1) r;
              elsewhere = λ a f. sym (k.elsewhere a f);
              stored = λ a u i. sym (k.stored a u i);
              blank = λ a u f. k.own₂ a u f ∙ blanked_at sealed m a ∙ rw u;
            },
          )

      -- If it was halted, so is the guarded run of the memory itself, and at the same place: before a step that would read a sealed byte.
      pub extract_halted : (touch : Touch) (j : ℕ) (t : Machine) {x : List ℕ} → (halted touch j t, x) ≡ extract sealed (length m) bound lines s m
          → Stopped sealed nowhere (length m) bound lines s m touch j t (guarded sealed nowhere (length m) bound lines s m).1
      extract_halted touch j t g = halted_right sealed nowhere (length m) bound lines s m touch j t _ (itself g)
