-- The oath: what may be signed of the extract of an image (docs/OATH.md), a theorem for each sentence. `image_extract` is what `run_sealed` promises,
-- with the answer w and the memory x, which the program writes to AFTER if its status is 0. The run of an image is the one that `go` makes
-- of it (`long_image_run`): it reads its start at FFFC and FFFD, and makes at most so many steps with idle lines. `sealed` is any set of addresses,
-- as the stretches of a word are; the word names them in the sentence.
use Rattle.std.specs.Prelude.{ℕ, ◌<◌, ◌≡◌, Bool, true, false, List, length, Ok, Err}
use Rattle.std.proofs.Common.{ap, sym, ◌∙◌, subst}
use Rattle.laws.specs.Answers.{would_read}
use Rattle.manual.specs.declared.Ended.{Ended}
use Rattle.manual.specs.declared.Reason.TheVariants.{Made}
use Rattle.manual.specs.Micro.{reads, stores, Gives}
use Rattle.manual.specs.Outcomes.{ended}
use Rattle.manual.specs.Interrupts.{idle}
use Rattle.manual.specs.Stepping.{full_memory, step}
use Rattle.manual.specs.Lemmas.Programs.{◌∈◌}
use Rattle.manual.proofs.Theorems.Sealed.{Differ, Unsealed, Kept, sealed}
use Rattle.statuses.specs.declared.Goal.{Goal}
use Rattle.statuses.specs.Statuses.{reached}
use Rattle.image_run.specs.Report.{long_image_run, image_start}
use Rattle.guard_maps.specs.declared.Touch.{Touch}
use Rattle.guard_maps.specs.Maps.{nowhere}
use Rattle.guard.specs.Guarded.{Guarded, guarded}
use Rattle.guard.specs.declared.Halt.{Halt}
use Rattle.guard.specs.Lemmas.AnyGuard.{Under}
use Rattle.guard.specs.Theorems.Guarding.{Would}
use Rattle.guard.specs.Theorems.Extracting.{Extracted}
use Rattle.guard_extract.specs.Extract.{image_extract}
use Rattle.guard_extract.specs.Words.{sealed_status, sealed_line, end_text, oath_text}
use Rattle.guard_extract.specs.Lemmas.Beside.{from_start_lem, status_13, one_image, unread_from, ended_well, halted_there}

module _ (seals : ℕ → Bool) (word : List ℕ) (goal : Goal) (steps : ℕ) where
  -- what is sealed
  abbrev pub Sealed : ℕ → Type 0
  Sealed = Under seals

  -- the run of the image up to where it was halted, and the next step, which would read the named byte
  pub record WouldRead (m : List ℕ) (h : Halt) (place : ℕ) : Type 0 where
    pub fewer : h.steps < steps
    pub leaves : List ℕ
    pub made : Gives (long_image_run h.steps (length m)) m (ended Made h.steps h.machine) leaves
    pub unread : Unsealed Sealed (reads (long_image_run h.steps (length m)) m)
    pub place_sealed : Sealed place
    pub place_read : place ∈ reads (step (length m) idle h.machine) leaves

  -- all that comes out: the line, how the run ended in words, what is sworn, the status, and AFTER
  pub record HandedOut (w₁ : Guarded) (x₁ : List ℕ) (w₂ : Guarded) (x₂ : List ℕ) : Type 0 where
    pub line : sealed_line w₁ ≡ sealed_line w₂
    pub sentence : end_text goal w₁ x₁ ≡ end_text goal w₂ x₂
    pub oath : oath_text word w₁ ≡ oath_text word w₂
    pub status : sealed_status goal w₁ ≡ sealed_status goal w₂
    pub after : x₁ ≡ x₂

  -- ==== Of a full image, with FFFC and FFFD unsealed

  module _ (m : List ℕ) (full : length m ≡ full_memory) (lo : seals 0xFFFC ≡ false) (hi : seals 0xFFFD ≡ false)
      {w : Guarded} {x : List ℕ} (extracted : (w, x) ≡ image_extract seals steps m) where
    -- Status 0, beside the run of the image, with its answer q and the memory e that it leaves.
    module _ (zero : sealed_status goal w ≡ 0) {q : Ended} {e : List ℕ} (ran : Gives (long_image_run steps (length m)) m q e) where
      -- 1. No sealed byte was read, and the run ended as it was meant to.
      pub nothing_read : Unsealed Sealed (reads (long_image_run steps (length m)) m) × (w ≡ Ok q) × (reached goal q ≡ true)
      nothing_read = let so = ended_well seals steps m full lo hi goal extracted zero ran in (so.2, so.0, so.1)

      -- 2. Had other bytes stood there, the run would have given the same answer, steps, registers and cycles, and the same bytes everywhere
      -- else; a sealed byte that it stored to is the same too, and any other sealed byte is what it was.
      pub same_whatever : (m₂ : List ℕ) {q₂ : Ended} {e₂ : List ℕ} → Differ Sealed m m₂ → Gives (long_image_run steps (length m₂)) m₂ q₂ e₂
          → (q ≡ q₂) × Kept Sealed (stores (long_image_run steps (length m)) m) m m₂ e e₂
      same_whatever m₂ {q₂} {e₂} d g =
          sealed Sealed (long_image_run steps (length m)) m m₂ d nothing_read.0 ran
          (subst (λ (n : ℕ). Gives (long_image_run steps n) m₂ q₂ e₂) (d.full₂ ∙ sym d.full₁) g)

      -- 3. AFTER is what the run leaves, but for the sealed bytes that it never stored to, which are 00.
      pub after_run : Extracted seals (stores (long_image_run steps (length m)) m) x e
      after_run = (ended_well seals steps m full lo hi goal extracted zero ran).3

    -- 4. Status 13: the run read no sealed byte in the steps that it made, and the next step would read the one that is named.
    pub would_read_lem : sealed_status goal w ≡ would_read → (h : Halt) × (a : ℕ) × (w ≡ Err h) × (h.touch ≡ Touch.Read a) × WouldRead m h a
    would_read_lem z =
        let (h, a, is, touch) = status_13 goal w z in
        let so = halted_there seals steps m full lo hi h (subst (λ (v : Guarded). (v, x) ≡ image_extract seals steps m) is extracted) in
        let ahead = subst (λ (t : Touch). Would seals nowhere (length m) steps idle (image_start m) m t h.machine (guarded seals nowhere (length m) steps idle (image_start m) m).1) touch so.would in (
          h,
          a,
          is,
          touch,
          record {
            fewer = so.fewer;
            leaves = _;
            made = from_start_lem h.steps m ∙ so.gives;
            unread = unread_from seals steps m full lo hi h.steps so.untouching.unread;
            place_sealed = ahead.1;
            place_read = ahead.0;
          },
        )

  -- ==== Of any two full images that differ only in sealed bytes, however their runs end

  -- 5. The same line, the same sentences, the same status and the same AFTER come out, byte for byte.
  pub same_handed_out : (m₁ m₂ : List ℕ) → Differ Sealed m₁ m₂ → {w₁ w₂ : Guarded} {x₁ x₂ : List ℕ} → (w₁, x₁) ≡ image_extract seals steps m₁
      → (w₂, x₂) ≡ image_extract seals steps m₂
      → HandedOut w₁ x₁ w₂ x₂
  same_handed_out m₁ m₂ d g₁ g₂ =
      let one = g₁ ∙ one_image seals steps m₁ m₂ d ∙ sym g₂ in
      record {
        line = ap (λ (v : Guarded × List ℕ). sealed_line v.0) one;
        sentence = ap (λ (v : Guarded × List ℕ). end_text goal v.0 v.1) one;
        oath = ap (λ (v : Guarded × List ℕ). oath_text word v.0) one;
        status = ap (λ (v : Guarded × List ℕ). sealed_status goal v.0) one;
        after = ap (λ (v : Guarded × List ℕ). v.1) one;
      }
