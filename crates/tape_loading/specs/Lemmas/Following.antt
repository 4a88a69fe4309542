-- Laws of Following.antt.
use Rattle.std.specs.Prelude.{ℕ, ◌+◌, ◌*◌, ◌<◌, ◌≤◌, ◌≡◌, List, length, drop}
use Rattle.std.proofs.Common.{sym, ◌∙◌}
use borrow.Author.Tests.{lt-ltb, le-ltb}
use Rattle.laws.specs.Answers.{not_refused, malformed_record, no_end}
use Rattle.tape_records.specs.Contents.{Stretch, stretch}
use Rattle.tape_records.specs.Inner.Gaps.{gap_end}
use Rattle.tape_records.specs.Inner.Items.{Told}
use Rattle.tape_records.specs.Inner.Items.{Data, End, Bad}
use Rattle.tape_records.specs.Inner.Items.{told}
use Rattle.tape_records.specs.Lemmas.Items.{told_bad, told_end_lem, told_data_lem}
use Rattle.tape_loading.specs.declared.Format.{Format}
use Rattle.tape_loading.specs.Inner.Following.{Ahead}
use Rattle.tape_loading.specs.Inner.Formats.{item_of, head_size}
use Rattle.tape_loading.specs.Inner.Following.{stop_at, next_by, next_of}

-- A law for each way out of the code, from what it found where the gap ends.
module _ (f : Format) (s : List ℕ) (at before : ℕ) {place : ℕ} (ends : place ≡ gap_end s at) where
  pub no_more : length s ≤ place → stop_at no_end before (length s) ≡ next_of f s at before
  unfolding next_of
  no_more h = rw (← ends, le-ltb place (length s) h)

  module _ (h : place < length s) {t : List ℕ} (r : t ≡ drop place s) {item : Told} (q : item ≡ told (item_of f before t)) where
    there : next_of f s at before ≡ next_by f s before place (item_of f before t)
    unfolding next_of
    there = rw (← ends, lt-ltb place (length s) h, r)

    pub next_bad : {reason : ℕ} → item ≡ Bad reason → stop_at reason before place ≡ next_of f s at before
    next_bad {reason} k = sym (there ∙ rw (told_bad (item_of f before t) reason (sym k ∙ q)))

    module _ (k : item ≡ End) {end : ℕ} (gap : end ≡ gap_end s (place + 11)) where
      pub next_stray : end < length s → stop_at malformed_record (before + 1) end ≡ next_of f s at before
      next_stray g = sym (there ∙ rw (told_end_lem (item_of f before t) (sym k ∙ q), ← gap, lt-ltb end (length s) g))

      pub next_end : length s ≤ end → stop_at not_refused (before + 1) (length s) ≡ next_of f s at before
      next_end g = sym (there ∙ rw (told_end_lem (item_of f before t) (sym k ∙ q), ← gap, le-ltb end (length s) g))

    pub next_data : {w n head : ℕ} → item ≡ Data w n → head ≡ head_size f
        → Ahead w n (place + 1 + 2 * head) (place + 11 + 2 * n) ≡ next_of f s at before
    next_data {w} {n} {head} k z =
        let told_of = told_data_lem (item_of f before t) w n (sym k ∙ q) in
        by_stretch told_of.0 told_of.1 told_of.2 told_of.3
      where
        by_stretch : (a : Stretch) → item_of f before t ≡ stretch a → w ≡ a.first → n ≡ length a.bytes
            → Ahead w n (place + 1 + 2 * head) (place + 11 + 2 * n) ≡ next_of f s at before
        by_stretch a e first size = rw (first, size, z) (sym (there ∙ rw e))
