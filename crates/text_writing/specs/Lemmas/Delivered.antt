-- Laws of Delivered.antt.
use Rattle.std.specs.Prelude.{ℕ, ◌+◌, ◌≤◌, ◌<◌, ◌≡◌, refl, Bool, true, false, cond, List, ◌++◌, ltb, length, take, drop, Ok}
use Rattle.std.proofs.Common.{zero-add, arith, take_at, lt-ltb, le-ltb, ltb-false}
use Rattle.std.proofs.lemmas.List.Edits.{sets, sets-eq}
use Rattle.laws.specs.Answers.{not_refused, no_room}
use Rattle.text_writing.specs.Written.{Wrote}
use Rattle.text_writing.specs.Delivered.{Delivered, with_buffer, refused, delivered}

-- the text that stands at the buffer's start
abbrev pub written : Delivered → List ℕ
written d = take d.size d.buffer

module _ (t buffer : List ℕ) where
  -- If there is room, the text stands at the buffer's start, and after it what stood there before.
  pub whole_text : length t ≤ length buffer
      → delivered t buffer ≡ record { answer = not_refused; size = length t; buffer = t ++ drop (length t) buffer }
  whole_text h = rw (le-ltb (length buffer) (length t) h, sets-eq t buffer 0 (omega arith), zero-add (length t))

  -- What a writer into the buffer leaves, and what one that finds no room does.
  pub all_written : {buffer' : List ℕ} {size : ℕ} → length t ≤ length buffer → Wrote buffer 0 t buffer' size
      → record { answer = not_refused; size = size; buffer = buffer' } ≡ delivered t buffer
  all_written {buffer'} {size} h w =
      let ends : size ≡ length t = omega (arith, w.ends, w.fits, h) in
      rw (le-ltb (length buffer) (length t) h, w.bytes, ends)

  pub no_room_lem : length buffer < length t → refused no_room buffer ≡ delivered t buffer
  no_room_lem h = rw (lt-ltb (length buffer) (length t) h)

  -- What was written is found there again.
  pub at_front : length t ≤ length buffer → take (length t) (sets buffer 0 t) ≡ t
  at_front h = rw (sets-eq t buffer 0 (omega arith)) (take_at t (drop (0 + length t) buffer) (length t) refl)

  -- What was not refused is the text.
  pub all_there : (delivered t buffer).answer ≡ not_refused → written (delivered t buffer) ≡ t
  all_there z = by_room (ltb (length buffer) (length t)) refl z
    where
      by_room : (b : Bool) → ltb (length buffer) (length t) ≡ b
          → (cond b (refused no_room buffer) (record { answer = not_refused; size = length t; buffer = sets buffer 0 t })).answer ≡ not_refused
          → written (cond b (refused no_room buffer) (record { answer = not_refused; size = length t; buffer = sets buffer 0 t })) ≡ t
      by_room true e y = absurd (omega arith)
      by_room false e y = at_front (ltb-false (length buffer) (length t) e)

-- What the code answers and leaves in the buffer, by where its writer stands in the end and what it left.
pub told_all : {size at : ℕ} {buffer buffer' : List ℕ} {d : Delivered} → record { answer = not_refused; size = at; buffer = buffer' } ≡ d
    → size ≡ at → buffer ≡ buffer' → with_buffer (Ok size) buffer ≡ d
told_all e size-is buffer-is = rw (size-is, buffer-is) e
