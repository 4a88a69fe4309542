-- Laws of Passing.antt.
use Rattle.std.specs.Prelude.{ℕ, ◌+◌, ◌*◌, ◌≤◌, ◌≡◌, refl, List, [], ◌++◌, length, take, drop, Some, None}
use Rattle.std.specs.Prelude.{Option as Maybe}
use Rattle.std.specs.Option.{unwrap_or, option_or}
use Rattle.std.proofs.Common.{ap, sym, ◌∙◌, arith, length-append, take_at}
use Rattle.std.proofs.Math.Option.{Option, none, some}
use Rattle.laws.specs.Answers.{malformed_record}
use Rattle.text_writing.specs.Written.{Writes}
use Rattle.text_writing.specs.declared.Writer.{Writer}
use Rattle.tape_records.specs.Lemmas.Writing.{Left, less_left}
use Rattle.tape_records.specs.declared.Parts.{Parts}
use Rattle.tape_records.specs.Records.{record_of, address}
use Rattle.tape_records.specs.Inner.Reading.{found as foundParts, parts_of}
use Rattle.tape_records.specs.Lemmas.Whole.{never, record_length}
use Rattle.tape_records.specs.Contents.{Stretch, stretch, finish, bad}
use Rattle.tape_records.specs.Grammar.{newline}
use Rattle.tape_records.specs.Inner.Items.{Told}
use Rattle.tape_records.specs.Inner.Items.{Data, End, Bad}
use Rattle.tape_records.specs.Inner.Items.{told}
use Rattle.tape_records.specs.Lemmas.Items.{told_bad, told_end_lem, told_data_lem}
use Rattle.tape_paper.specs.Inner.Items.{told_by}
use Rattle.tape_paper.specs.Lemmas.Items.{by_bytes}
use Rattle.tape_paper.specs.Grammar.{record_text, tape_text}
use Rattle.tape_paper.specs.Lemmas.Lawful.{tape_lawful, text_size}
use Rattle.tape_rescuing.specs.Rescuing.{worth, Saved, found}
use Rattle.tape_rescuing.specs.Lemmas.Worth.{worth_item}

-- of X, x is left
pub record Underway (X x : Saved) (w₀ w : Writer) (kept dropped : ℕ) (first : Maybe ℕ) : Type 0 where
  pub keeps : kept + length x.records ≡ length X.records
  pub drops : dropped + x.dropped ≡ X.dropped
  pub begins : unwrap_or first x.first ≡ X.first
  pub writes : Left w (tape_text kept x.records) w₀ (tape_text 0 X.records)

module _ {X x y : Saved} {w₀ w : Writer} {kept dropped : ℕ} {first : Maybe ℕ} (u : Underway X x w₀ w kept dropped first) where
  pub on : x ≡ y → Underway X y w₀ w kept dropped first
  on e = rw e at u

  pub one_kept : {w' : Writer} (at : ℕ) (r : Stretch) → x ≡ found at (stretch r) y
      → Writes w (record_text r.first r.bytes ++ newline) w' → Underway X y w₀ w' (kept + 1) dropped first
  one_kept at r e p =
      let v : Underway X (found at (stretch r) y) w₀ w kept dropped first = rw e at u in
      record {
        keeps = omega (arith, v.keeps);
        drops = v.drops;
        begins = v.begins;
        writes = less_left {s = record_text r.first r.bytes ++ newline} v.writes refl p;
      }

  pub one_dropped : (at reason : ℕ) → x ≡ found at (bad reason) y
      → Underway X y w₀ w kept (dropped + 1) (option_or first (Some at))
  one_dropped at reason e =
      let v : Underway X (found at (bad reason) y) w₀ w kept dropped first = rw e at u in
      record {
        keeps = v.keeps;
        drops = omega (arith, v.drops);
        begins = by_first first v.begins;
        writes = v.writes;
      }
    where
      by_first : (o : Maybe ℕ) → unwrap_or o at ≡ X.first → unwrap_or (option_or o (Some at)) y.first ≡ X.first
      by_first None h = h
      by_first (Some place) h = h

-- nothing is left
module _ {X : Saved} {w₀ w : Writer} {kept dropped end : ℕ} {first : Maybe ℕ} (u : Underway X (record { records = []; dropped = 0; first = end }) w₀ w kept dropped first) where
  pub all_kept : kept ≡ length X.records
  all_kept = omega (arith, u.keeps)

  pub all_dropped : dropped ≡ X.dropped
  all_dropped = omega (arith, u.drops)

-- a record's worth, as the code tells it
module _ (s : List ℕ) where
  pub worth_malformed : None ≡ foundParts (record_of 59 s) → told (worth (record_of 59 s)) ≡ Bad malformed_record
  worth_malformed e = by_case (record_of 59 s) e
    where
      by_case : (o : Option (List ℕ)) → None ≡ foundParts o → told (worth o) ≡ Bad malformed_record
      by_case none f = refl
      by_case (some bs) f = never (cc)

  pub worth_by_parts : (p : Parts) → Some p ≡ foundParts (record_of 59 s) → told (worth (record_of 59 s)) ≡ told_by p.head.address p
  worth_by_parts p e = by_case (record_of 59 s) refl e
    where
      by_case : (o : Option (List ℕ)) → record_of 59 s ≡ o → Some p ≡ foundParts o → told (worth o) ≡ told_by p.head.address p
      by_case none g f = never (cc)
      by_case (some bs) g f =
          let same : p ≡ parts_of bs = cc in
          by_bytes (address bs) bs (record_length 59 s bs g) ∙ ap (λ (q : Parts). told_by q.head.address q) (sym same)

-- what the loop needs of each kind
module _ (s : List ℕ) (at : ℕ) {t : List ℕ} (r : t ≡ drop at s) {item : Told} (q : item ≡ told (worth (record_of 59 t))) where
  pub is_bad_lem : {reason : ℕ} → item ≡ Bad reason → worth (record_of 59 (drop at s)) ≡ bad reason
  is_bad_lem {reason} k = rw (← r) (told_bad (worth (record_of 59 t)) reason (sym k ∙ q))

  pub is_end : item ≡ End → worth (record_of 59 (drop at s)) ≡ finish
  is_end k = rw (← r) (told_end_lem (worth (record_of 59 t)) (sym k ∙ q))

  -- a kept record's text is what stands there
  pub is_data : {w n : ℕ} → item ≡ Data w n
      → (a : Stretch) × (worth (record_of 59 (drop at s)) ≡ stretch a) × (take (11 + 2 * n) t ≡ record_text a.first a.bytes) × (11 + 2 * n ≤ length t)
  is_data {w} {n} k =
      let told_of = told_data_lem (worth (record_of 59 t)) w n (sym k ∙ q) in
      by_stretch told_of.0 told_of.1 told_of.3
    where
      by_stretch : (a : Stretch) → worth (record_of 59 t) ≡ stretch a → n ≡ length a.bytes
          → (a : Stretch) × (worth (record_of 59 (drop at s)) ≡ stretch a) × (take (11 + 2 * n) t ≡ record_text a.first a.bytes) × (11 + 2 * n ≤ length t)
      by_stretch a g size =
          let back = tape_lawful.data_back 0 a t (worth_item 0 t a g) in
          let text : back.0 ≡ record_text a.first a.bytes = back.1.1 in
          let long : length back.0 ≡ 11 + 2 * n = omega (arith, ap length text, text_size a.first a.bytes) in (
            a,
            rw (← r) g,
            ap (take (11 + 2 * n)) back.2 ∙ take_at back.0 (drop (11 + 2 * length a.bytes) t) (11 + 2 * n) long ∙ text,
            omega (arith, ap length back.2, length-append back.0 (drop (11 + 2 * length a.bytes) t)),
          )
