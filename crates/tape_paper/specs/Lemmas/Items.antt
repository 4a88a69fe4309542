-- Laws of Items.antt.
use Rattle.std.specs.Prelude.{ℕ, ◌+◌, ◌<◌, ◌≡◌, refl, Bool, true, false, cond, not, List, eqb, ltb, length, take, drop, Some, None}
use Rattle.std.proofs.Math.Path.{ap}
use Rattle.std.proofs.Common.{sym, ◌∙◌, arith, length-drop, length-take-le}
use Rattle.std.proofs.Math.Option.{Option, some}
use Rattle.laws.specs.Answers.{malformed_record, wrong_sum, past_the_end, no_end}
use Rattle.tape_records.specs.declared.Parts.{Parts}
use Rattle.tape_records.specs.Records.{record_of, count, address, sum, last}
use Rattle.tape_records.specs.Inner.Reading.{found, parts_of}
use Rattle.tape_records.specs.Contents.{Stretch, Item, stretch, finish, bad}
use Rattle.tape_records.specs.Lemmas.Whole.{never, record_length}
use Rattle.tape_records.specs.Inner.Items.{Told}
use Rattle.tape_records.specs.Inner.Items.{Bad}
use Rattle.tape_records.specs.Lemmas.Items.{none_found, one_found, told_cond}
use Rattle.tape_records.specs.Inner.Items.{told}
use Rattle.tape_paper.specs.Tapes.{judge, tape_item}
use Rattle.tape_paper.specs.Inner.Items.{told_by}

data_length : (bs : List ℕ) → length bs ≡ count bs + 5 → length (take (count bs) (drop 3 bs)) ≡ count bs
data_length bs h = length-take-le (count bs) (drop 3 bs) (simp length-drop (omega arith))

pub by_bytes : (before : ℕ) (bs : List ℕ) → length bs ≡ count bs + 5 → told (judge before (some bs)) ≡ told_by before (parts_of bs)
by_bytes before bs h =
    told_cond (not (eqb (sum bs) (last bs))) (bad wrong_sum) _
    ∙ ap (λ (t : Told). cond (not (eqb (sum bs) (last bs))) (Bad wrong_sum) t)
    (told_cond (eqb (count bs) 0) (cond (eqb (address bs) before) finish (bad no_end)) _
    ∙ rw (
      told_cond (eqb (address bs) before) finish (bad no_end),
      told_cond (ltb 65536 (address bs + count bs)) (bad past_the_end) (stretch (record { first = address bs; bytes = take (count bs) (drop 3 bs) })),
      data_length bs h,
    ))

module _ (before : ℕ) (s : List ℕ) where
  pub item_malformed : None ≡ found (record_of 59 s) → told (tape_item before s) ≡ Bad malformed_record
  unfolding tape_item
  item_malformed e = ap (λ (o : Option (List ℕ)). told (judge before o)) (none_found (record_of 59 s) e)

  pub item_by_parts : (p : Parts) → Some p ≡ found (record_of 59 s) → told (tape_item before s) ≡ told_by before p
  unfolding tape_item
  item_by_parts p e =
      let its = one_found (record_of 59 s) p e in
      ap (λ (o : Option (List ℕ)). told (judge before o)) its.1
      ∙ by_bytes before its.0 (record_length 59 s its.0 its.1)
      ∙ ap (told_by before) (sym its.2)

-- which tests a kind of record has passed
abbrev chosen : Bool → Bool → Bool → Bool → Stretch → Item
chosen sums empty numbers past r = cond (not sums) (bad wrong_sum) (cond empty (cond numbers finish (bad no_end)) (cond past (bad past_the_end) (stretch r)))

pub only_stretch : (t u v x : Bool) (r q : Stretch) → chosen t u v x r ≡ stretch q → (r ≡ q) × (t ≡ true) × (u ≡ false) × (x ≡ false)
only_stretch false u v x r q e = never (cc)
only_stretch true true true x r q e = never (cc)
only_stretch true true false x r q e = never (cc)
only_stretch true false v true r q e = never (cc)
only_stretch true false v false r q e = (cc, refl, refl, refl)

pub only_finish : (t u v x : Bool) (r : Stretch) → chosen t u v x r ≡ finish → (t ≡ true) × (u ≡ true) × (v ≡ true)
only_finish false u v x r e = never (cc)
only_finish true true true x r e = (refl, refl, refl)
only_finish true true false x r e = never (cc)
only_finish true false v true r e = never (cc)
only_finish true false v false r e = never (cc)

pub bad_some : (t u v x : Bool) (r : Stretch) (reason : ℕ) → chosen t u v x r ≡ bad reason → 0 < reason
bad_some false u v x r reason e = let same : 6 ≡ reason = cc in omega arith
bad_some true true true x r reason e = never (cc)
bad_some true true false x r reason e = let same : 8 ≡ reason = cc in omega arith
bad_some true false v true r reason e = let same : 7 ≡ reason = cc in omega arith
bad_some true false v false r reason e = never (cc)
