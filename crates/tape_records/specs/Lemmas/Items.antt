-- Laws of Items.antt.
use Rattle.std.specs.Prelude.{◌≡◌, ℕ, Bool, true, false, cond, List, length, refl, Some, None}
use Rattle.std.proofs.Math.Option.{Option, none, some}
use Rattle.tape_records.specs.declared.Parts.{Parts}
use Rattle.tape_records.specs.Inner.Reading.{found, parts_of}
use Rattle.tape_records.specs.Contents.{Stretch, Item, stretch, finish, bad}
use Rattle.tape_records.specs.Lemmas.Whole.{never}
use Rattle.tape_records.specs.Inner.Items.{Data, End, Bad}
use Rattle.tape_records.specs.Inner.Items.{told}

-- what was found where a record has to begin
pub none_found : (o : Option (List ℕ)) → None ≡ found o → o ≡ none
none_found none e = refl
none_found (some bs) e = never (cc)

pub one_found : (o : Option (List ℕ)) (p : Parts) → Some p ≡ found o → (bs : List ℕ) × (o ≡ some bs) × (p ≡ parts_of bs)
one_found none p e = never (cc)
one_found (some bs) p e = (bs, refl, cc)

-- the kind of record that was told of
module _ (i : Item) where
  pub told_bad : (reason : ℕ) → Bad reason ≡ told i → i ≡ bad reason
  told_bad reason e = by_case i e
    where
      by_case : (i : Item) → Bad reason ≡ told i → i ≡ bad reason
      by_case (bad r) f = let same : reason ≡ r = cc in rw same
      by_case finish f = never (cc)
      by_case (stretch r) f = never (cc)

  pub told_end_lem : End ≡ told i → i ≡ finish
  told_end_lem e = by_case i e
    where
      by_case : (i : Item) → End ≡ told i → i ≡ finish
      by_case (bad r) f = never (cc)
      by_case finish f = refl
      by_case (stretch r) f = never (cc)

  pub told_data_lem : (w n : ℕ) → Data w n ≡ told i → (r : Stretch) × (i ≡ stretch r) × (w ≡ r.first) × (n ≡ length r.bytes)
  told_data_lem w n e = by_case i e
    where
      by_case : (i : Item) → Data w n ≡ told i → (r : Stretch) × (i ≡ stretch r) × (w ≡ r.first) × (n ≡ length r.bytes)
      by_case (bad r) f = never (cc)
      by_case finish f = never (cc)
      by_case (stretch r) f = (r, refl, cc, cc)

pub told_cond : (b : Bool) (x y : Item) → told (cond b x y) ≡ cond b (told x) (told y)
told_cond true x y = refl
told_cond false x y = refl
