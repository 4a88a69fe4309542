-- Laws of what is saved.
use Rattle.std.specs.Prelude.{ℕ, ◌+◌, ◌<◌, ◌≤◌, ◌≡◌, refl, List, [], eqb, ltb, length, get_or, drop}
use Rattle.std.proofs.Math.Option.{Option, none, some}
use Rattle.std.proofs.Common.{add-one, drop_of_length-le, drop-cons, eq-eqb, ne_eqb}
use Rattle.tape_records.specs.Records.{record_of, count, address}
use Rattle.tape_records.specs.Contents.{Stretch, stretch, finish}
use Rattle.tape_paper.specs.Tapes.{right_sum, judge, tape_item}
use Rattle.tape_paper.specs.Lemmas.Items.{only_stretch, only_finish}
use Rattle.tape_rescuing.specs.Rescuing.{worth, found, saved}
use Rattle.tape_records.specs.Lemmas.Whole.{never}

-- a record's worth is what it is after any number of data records
worth_stretch : (k : ℕ) (o : Option (List ℕ)) (r : Stretch) → judge k o ≡ stretch r → worth o ≡ stretch r
worth_stretch k none r e = never (cc)
worth_stretch k (some bs) r e =
    let tests = only_stretch (right_sum bs) (eqb (count bs) 0) (eqb (address bs) k) (ltb 65536 (address bs + count bs)) _ r e in
    rw (tests.1, tests.2, tests.3, tests.0)

worth_finish : (k : ℕ) (o : Option (List ℕ)) → judge k o ≡ finish → worth o ≡ finish
worth_finish k none e = never (cc)
worth_finish k (some bs) e =
    let tests = only_finish (right_sum bs) (eqb (count bs) 0) (eqb (address bs) k) (ltb 65536 (address bs + count bs)) _ e in
    rw (tests.0, tests.1, eq-eqb (address bs) (address bs) refl)

stretch_worth : (o : Option (List ℕ)) (r : Stretch) → worth o ≡ stretch r → (k : ℕ) → judge k o ≡ stretch r
stretch_worth none r e k = never (cc)
stretch_worth (some bs) r e k =
    let tests = only_stretch (right_sum bs) (eqb (count bs) 0) (eqb (address bs) (address bs)) (ltb 65536 (address bs + count bs)) _ r e in
    rw (tests.1, tests.2, tests.3, tests.0)

module _ (k : ℕ) (s : List ℕ) where
  pub item_worth_stretch : (r : Stretch) → tape_item k s ≡ stretch r → worth (record_of 59 s) ≡ stretch r
  unfolding tape_item
  item_worth_stretch r e = worth_stretch k (record_of 59 s) r e

  pub item_worth_finish : tape_item k s ≡ finish → worth (record_of 59 s) ≡ finish
  unfolding tape_item
  item_worth_finish e = worth_finish k (record_of 59 s) e

  pub worth_item : (r : Stretch) → worth (record_of 59 s) ≡ stretch r → tape_item k s ≡ stretch r
  unfolding tape_item
  worth_item r e = stretch_worth (record_of 59 s) r e k

-- a turn of the loop
module _ (s : List ℕ) (at : ℕ) where
  pub saved_end : length s ≤ at → saved at (drop at s) ≡ record { records = []; dropped = 0; first = at }
  saved_end h = rw (drop_of_length-le s h)

  module _ (h : at < length s) where
    pub saved_other : (get_or s at 0 ≡ 59 → ⊥) → saved at (drop at s) ≡ saved (at + 1) (drop (at + 1) s)
    saved_other e = rw (add-one at, drop-cons s at 0 h, ne_eqb (get_or s at 0) 59 e)

    pub saved_mark : get_or s at 0 ≡ 59 → saved at (drop at s) ≡ found at (worth (record_of 59 (drop at s))) (saved (at + 1) (drop (at + 1) s))
    saved_mark e = rw (add-one at, drop-cons s at 0 h, eq-eqb (get_or s at 0) 59 e)
