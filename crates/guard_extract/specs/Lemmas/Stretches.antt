-- Laws that the proofs of stretches.rt cite.
use Prim.Native.Nat.{ℕ, zero, suc, ◌+◌, ◌-◌, ◌≤◌, ◌<◌}
use Rattle.std.specs.Prelude.{◌≡◌, Bool, ◌&&◌, ◌||◌, List, [], ◌∷◌, ◌⊎◌, eqb, leb, ltb, get_or, Some, None, Err}
use Rattle.std.proofs.Math.Path.{refl}
use Rattle.std.proofs.Common.{ap, sym, ◌∙◌, subst, ⊎_elim}
use Rattle.std.proofs.Math.Bool.{true, false, cond}
use Rattle.std.proofs.Math.Logic.{inl, inr}
use Rattle.std.proofs.Math.Decide.{ℕ_discrete, dec_lt}
use native.Mathlib.Omega.{arith}
use borrow.Author.Tests.{eqb-true, eq-eqb, ne_eqb, lt-ltb, le-ltb, le-leb, lt-leb}
use Rattle.std.proofs.Math.ListN.{length}
use Rattle.text_reading.specs.Numbers.{nowhere, digit_value, no_digit, digit_at, byte_at, word_at, mark_at}
use Rattle.text_reading.specs.Found.{place_found}
use Rattle.text_reading.specs.Lemmas.Found.{none_by, some_by, some_place, gone_place, got_place, somewhere_place}
use Rattle.guard_maps.specs.Maps.{in_map}
use Rattle.guard_extract.specs.declared.stretches.Stretch.{Stretch}
use Rattle.guard_extract.specs.declared.stretches.Misspelled.{Misspelled}
use Rattle.guard_extract.specs.Stretches.{Spelled, well, in_stretch, in_any, holds_start, stretch_at, stretch_found, place_after, stretches_from, stretches, Sealing}

-- ---- a stretch that the code has, or has not

module _ (s : Stretch) where
  pub none_stretch : s.next ≡ nowhere → None ≡ stretch_found s
  none_stretch h = rw (eq-eqb s.next nowhere h)

  pub some_stretch : (s.next ≡ nowhere → ⊥) → Some s ≡ stretch_found s
  some_stretch h = rw (ne_eqb s.next nowhere h)

  pub no_stretch_there : None ≡ stretch_found s → s.next ≡ nowhere
  no_stretch_there e = eqb-true s.next nowhere (none_by s _ (sym e))

  pub got_stretch : {q : Stretch} → Some q ≡ stretch_found s → s ≡ q
  got_stretch {q} e = (some_by s q _ (sym e)).1

-- ---- the place after it

module _ (word : List ℕ) (next : ℕ) where
  pub at_end : next ≡ length word → next ≡ place_after word next
  unfolding place_after
  at_end e = rw (eq-eqb _ _ e)

  pub end_found : next ≡ length word → next < nowhere → Some next ≡ place_found (place_after word next)
  end_found e l = rw (← at_end e) (some_place _ (λ z. absurd (omega (arith, l, z))))

  pub at_mark : (next ≡ length word → ⊥) → mark_at 44 word next ≡ place_after word next
  unfolding place_after
  at_mark f = rw (ne_eqb _ _ f)

-- ---- the addresses of a stretch, up to a place

abbrev pub before : ℕ → ℕ → ℕ → Bool
before first place a = leb first a && ltb a place

pub or_assoc : (x y z : Bool) → (x || (y || z)) ≡ ((x || y) || z)
or_assoc true y z = refl
or_assoc false y z = refl

pub or_none : (x : Bool) → x ≡ (x || false)
or_none true = refl
or_none false = refl

-- none before the first
pub none_before : (first a : ℕ) → before first first a ≡ false
none_before first a = by_order (dec_lt a first)
  where
    by_order : Dec (a < first) → before first first a ≡ false
    by_order (yes l) = rw (lt-leb _ _ l)
    by_order (no f) = let h : first ≤ a = omega arith in rw (le-leb _ _ h, le-ltb _ _ h)

-- one more
pub one_before : (first place a : ℕ) → first ≤ place → (before first place a || eqb a place) ≡ before first (place + 1) a
one_before first place a h = by_order (ℕ_discrete a place) (dec_lt a place)
  where
    by_order : Dec (a ≡ place) → Dec (a < place) → (before first place a || eqb a place) ≡ before first (place + 1) a
    by_order (yes e) d =
        let l : first ≤ a = omega arith in
        let m : place ≤ a = omega arith in
        let n : a < place + 1 = omega arith in
        rw (le-leb _ _ l, le-ltb _ _ m, lt-ltb _ _ n, eq-eqb _ _ e)
    by_order (no f) (yes l) =
        let n : a < place + 1 = omega arith in
        rw (lt-ltb _ _ l, lt-ltb _ _ n, ne_eqb _ _ f) (sym (or_none _))
    by_order (no f) (no g) =
        let m : place ≤ a = omega arith in
        let n : place + 1 ≤ a = omega (arith, f) in
        rw (le-ltb _ _ m, le-ltb _ _ n, ne_eqb _ _ f) (sym (or_none _))

-- all of them before the place after the last
pub all_before : (first last place a : ℕ) → last < place → (place ≡ first) ⊎ (place ≡ last + 1) → before first place a ≡ in_stretch first last a
all_before first last place a h (inr e) = by_order (dec_lt last a)
  where
    by_order : Dec (last < a) → before first place a ≡ in_stretch first last a
    by_order (yes l) = let m : place ≤ a = omega arith in rw (le-ltb _ _ m, lt-leb _ _ l)
    by_order (no f) =
        let m : a < place = omega arith in
        let n : a ≤ last = omega arith in
        rw (lt-ltb _ _ m, le-leb _ _ n)
all_before first last place a h (inl e) = by_order (dec_lt a first)
  where
    by_order : Dec (a < first) → before first place a ≡ in_stretch first last a
    by_order (yes l) = rw (lt-leb _ _ l)
    by_order (no f) =
        let m : place ≤ a = omega arith in
        let n : last < a = omega arith in
        rw (le-ltb _ _ m, lt-leb _ _ n)

-- ---- what is read ends before the end of the word

module _ (word : List ℕ) (long : length word ≤ nowhere) where
  -- from a place to a later one, or nowhere
  abbrev Moves : ℕ → ℕ → Type 0
  Moves at next = (next ≡ nowhere) ⊎ ((at < next) × (next ≤ length word))

  moves_on : (a b c : ℕ) → Moves a b → Moves b c → Moves a c
  moves_on a b c m (inl e) = inl e
  moves_on a b c (inl e) (inr l) = absurd (omega (arith, e, l, long))
  moves_on a b c (inr l) (inr r) = inr (omega (arith, l, r), r.1)

  by_value : (at n : ℕ) (t : Bool) → at < length word → Moves at (cond t (record { value = n; next = at + 1 }) no_digit).next
  by_value at n true l = inr (omega arith, omega (arith, l))
  by_value at n false l = inl refl

  digit_moves : (at : ℕ) → Moves at (digit_at 16 word at).next
  unfolding digit_at
  digit_moves at = by_length (dec_lt at (length word))
    where
      by_length : Dec (at < length word) → Moves at (digit_at 16 word at).next
      by_length (yes l) = rw (lt-ltb _ _ l) (by_value at _ (ltb (digit_value (get_or word at 0)) 16) l)
      by_length (no f) = let h : length word ≤ at = omega arith in rw (le-ltb _ _ h) (inl refl)

  mark_moves : (mark at : ℕ) → Moves at (mark_at mark word at)
  unfolding mark_at
  mark_moves mark at = by_length (dec_lt at (length word))
    where
      by_mark : (t : Bool) → at < length word → Moves at (cond t (at + 1) nowhere)
      by_mark true l = inr (omega arith, omega (arith, l))
      by_mark false l = inl refl

      by_length : Dec (at < length word) → Moves at (mark_at mark word at)
      by_length (yes l) = rw (lt-ltb _ _ l) (by_mark (eqb (get_or word at 0) mark) l)
      by_length (no f) = let h : length word ≤ at = omega arith in rw (le-ltb _ _ h) (inl refl)

  byte_moves : (at : ℕ) → Moves at (byte_at word at).next
  unfolding byte_at
  byte_moves at = moves_on at _ _ (digit_moves at) (digit_moves _)

  word_moves : (at : ℕ) → Moves at (word_at word at).next
  unfolding word_at
  word_moves at = moves_on at _ _ (byte_moves at) (byte_moves _)

  pub stretch_moves : (at : ℕ) → Moves at (stretch_at word at).next
  unfolding stretch_at
  stretch_moves at = moves_on at _ _ (word_moves at) (moves_on _ _ _ (mark_moves 45 _) (word_moves _))

  -- so does what stands after it
  pub after_moves : (next : ℕ) → (next ≡ length word → ⊥) → Moves next (place_after word next)
  after_moves next f = subst (Moves next) (at_mark word next f) (mark_moves 44 next)

  pub after_nowhere : place_after word nowhere ≡ nowhere
  unfolding place_after mark_at
  after_nowhere = by_length (eqb nowhere (length word))
    where
      by_length : (t : Bool) → cond t nowhere (cond (ltb nowhere (length word)) (cond (eqb (get_or word nowhere 0) 44) (nowhere + 1) nowhere) nowhere) ≡ nowhere
      by_length true = refl
      by_length false = rw (le-ltb nowhere (length word) long)

-- ---- the stretches from a place on, by the code's tests

module _ (word : List ℕ) (at : ℕ) where
  no_stretch : (n : ℕ) → place_after word (stretch_at word at).next ≡ nowhere → stretches_from n word at ≡ (Err (Misspelled.Otherwise at), [])
  unfolding stretches_from
  no_stretch zero e = refl
  no_stretch (suc n) e = rw (eq-eqb _ _ e)

  module _ {s : Stretch} (is : stretch_at word at ≡ s) (n : ℕ) (f : place_after word s.next ≡ nowhere → ⊥) where
    backwards : s.last < s.first → stretches_from (suc n) word at ≡ (Err (Misspelled.Backwards at), [])
    unfolding stretches_from
    backwards l = rw (is, ne_eqb _ _ f, lt-ltb _ _ l)

    module _ (l : s.first ≤ s.last) where
      at_start : holds_start s.first s.last ≡ true → stretches_from (suc n) word at ≡ (Err (Misspelled.AtTheStart at), [])
      unfolding stretches_from
      at_start t = rw (is, ne_eqb _ _ f, le-ltb _ _ l, t)

      module _ (t : holds_start s.first s.last ≡ false) where
        last_one : s.next ≡ length word → stretches_from (suc n) word at ≡ (well, s ∷ [])
        unfolding stretches_from
        last_one e = rw (is, ne_eqb _ _ f, le-ltb _ _ l, t, eq-eqb _ _ e)

        one_more : (s.next ≡ length word → ⊥)
            → let more = stretches_from n word (place_after word s.next) in stretches_from (suc n) word at ≡ (more.0, s ∷ more.1)
        unfolding stretches_from
        one_more g = rw (is, ne_eqb _ _ f, le-ltb _ _ l, t, ne_eqb _ _ g)

-- ---- the loop

-- What was read before a place is in the map; what stands from there on is left, and enough stretches are allowed for it.
pub record Reading (word map₀ : List ℕ) (at : ℕ) (map : List ℕ) : Type 0 where
  pub allowed : ℕ
  pub enough : length word ≤ at + allowed
  pub told : (stretches word).0 ≡ (stretches_from allowed word at).0
  pub added : (a : ℕ) → (in_map map₀ a || in_any (stretches word).1 a) ≡ (in_map map a || in_any (stretches_from allowed word at).1 a)

pub begins : (word map : List ℕ) → Reading word map 0 map
begins word map = record { allowed = length word; enough = omega arith; told = refl; added = λ a. refl }

module _ (word map₀ : List ℕ) (at : ℕ) (map : List ℕ) (r : Reading word map₀ at map) (long : length word ≤ nowhere) where
  -- it ends there, with nothing more
  ends : (x : Spelled) → stretches_from r.allowed word at ≡ (x, []) → Sealing word map₀ x map
  ends x e = record {
    told = sym (r.told ∙ ap (λ (w : Spelled × List Stretch). w.0) e);
    added = λ a. or_none (in_map map a) ∙ sym (r.added a ∙ ap (λ (w : Spelled × List Stretch). in_map map a || in_any w.1 a) e);
  }

  pub ends_missing : None ≡ stretch_found (stretch_at word at) → Sealing word map₀ (Err (Misspelled.Otherwise at)) map
  ends_missing e =
      ends (Err (Misspelled.Otherwise at)) (no_stretch word at r.allowed (ap (place_after word) (no_stretch_there (stretch_at word at) e) ∙ after_nowhere word long))

  module _ {s : Stretch} (found : Some s ≡ stretch_found (stretch_at word at)) where
    is : stretch_at word at ≡ s
    is = got_stretch (stretch_at word at) found

    pub ends_otherwise : None ≡ place_found (place_after word s.next) → Sealing word map₀ (Err (Misspelled.Otherwise at)) map
    ends_otherwise e =
        ends (Err (Misspelled.Otherwise at)) (no_stretch word at r.allowed (ap (λ (t : Stretch). place_after word t.next) is ∙ gone_place (place_after word s.next) e))

    module _ {next : ℕ} (on : Some next ≡ place_found (place_after word s.next)) where
      goes : place_after word s.next ≡ next
      goes = got_place (place_after word s.next) on

      there : place_after word s.next ≡ nowhere → ⊥
      there = somewhere_place (place_after word s.next) on

      moved : (at < s.next) × (s.next ≤ length word)
      moved =
          ⊎_elim (λ e. absurd (there (ap (place_after word) e ∙ after_nowhere word long))) (λ m. m)
          (subst (λ (t : Stretch). Moves word long at t.next) is (stretch_moves word long at))

      one : r.allowed ≡ suc (r.allowed - 1)
      one = omega (arith, moved, r.enough)

      abbrev from : ℕ → Spelled × List Stretch
      from n = stretches_from n word at

      pub ends_backwards : s.last < s.first → Sealing word map₀ (Err (Misspelled.Backwards at)) map
      ends_backwards l = ends (Err (Misspelled.Backwards at)) (ap from one ∙ backwards word at is (r.allowed - 1) there l)

      module _ (l : s.first ≤ s.last) where
        pub ends_at_start : holds_start s.first s.last ≡ true → Sealing word map₀ (Err (Misspelled.AtTheStart at)) map
        ends_at_start t = ends (Err (Misspelled.AtTheStart at)) (ap from one ∙ at_start word at is (r.allowed - 1) there l t)

        module _ (t : holds_start s.first s.last ≡ false) (after : List ℕ)
            (put : (a : ℕ) → in_map after a ≡ (in_map map a || in_stretch s.first s.last a)) where
          pub ends_well : s.next ≡ length word → Sealing word map₀ well after
          ends_well e =
              let so = ap from one ∙ last_one word at is (r.allowed - 1) there l t e in
              record {
                told = sym (r.told ∙ ap (λ (w : Spelled × List Stretch). w.0) so);
                added = λ a.
                    put a
                    ∙ ap (λ (u : Bool). in_map map a || u) (or_none (in_stretch s.first s.last a))
                    ∙ sym (r.added a ∙ ap (λ (w : Spelled × List Stretch). in_map map a || in_any w.1 a) so);
              }

          module _ (g : s.next ≡ length word → ⊥) where
            -- the next stretch stands at a later place of the word
            pub later : (at < next) × (next ≤ length word)
            later =
                let m = ⊎_elim (λ e. absurd (there e)) (λ (m : (s.next < place_after word s.next) × (place_after word s.next ≤ length word)). m) (after_moves word long s.next g) in
                (omega (arith, m, moved, goes), omega (arith, m.1, goes))

            pub goes_on_lem : Reading word map₀ next after
            goes_on_lem =
                let so = ap from one ∙ one_more word at is (r.allowed - 1) there l t g in
                subst (λ (n : ℕ). Reading word map₀ n after) goes (record {
                  allowed = r.allowed - 1;
                  enough = omega (arith, later, goes, moved, r.enough);
                  told = r.told ∙ ap (λ (w : Spelled × List Stretch). w.0) so;
                  added = λ a.
                      r.added a
                      ∙ ap (λ (w : Spelled × List Stretch). in_map map a || in_any w.1 a) so
                      ∙ or_assoc (in_map map a) (in_stretch s.first s.last a) _
                      ∙ ap (λ (u : Bool). u || in_any (stretches_from (r.allowed - 1) word (place_after word s.next)).1 a) (sym (put a));
                })
