-- Laws of Turns.antt.
use Rattle.std.specs.Prelude.{◌≡◌, ℕ, ◌+◌, ◌-◌, ◌≤◌, Bool, true, false, ◌⊎◌, List, [], ◌++◌, length, take, drop, Option, None}
use Rattle.std.proofs.Common.{ap, sym, subst, ◌∙◌, inl, inr, arith, length-append, length-drop, length-take-le, take-take, take-add, drop_at}
use Rattle.std.proofs.lemmas.List.Edits.{sets, sets-eq}
use Rattle.std.proofs.Math.Seq.{take-append_seam}
use Rattle.text_reading.specs.Numbers.{nowhere}
use Rattle.manual.specs.declared.Machine.{Machine}
use Rattle.trace_checking.specs.Checking.{Part, checked_part}
use Rattle.trace_checking.specs.Inner.Cutting.{whole_end}
use Rattle.program_check.specs.declared.log.Found.{Found}
use Rattle.program_check.specs.declared.log.Turn.{Turn}
use Rattle.program_check.specs.Inner.Ahead.{Ahead, After, Settled, part_end, another}
use Rattle.program_check.specs.Lemmas.Ahead.{turn, begun}
use Rattle.program_check.specs.Inner.Turns.{part_in, added, Goes, More, Ends}

-- ---- parts of a buffer

split : (a z : ℕ) (b : List ℕ) → a ≤ z → take a b ++ take (z - a) (drop a b) ≡ take z b
split a z b h = sym (take-add a (z - a) b) ∙ (let whole : a + (z - a) ≡ z = omega arith in ap (λ (i : ℕ). take i b) whole)

after : (a z : ℕ) (b : List ℕ) → a ≤ z → z ≤ length b → drop a (take z b) ≡ take (z - a) (drop a b)
after a z b h l = ap (λ (v : List ℕ). drop a v) (sym (split a z b h)) ∙ drop_at (take a b) (take (z - a) (drop a b)) a (length-take-le a b (omega arith))

moved : (v b : List ℕ) → length v ≤ length b → take (length v) (sets b 0 v) ≡ v
moved v b h = ap (λ (l : List ℕ). take (length v) l) (sets-eq v b 0 (omega arith)) ∙ take-append_seam v (drop (0 + length v) b)

module _ (b : List ℕ) (kept size : ℕ) (ended : Bool) (f : Found) (m : List ℕ) (r : Turn) {p : Part} {m' b' : List ℕ} {whole end : ℕ}
    (inside : kept ≤ size) (fits : size ≤ length b) (cut : whole ≡ whole_end (take size b)) (place : end ≡ part_end ended size whole) (within : end ≤ size)
    (shown : (p, m') ≡ checked_part f.last m (take end b)) (few : p.lines ≤ length (take end b))
    (front : b' ≡ sets b 0 (take (size - end) (drop end b))) (left : r.kept ≡ size - end)
    (more : r.more ≡ another ended size whole p.answer) (told : f.lines + p.lines ≤ nowhere → part_in r.found ≡ added f.lines p) where
  abbrev k : List ℕ
  k = take kept b

  abbrev n : List ℕ
  n = take (size - kept) (drop kept b)

  abbrev v : List ℕ
  v = take size b

  abbrev rest : List ℕ
  rest = take (size - end) (drop end b)

  rest_length : length rest ≡ size - end
  rest_length = length-take-le (size - end) (drop end b) (omega (arith, length-drop end b))

  kept_rest : rest ≡ take r.kept b'
  kept_rest =
      sym (moved rest b (omega (arith, rest_length)))
      ∙ ap (λ (i : ℕ). take i (sets b 0 rest)) (rest_length ∙ sym left)
      ∙ ap (λ (l : List ℕ). take r.kept l) (sym front)

  module _ (image t : List ℕ) (a : Ahead image t f.lines f.last m k) (short : length (t ++ n) ≤ nowhere) where
    abbrev Known : List ℕ → ℕ → ℕ → ℕ → Type 0
    Known l z w e =
        (p, m') ≡ checked_part f.last m (take e l) → p.lines ≤ length (take e l)
        → After (another ended z w p.answer) ended image (t ++ n) (added f.lines p) m' (drop e l)

    all : k ++ n ≡ v
    all = split kept size b inside

    known : Known v size whole end
    known =
        subst (λ (e : ℕ). Known v size whole e) (sym place)
        (subst (λ (w : ℕ). Known v size w (part_end ended size w)) (sym cut)
        (subst (λ (z : ℕ). Known v z (whole_end v) (part_end ended z (whole_end v))) (length-take-le size b fits)
        (subst (λ (l : List ℕ). Known l (length l) (whole_end l) (part_end ended (length l) (whole_end l))) all
        (turn image t f.lines f.last m k a n ended short))))

    same : take end v ≡ take end b
    same = take-take end size b within

    few_lines : f.lines + p.lines ≤ nowhere
    few_lines =
        omega
        (arith, few, a.few, short, within, length-take-le end b (omega arith), length-append t n, length-take-le kept b (omega arith), length-take-le (size - kept) (drop kept b) (omega (arith, length-drop kept b)))

    goes : After r.more ended image (t ++ n) (part_in r.found) m' (take r.kept b')
    goes =
        subst (λ (l : List ℕ). After r.more ended image (t ++ n) (part_in r.found) m' l) (after end size b within fits ∙ kept_rest)
        (subst (λ (q : Part). After r.more ended image (t ++ n) q m' (drop end v)) (sym (told few_lines))
        (subst (λ (o : Bool). After o ended image (t ++ n) (added f.lines p) m' (drop end v)) (sym more)
        (known (shown ∙ ap (λ (l : List ℕ). checked_part f.last m l) (sym same)) (rw same few))))

  pub turned : Goes f.lines f.last k m n ended r (take r.kept b') m'
  turned image t a short = goes image t a short

-- ---- the loop

pub nothing : (size kept : ℕ) (b : List ℕ) → size ≡ kept → take (size - kept) (drop kept b) ≡ []
nothing size kept b e = let none : size - kept ≡ 0 = omega arith in ap (λ (i : ℕ). take i (drop kept b)) none

-- some text was read so far, and k of it is kept
abbrev pub Sofar : List ℕ → ℕ → Option Machine → List ℕ → List ℕ → Type 0
Sofar image lines last m k = (t : List ℕ) × (length t ≤ nowhere → Ahead image t lines last m k)

pub none_yet : (image : List ℕ) → Sofar image 0 None image []
none_yet image = ([], λ h. begun image)

module _ {image : List ℕ} {lines : ℕ} {last : Option Machine} {m k : List ℕ} (r : Turn) (k' m' : List ℕ) (s : Sofar image lines last m k) (g : More lines last k m r k' m') where
  abbrev t' : List ℕ
  t' = s.0 ++ g.0

  after_it : length t' ≤ nowhere → After r.more g.1 image t' (part_in r.found) m' k'
  after_it h = g.2 image s.0 (s.1 (omega (arith, h, length-append s.0 g.0))) h

  pub again : r.more ≡ true → Sofar image r.found.lines r.found.last m' k'
  again e = (t', λ h. subst (λ (o : Bool). After o g.1 image t' (part_in r.found) m' k') e (after_it h))

  by_end : (ended : Bool) → After false ended image t' (part_in r.found) m' k' → Settled image t' (part_in r.found, m') ⊎ (checked_part None image t' ≡ (part_in r.found, m'))
  by_end true x = inr x
  by_end false x = inl x

  pub over : r.more ≡ false → Ends image r.found m'
  over e = (t', λ h. by_end g.1 (subst (λ (o : Bool). After o g.1 image t' (part_in r.found) m' k') e (after_it h)))
