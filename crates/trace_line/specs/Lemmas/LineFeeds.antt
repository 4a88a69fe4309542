-- A line ends at its LF: what is malformed up to an LF stays so, whatever follows.
use Rattle.std.specs.Prelude.{ℕ, suc, ◌/◌, ◌%◌, ◌<◌, ◌≡◌, refl, true, List, [], ◌∷◌, ◌++◌, drop, get_or}
use Rattle.std.proofs.Common.{ap, sym, ◌∙◌, arith}
use Rattle.registers.specs.declared.Registers.{Registers}
use Rattle.registers.specs.StatusByte.{pushed_byte}
use Rattle.registers.specs.Theorems.RoundTrip.{pushed_byte_lem}
use Rattle.manual.specs.declared.Machine.{Machine}
use Rattle.registers.specs.InRange.{InRange}
use Rattle.text_reading.specs.Numbers.{digit_value}
use Rattle.text_writing.specs.Numerals.{digit, hex2, hex4, decimal, spaced}
use Rattle.trace_fields.specs.Fields.{register_fields, machine_fields}
use Rattle.trace_line.specs.Lines.{Spellable, line_text}
use Rattle.trace_line.specs.Lemmas.Standing.{digit_value_lem}
use Rattle.trace_line.specs.Lemmas.Counting.{Decimals, decimals_below}

-- no LF stands in the text
abbrev Plain : List ℕ → Type 0
Plain [] = Unit
Plain (c ∷ t) = (c ≡ 10 → ⊥) × Plain t

plain_then : (t u : List ℕ) → Plain t → Plain u → Plain (t ++ u)
plain_then [] u p q = q
plain_then (c ∷ t) u p q = (p.0, plain_then t u p.1 q)

plain_digit : (d : ℕ) → d < 16 → digit d ≡ 10 → ⊥
unfolding digit_value
plain_digit d h e = let none : 16 ≡ d = ap digit_value (sym e) ∙ digit_value_lem d h in omega arith

plain_decimals : (t : List ℕ) → Decimals t → Plain t
plain_decimals [] p = tt
plain_decimals (c ∷ t) p = ((λ e. plain_digit p.0.0 (omega (arith, p.0.1)) (sym p.0.2 ∙ e)), plain_decimals t p.1)

-- a space and a byte
abbrev field : ℕ → List ℕ
field b = spaced (hex2 b)

plain_field : (b : ℕ) → b < 256 → Plain (field b)
plain_field b h = ((λ e. omega arith), (plain_digit (b / 16) (omega arith), (plain_digit (b % 16) (omega arith), tt)))

plain_registers : (r : Registers) → InRange r → Plain (register_fields r)
plain_registers r h =
    let a = field r.accumulator in
    let x = field r.x in
    let y = field r.y in
    let stack = field r.stack.0 in
    plain_then (a ++ x ++ y ++ stack) (field (pushed_byte r.status))
    (plain_then (a ++ x ++ y) stack
    (plain_then (a ++ x) y
    (plain_then a x (plain_field r.accumulator h.accumulator) (plain_field r.x h.x))
    (plain_field r.y h.y))
    (plain_field r.stack.0 h.stack))
    (plain_field (pushed_byte r.status) (pushed_byte_lem true r.status))

plain_line : (s : Machine) → Spellable s → Plain (machine_fields s)
unfolding machine_fields
plain_line s h =
    let w = s.registers.counter in
    let counter = plain_then (field (w / 256)) (hex2 (w % 256)) (plain_field (w / 256) (omega (arith, h.registers.counter))) (plain_field (w % 256) (omega arith)).1 in
    let cycles = plain_decimals (decimal s.cycles) (decimals_below (suc s.cycles) s.cycles (omega arith)) in
    plain_then (decimal s.cycles ++ spaced (hex4 w)) (register_fields s.registers)
    (plain_then (decimal s.cycles) (spaced (hex4 w)) cycles counter)
    (plain_registers s.registers h.registers)

-- a text up to an LF, of which a part without one is a line: that line stands in it
head_same : (x y : ℕ) (s t : List ℕ) → x ∷ s ≡ y ∷ t → (x ≡ y) × (s ≡ t)
head_same x y s t e = (ap (λ (l : List ℕ). get_or l 0 0) e, ap (λ (l : List ℕ). drop 1 l) e)

cut : (b f u v : List ℕ) → Plain b → (f ++ 10 ∷ []) ++ u ≡ (b ++ 10 ∷ []) ++ v → (d : List ℕ) × (f ++ 10 ∷ [] ≡ (b ++ 10 ∷ []) ++ d)
cut [] [] u v p e = ([], refl)
cut [] (x ∷ f) u v p e = (f ++ 10 ∷ [], ap (λ (c : ℕ). c ∷ (f ++ 10 ∷ [])) (head_same x 10 _ _ e).0)
cut (y ∷ b) [] u v p e = absurd (p.0 (sym (head_same 10 y _ _ e).0))
cut (y ∷ b) (x ∷ f) u v p e =
    let same = head_same x y _ _ e in
    let further = cut b f u v p.1 same.1 in
    (further.0, ap (λ (c : ℕ). c ∷ (f ++ 10 ∷ [])) same.0 ∙ ap (λ (l : List ℕ). y ∷ l) further.1)

pub stays_malformed : (s front u : List ℕ) → s ≡ front ++ 10 ∷ [] → ((t : Machine) (v : List ℕ) → Spellable t → s ≡ line_text t ++ v → ⊥)
    → (t : Machine) (v : List ℕ) → Spellable t → s ++ u ≡ line_text t ++ v → ⊥
stays_malformed s front u e never t v h g =
    let found = cut (machine_fields t) front u v (plain_line t h) (ap (λ (l : List ℕ). l ++ u) (sym e) ∙ g) in
    never t found.0 h (e ∙ found.1)
