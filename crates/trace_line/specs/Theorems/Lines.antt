-- A text line and its state, there and back: what `machine_fields` wrote is read, what was read was written so, and all else is malformed.
use Rattle.std.specs.Prelude.{ℕ, ◌+◌, ◌<◌, ◌≤◌, ◌^◌, ◌≡◌, ◌↔◌, Bool, true, false, cond, eqb, length, drop, Option, Some, None}
use Rattle.std.proofs.Math.Path.{refl, ap, subst}
use Rattle.std.proofs.Common.{sym, ◌∙◌, arith, length-append, drop_at, eq-eqb, ne_eqb, eqb-true}
use mathlib.Core.List.{List, [], ◌∷◌, ◌++◌, append_assoc}
use Rattle.std.proofs.lemmas.Bool.{eqb-false}
use Rattle.registers.specs.StatusByte.{pushed_byte, pulled_status}
use Rattle.registers.specs.Theorems.RoundTrip.{pulled_pushed, pushed_byte_lem}
use Rattle.manual.specs.declared.Machine.{Machine}
use Rattle.text_reading.specs.declared.Reading.{Reading}
use Rattle.text_reading.specs.Numbers.{nowhere}
use Rattle.laws.specs.Characters.{characters}
use Rattle.text_writing.specs.Numerals.{hex2, hex4, decimal, spaced}
use Rattle.text_writing.specs.Lemmas.Texts.{decimal_length}
use Rattle.trace_fields.specs.Fields.{register_fields, machine_fields}
use Rattle.trace_line.specs.declared.Fields.{Fields}
use Rattle.trace_line.specs.declared.Spelled.{Spelled}
use Rattle.trace_line.specs.Fields.{fields_of, state_of, spelled_by, line_of}
use Rattle.trace_line.specs.Lines.{Spellable, line_text, longest_line}
use Rattle.trace_line.specs.Lemmas.Standing.{Stands, stands_first, stands_second, stands_then, mark_there, mark_read, somewhere, WordRead, word_there, word_read, FieldRead, field_there, field_read}
use Rattle.trace_line.specs.Lemmas.Counting.{NumberRead, cycles_there, cycles_read}

-- the fields of a line after the cycles, with LF
abbrev later_fields : Fields → List ℕ
later_fields f =
    32 ∷ hex4 f.counter
    ++ 32 ∷ hex2 f.accumulator
    ++ 32 ∷ hex2 f.x
    ++ 32 ∷ hex2 f.y
    ++ 32 ∷ hex2 f.stack
    ++ 32 ∷ hex2 f.status
    ++ 10 ∷ []

abbrev fields_text : Fields → List ℕ
fields_text f = decimal f.cycles ++ later_fields f

-- fields that fit
record Small (f : Fields) : Type 0 where
  cycles : f.cycles < 2 ^ 64
  counter : f.counter < 65536
  accumulator : f.accumulator < 256
  x : f.x < 256
  y : f.y < 256
  stack : f.stack < 256
  status : f.status < 256

-- ---- fields

-- the laws of the readers, one after the other
fields_there : (s : List ℕ) (f : Fields) → Small f → Stands s 0 (fields_text f) f.next → fields_of s ≡ f
unfolding fields_of
fields_there s f small p =
    let first = stands_first s 0 (decimal f.cycles) (later_fields f) f.next p in
    let p₁ = stands_second s 0 (decimal f.cycles) (later_fields f) f.next p in
    let space = stands_first s _ (32 ∷ []) _ f.next p₁ in
    let p₂ = stands_second s _ (32 ∷ []) _ f.next p₁ in
    let counter = stands_first s _ (hex4 f.counter) _ f.next p₂ in
    let p₃ = stands_second s _ (hex4 f.counter) _ f.next p₂ in
    let accumulator = stands_first s _ (32 ∷ hex2 f.accumulator) _ f.next p₃ in
    let p₄ = stands_second s _ (32 ∷ hex2 f.accumulator) _ f.next p₃ in
    let x = stands_first s _ (32 ∷ hex2 f.x) _ f.next p₄ in
    let p₅ = stands_second s _ (32 ∷ hex2 f.x) _ f.next p₄ in
    let y = stands_first s _ (32 ∷ hex2 f.y) _ f.next p₅ in
    let p₆ = stands_second s _ (32 ∷ hex2 f.y) _ f.next p₅ in
    let stack = stands_first s _ (32 ∷ hex2 f.stack) _ f.next p₆ in
    let p₇ = stands_second s _ (32 ∷ hex2 f.stack) _ f.next p₆ in
    let status = stands_first s _ (32 ∷ hex2 f.status) _ f.next p₇ in
    let end = stands_second s _ (32 ∷ hex2 f.status) _ f.next p₇ in
    rw (
      cycles_there s f.cycles _ _ small.cycles first space,
      mark_there s 32 _ _ space,
      word_there s _ f.counter _ small.counter counter,
      field_there s _ f.accumulator _ small.accumulator accumulator,
      field_there s _ f.x _ small.x x,
      field_there s _ f.y _ small.y y,
      field_there s _ f.stack _ small.stack stack,
      field_there s _ f.status _ small.status status,
      mark_there s 10 _ _ end,
    )

-- the fields that were read stood there
record FieldsRead (s : List ℕ) (f : Fields) : Type 0 where
  small : Small f
  stands : Stands s 0 (fields_text f) f.next

module _ (s : List ℕ) (fits : length s ≤ nowhere) where
  fields_by : (cycles : Reading ℕ) (counter : Reading ℕ) (a x y stack status : Reading ℕ) (space end : ℕ)
      → ((cycles.next ≡ nowhere → ⊥) → NumberRead s cycles)
      → ((space ≡ nowhere → ⊥) → Stands s cycles.next (32 ∷ []) space)
      → ((counter.next ≡ nowhere → ⊥) → WordRead s space counter)
      → ((a.next ≡ nowhere → ⊥) → FieldRead s counter.next a)
      → ((x.next ≡ nowhere → ⊥) → FieldRead s a.next x)
      → ((y.next ≡ nowhere → ⊥) → FieldRead s x.next y)
      → ((stack.next ≡ nowhere → ⊥) → FieldRead s y.next stack)
      → ((status.next ≡ nowhere → ⊥) → FieldRead s stack.next status)
      → Stands s status.next (10 ∷ []) end
      → FieldsRead s (record {
        cycles = cycles.value;
        counter = counter.value;
        accumulator = a.value;
        x = x.value;
        y = y.value;
        stack = stack.value;
        status = status.value;
        next = end;
      })
  fields_by cycles counter a x y stack status space end r₁ r₂ r₃ r₄ r₅ r₆ r₇ r₈ p =
      let q₈ = r₈ (somewhere s status.next _ _ _ fits p) in
      let q₇ = r₇ (somewhere s stack.next _ _ _ fits q₈.stands) in
      let q₆ = r₆ (somewhere s y.next _ _ _ fits q₇.stands) in
      let q₅ = r₅ (somewhere s x.next _ _ _ fits q₆.stands) in
      let q₄ = r₄ (somewhere s a.next _ _ _ fits q₅.stands) in
      let q₃ = r₃ (somewhere s counter.next _ _ _ fits q₄.stands) in
      let q₂ = r₂ (somewhere s space _ _ _ fits q₃.stands) in
      let q₁ = r₁ (somewhere s cycles.next _ _ _ fits q₂) in
      record {
        small =
            record {
              cycles = q₁.small;
              counter = q₃.small;
              accumulator = q₄.small;
              x = q₅.small;
              y = q₆.small;
              stack = q₇.small;
              status = q₈.small;
            };
        stands =
            stands_then s q₁.stands
            (stands_then s q₂
            (stands_then s q₃.stands
            (stands_then s q₄.stands
            (stands_then s q₅.stands
            (stands_then s q₆.stands
            (stands_then s q₇.stands
            (stands_then s q₈.stands p)))))));
      }

  fields_read : ((fields_of s).next ≡ nowhere → ⊥) → FieldsRead s (fields_of s)
  unfolding fields_of
  fields_read h =
      fields_by _ _ _ _ _ _ _ _ _
      (cycles_read s fits)
      (mark_read s 32 _)
      (word_read s fits _)
      (field_read s fits _)
      (field_read s fits _)
      (field_read s fits _)
      (field_read s fits _)
      (field_read s fits _)
      (mark_read s 10 _ h)

-- ---- lines

-- the fields of a machine
fields_for : Machine → ℕ → Fields
fields_for s next = record {
  cycles = s.cycles;
  counter = s.registers.counter;
  accumulator = s.registers.accumulator;
  x = s.registers.x;
  y = s.registers.y;
  stack = s.registers.stack.0;
  status = pushed_byte s.registers.status;
  next = next;
}

line_fields : (s : Machine) (next : ℕ) → line_text s ≡ fields_text (fields_for s next)
unfolding machine_fields fields_for
line_fields s next =
    append_assoc (decimal s.cycles ++ spaced (hex4 s.registers.counter)) (register_fields s.registers) (characters "\n")
    ∙ append_assoc (decimal s.cycles) (spaced (hex4 s.registers.counter)) (register_fields s.registers ++ characters "\n")

pub line_length : (s : Machine) → length (line_text s) ≡ length (decimal s.cycles) + 21
unfolding fields_for
line_length s = ap length (line_fields s 0) ∙ length-append (decimal s.cycles) (later_fields (fields_for s 0))

pub line_short : (s : Machine) → s.cycles < 2 ^ 64 → length (line_text s) ≤ longest_line
line_short s h = omega (arith, line_length s, decimal_length 19 s.cycles (omega arith))

-- fields with the status of PHP are those of their machine
again : (f : Fields) → pushed_byte (pulled_status f.status) ≡ f.status → fields_for (state_of f) f.next ≡ f
unfolding fields_for state_of
again f e = rw e

machine_again : (s : Machine) (next : ℕ) → s.nmi ≡ true → state_of (fields_for s next) ≡ s
unfolding fields_for state_of
machine_again s next high = rw (pulled_pushed true s.registers.status, ← high)

spelled_there : (s : Machine) (next : ℕ) → s.nmi ≡ true → (next ≡ nowhere → ⊥) → spelled_by (fields_for s next) ≡ Some (record { machine = s; next = next })
unfolding spelled_by fields_for
spelled_there s next high h =
    rw (ne_eqb next nowhere h, pulled_pushed true s.registers.status, eq-eqb (pushed_byte s.registers.status) (pushed_byte s.registers.status) refl)
    (ap (λ (t : Machine). Some (record { machine = t; next = next })) (machine_again s next high))

small_for : (s : Machine) (next : ℕ) → Spellable s → Small (fields_for s next)
unfolding fields_for
small_for s next h = record {
  cycles = h.cycles;
  counter = h.registers.counter;
  accumulator = h.registers.accumulator;
  x = h.registers.x;
  y = h.registers.y;
  stack = h.registers.stack;
  status = pushed_byte_lem true s.registers.status;
}

-- What was written is read: the state, and the place after its line, whatever follows.
pub written_read : (s : Machine) (u : List ℕ) → Spellable s → line_of (line_text s ++ u) ≡ Some (record { machine = s; next = length (line_text s) })
unfolding line_of fields_for
written_read s u h =
    let few = line_short s h.cycles in
    let stands : Stands (line_text s ++ u) 0 (line_text s) (length (line_text s)) = record {
      ends = omega arith;
      inside = omega (arith, length-append (line_text s) u);
      there = ap (λ (l : List ℕ). line_text s ++ l) (sym (drop_at (line_text s) u (length (line_text s)) refl));
    } in
    ap spelled_by
    (fields_there (line_text s ++ u) (fields_for s (length (line_text s))) (small_for s (length (line_text s)) h)
    (subst (λ (t : List ℕ). Stands (line_text s ++ u) 0 t (length (line_text s))) (line_fields s (length (line_text s))) stands))
    ∙ spelled_there s (length (line_text s)) h.nmi (λ z. omega (arith, few))

-- What was read was written.
pub record Written (s : List ℕ) (q : Spelled) : Type 0 where
  pub spellable : Spellable q.machine
  pub text : s ≡ line_text q.machine ++ drop q.next s
  pub size : q.next ≡ length (line_text q.machine)
  pub inside : q.next ≤ length s

spellable_of : (f : Fields) → Small f → Spellable (state_of f)
unfolding state_of
spellable_of f h = record {
  registers = record { accumulator = h.accumulator; x = h.x; y = h.y; stack = h.stack; counter = h.counter };
  cycles = h.cycles;
  nmi = refl;
}

-- the line of a state that was read, and no other
same_state : (f : Fields) (q : Spelled) (t u : Bool)
    → eqb f.next nowhere ≡ t → eqb (pushed_byte (pulled_status f.status)) f.status ≡ u
    → cond t None (cond u (Some (record { machine = state_of f; next = f.next })) None) ≡ Some q
    → (f.next ≡ nowhere → ⊥) × (pushed_byte (pulled_status f.status) ≡ f.status) × (q ≡ record { machine = state_of f; next = f.next })
same_state f q true u e g h = let z : ◌≡◌ {A = ℕ} 0 1 = cc in absurd (omega arith)
same_state f q false false e g h = let z : ◌≡◌ {A = ℕ} 0 1 = cc in absurd (omega arith)
same_state f q false true e g h = (eqb-false f.next nowhere e, eqb-true (pushed_byte (pulled_status f.status)) f.status g, cc)

module _ (s : List ℕ) (fits : length s ≤ nowhere) where
  written_by : (f : Fields) → ((f.next ≡ nowhere → ⊥) → FieldsRead s f) → (q : Spelled) → spelled_by f ≡ Some q → Written s q
  unfolding spelled_by
  written_by f reads q e =
      let same = same_state f q (eqb f.next nowhere) (eqb (pushed_byte (pulled_status f.status)) f.status) refl refl e in
      let read = reads same.0 in
      let text : line_text (state_of f) ≡ fields_text f = line_fields (state_of f) f.next ∙ ap fields_text (again f same.1) in
      let stands = subst (λ (t : List ℕ). Stands s 0 t f.next) (sym text) read.stands in
      subst (λ (p : Spelled). Written s p) (sym same.2)
      (record {
        spellable = spellable_of f read.small;
        text = stands.there;
        size = omega (arith, stands.ends);
        inside = stands.inside;
      })

  pub read_written : (q : Spelled) → line_of s ≡ Some q → Written s q
  unfolding line_of
  read_written q e = written_by (fields_of s) (fields_read s fits) q e

  -- Malformed is exactly what no state is written as.
  not_state : (q : Spelled) → Some q ≡ None → ⊥
  not_state q e = let z : ◌≡◌ {A = ℕ} 0 1 = cc in omega arith

  read_none : (r : Option Spelled) → line_of s ≡ r → ((t : Machine) (u : List ℕ) → Spellable t → s ≡ line_text t ++ u → ⊥) → r ≡ None
  read_none None e h = refl
  read_none (Some q) e h = let w = read_written q e in absurd (h q.machine (drop q.next s) w.spellable w.text)

  pub malformed : (line_of s ≡ None) ↔ ((t : Machine) (u : List ℕ) → Spellable t → s ≡ line_text t ++ u → ⊥)
  malformed = (
    (λ e t u h g. not_state _ (sym (ap line_of g ∙ written_read t u h) ∙ e)),
    (λ h. read_none (line_of s) refl h),
  )

state_same : (p q : Spelled) → Some p ≡ Some q → p ≡ q
state_same p q e = cc

-- A line spells one state only.
pub one_state : (s t : Machine) (u v : List ℕ) → Spellable s → Spellable t → line_text s ++ u ≡ line_text t ++ v → (s ≡ t) × (u ≡ v)
one_state s t u v h k e =
    let same = state_same _ _ (sym (written_read s u h) ∙ ap line_of e ∙ written_read t v k) in
    let machines : s ≡ t = ap (λ (q : Spelled). q.machine) same in (
      machines,
      sym (drop_at (line_text s) u (length (line_text s)) refl)
          ∙ rw (e, machines) (drop_at (line_text t) v (length (line_text t)) refl),
    )
