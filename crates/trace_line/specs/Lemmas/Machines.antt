-- Laws for the proofs of the code.
use Rattle.std.specs.Prelude.{ℕ, ◌-◌, ◌≤◌, ◌≡◌, List, length, drop, Option, Some, None}
use Rattle.std.proofs.Math.Path.{ap}
use Rattle.std.proofs.Common.{sym, ◌∙◌, arith, length-drop, eq-eqb, ne_eqb, eqb-true}
use Rattle.std.proofs.lemmas.Bool.{eqb-false}
use Rattle.registers.specs.StatusByte.{pushed_byte, pulled_status}
use Rattle.manual.specs.declared.Machine.{Machine}
use Rattle.text_reading.specs.Numbers.{nowhere}
use Rattle.text_reading.specs.Lemmas.Found.{none_by, some_by, lost_byte, lost_mark}
use Rattle.trace_line.specs.declared.Fields.{Fields}
use Rattle.trace_line.specs.declared.Spelled.{Spelled}
use Rattle.trace_line.specs.Fields.{field_at, fields_of, state_of, spelled_by, line_of}
use Rattle.trace_line.specs.Inner.Found.{fields_found}
use Rattle.trace_line.specs.Theorems.Lines.{read_written}

-- fields that were read, and a byte after a space
module _ (f : Fields) where
  pub none_fields : f.next ≡ nowhere → None ≡ fields_found f
  none_fields h = rw (eq-eqb f.next nowhere h)

  pub some_fields : (f.next ≡ nowhere → ⊥) → Some f ≡ fields_found f
  some_fields h = rw (ne_eqb f.next nowhere h)

  pub gone_fields : None ≡ fields_found f → f.next ≡ nowhere
  gone_fields e = eqb-true f.next nowhere (none_by f _ (sym e))

  pub got_fields : {g : Fields} → Some g ≡ fields_found f → f ≡ g
  got_fields {g} e = (some_by f g _ (sym e)).1

  pub real_fields : {g : Fields} → Some g ≡ fields_found f → f.next ≡ nowhere → ⊥
  real_fields {g} e = eqb-false f.next nowhere (some_by f g _ (sym e)).0

  pub no_line : f.next ≡ nowhere → None ≡ spelled_by f
  unfolding spelled_by
  no_line h = rw (eq-eqb f.next nowhere h)

pub lost_field : (s : List ℕ) → length s ≤ nowhere → (at : ℕ) → at ≡ nowhere → (field_at s at).next ≡ nowhere
unfolding field_at
lost_field s fits at lost = lost_byte s fits _ (lost_mark s fits 32 at lost)

-- the machine of the fields, and the byte that its status is pushed as
module _ (f : Fields) (h : f.next ≡ nowhere → ⊥) {s : Machine} {byte : ℕ} (e : s ≡ state_of f) (p : byte ≡ pushed_byte s.registers.status) where
  pushed_byte_of : byte ≡ pushed_byte (pulled_status f.status)
  unfolding state_of
  pushed_byte_of = p ∙ ap (λ (t : Machine). pushed_byte t.registers.status) e

  pub other_status : (byte ≡ f.status → ⊥) → None ≡ spelled_by f
  unfolding spelled_by
  other_status g = rw (ne_eqb f.next nowhere h, ← pushed_byte_of, ne_eqb byte f.status g)

  pub whole_line : byte ≡ f.status → Some (record { machine = s; next = f.next }) ≡ spelled_by f
  unfolding spelled_by
  whole_line g = rw (ne_eqb f.next nowhere h, ← pushed_byte_of, eq-eqb byte f.status g, e)

-- the line of the fields that were read
module _ (t : List ℕ) where
  pub no_fields : None ≡ fields_found (fields_of t) → None ≡ line_of t
  unfolding line_of
  no_fields e = no_line _ (gone_fields _ e)

  pub line_read : {f : Fields} {l : Option Spelled} → Some f ≡ fields_found (fields_of t) → l ≡ spelled_by f → l ≡ line_of t
  unfolding line_of
  line_read e g = g ∙ ap spelled_by (sym (got_fields _ e))

-- a line ends inside its text
pub next_inside : (text : List ℕ) (at : ℕ) (q : Spelled) → length text ≤ nowhere → line_of (drop at text) ≡ Some q → q.next ≤ length text - at
next_inside text at q fits e =
    omega (arith, (read_written (drop at text) (omega (arith, length-drop at text)) q e).inside, length-drop at text)
