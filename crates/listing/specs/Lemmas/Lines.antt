-- Laws of the lines, for the proofs of the code: `end` is the address after the stretch.
use Prim.Native.Nat.{ℕ, zero, suc, ◌+◌, ◌-◌, ◌≤◌, ◌<◌}
use Rattle.std.specs.Prelude.{◌≡◌, get_or, Option, Some, None}
use Rattle.std.proofs.Math.Path.{refl}
use Rattle.std.proofs.Common.{ap, ◌∙◌, add-one, add-zero}
use mathlib.Core.List.{List, [], ◌++◌}
use native.Mathlib.Omega.{arith}
use borrow.Author.Tests.{le-leb, lt-leb}
use Rattle.instruction.specs.declared.AddressingMode.{AddressingMode}
use Rattle.instruction.specs.declared.AddressingMode.TheVariants.{Accumulator, Implied, Immediate, ZeroPage, ZeroPageX, ZeroPageY, Relative, Absolute, AbsoluteX, AbsoluteY, BuggyIndirect, IndexedIndirectX, IndirectIndexedY}
use Rattle.instruction.specs.declared.Entry.{Entry}
use Rattle.instruction.specs.Opcodes.{decoded}
use Rattle.instruction.specs.Modes.{length_of}
use Rattle.manual.specs.Words.{address_of}
use Rattle.opcode_table.specs.Names.{name_of}
use Rattle.listing_operands.specs.Operands.{operand}
use Rattle.text_writing.specs.Numerals.{hex2, spaced}
use Rattle.listing.specs.Lines.{Line, bytes_from, size, words, line_of, unknown, lines, byte_fields, text, texts}

-- A line takes 1 to 3 bytes.
pub size_some : (d : Option Entry) → 0 < size d
size_some None = omega arith
size_some (Some e) = omega arith

pub size_most : (d : Option Entry) → size d ≤ 3
size_most None = omega arith
size_most (Some e) = at_most e.mode
  where
    at_most : (mode : AddressingMode) → length_of mode ≤ 3
    at_most mode = elim mode as (λ k. length_of k ≤ 3) [ Accumulator ↦ omega arith | Implied ↦ omega arith | Immediate ↦ omega arith | ZeroPage ↦ omega arith | ZeroPageX ↦ omega arith | ZeroPageY ↦ omega arith | Relative ↦ omega arith | Absolute ↦ omega arith | AbsoluteX ↦ omega arith | AbsoluteY ↦ omega arith | BuggyIndirect ↦ omega arith | IndexedIndirectX ↦ omega arith | IndirectIndexedY ↦ omega arith ]

module _ (m : List ℕ) where
  same : {a b n k : ℕ} → a ≡ b → n ≡ k → lines m a n 0 ≡ lines m b k 0
  same {a} {b} {n} {k} e f = ap (λ (x : ℕ). lines m x n 0) e ∙ ap (λ (x : ℕ). lines m b x 0) f

  -- bytes that stand in the line before are passed over
  skip : (at n covered : ℕ) → covered ≤ n → lines m at n covered ≡ lines m (at + covered) (n - covered) 0
  unfolding lines
  skip at n zero h = same {a = at} {b = at + 0} {n = n} {k = n - 0} (omega arith) (omega arith)
  skip at zero (suc k) h = absurd (omega arith)
  skip at (suc n) (suc k) h =
      skip (suc at) n k (omega arith) ∙ same {a = suc at + k} {b = at + suc k} {n = n - k} {k = suc n - suc k} (omega arith) (omega arith)

  after_line : (at n end : ℕ) (d : Option Entry) → decoded (get_or m at 0) ≡ d → size d ≤ n → n ≡ end - at
      → texts (lines m at n 0) ≡ text (line_of m at d) ++ texts (lines m (at + size d) (end - (at + size d)) 0)
  unfolding lines
  after_line at zero end d e h f = absurd (omega (arith, size_some d))
  after_line at (suc n) end d e h f =
      let some = size_some d in
      rw (e, le-leb (size d) (suc n) h)
      (ap (λ (ls : List Line). text (line_of m at d) ++ texts ls)
      (skip (suc at) n (size d - 1) (omega arith)
      ∙ same {a = suc at + (size d - 1)} {b = at + size d} {n = n - (size d - 1)} {k = end - (at + size d)} (omega arith) (omega arith)))

  cut_at : (at n : ℕ) (d : Option Entry) → decoded (get_or m at 0) ≡ d → n < size d → lines m at n 0 ≡ unknown m at n
  unfolding lines
  cut_at at zero d e h = refl
  cut_at at (suc n) d e h = rw (e, lt-leb (size d) (suc n) h)

  module _ (at end : ℕ) {bytes : ℕ} (e : bytes ≡ size (decoded (get_or m at 0))) where
    -- The line of what stands at an address, and the lines after it.
    pub next_line_lem : at + bytes ≤ end
        → texts (lines m at (end - at) 0)
        ≡ text (line_of m at (decoded (get_or m at 0))) ++ texts (lines m (at + bytes) (end - (at + bytes)) 0)
    next_line_lem h = rw e (after_line at (end - at) end (decoded (get_or m at 0)) refl (omega arith) refl)

    -- An instruction that would run past the end.
    pub cut_line : end < at + bytes → lines m at (end - at) 0 ≡ unknown m at (end - at)
    cut_line h = cut_at at (end - at) (decoded (get_or m at 0)) refl (omega (arith, size_some (decoded (get_or m at 0))))

  -- one more of the bytes that are no whole instruction, and of those of a line
  unknown_suc : (at n : ℕ) → texts (unknown m at (suc n)) ≡ texts (unknown m at n) ++ text (line_of m (at + n) None)
  unknown_suc at zero = rw (add-zero at)
  unknown_suc at (suc n) = let next : at + suc n ≡ suc at + n = omega arith in rw (next, unknown_suc (suc at) n)

  pub one_unknown : (start at : ℕ) → start ≤ at
      → texts (unknown m start (at + 1 - start)) ≡ texts (unknown m start (at - start)) ++ text (line_of m at None)
  one_unknown start at h =
      let count : at + 1 - start ≡ suc (at - start) = omega arith in
      let here : start + (at - start) ≡ at = omega arith in
      rw (count, unknown_suc start (at - start), here)

  byte_suc : (at n : ℕ)
      → byte_fields (bytes_from m at (suc n)) ≡ byte_fields (bytes_from m at n) ++ spaced (hex2 (get_or m (address_of (at + n)) 0))
  byte_suc at zero = rw (add-zero at)
  byte_suc at (suc n) = let next : at + suc n ≡ suc at + n = omega arith in rw (next, byte_suc (suc at) n)

  pub one_byte : (at n : ℕ)
      → byte_fields (bytes_from m at (n + 1)) ≡ byte_fields (bytes_from m at n) ++ spaced (hex2 (get_or m (address_of (at + n)) 0))
  one_byte at n = rw (add-one n, byte_suc at n)

  -- no line is left at the end
  pub none_line : (at end : ℕ) → end ≤ at → texts (lines m at (end - at) 0) ≡ []
  unfolding lines
  none_line at end h =
      let none : end - at ≡ 0 = omega arith in
      rw none

-- The words of a line whose opcode is defined.
module _ (m : List ℕ) (at : ℕ) {d : Option Entry} {name : List ℕ} (n : name ≡ name_of d) where
  pub words_defined : {e : Entry} → d ≡ Some e → name ++ operand e.mode m at ≡ words m at d
  words_defined h = rw (n, h)
