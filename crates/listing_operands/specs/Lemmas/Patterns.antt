-- Laws of Patterns.antt.
use Rattle.std.specs.Prelude.{ℕ, ◌+◌, ◌<◌, ◌≡◌, List, [], ◌∷◌, ◌++◌, length, take, get_or}
use Rattle.std.proofs.Math.Path.{refl}
use Rattle.std.proofs.Common.{append_assoc, append-nil, add-one, take-suc}
use Rattle.instruction.specs.declared.AddressingMode.{AddressingMode}
use Rattle.instruction.specs.declared.AddressingMode.TheVariants.{Accumulator, Implied, Immediate, ZeroPage, ZeroPageX, ZeroPageY, Relative, Absolute, AbsoluteX, AbsoluteY, BuggyIndirect, IndexedIndirectX, IndirectIndexedY}
use Rattle.manual.specs.Words.{address_of, joined}
use Rattle.manual.specs.Branching.{branch_target}
use Rattle.text_writing.specs.Numerals.{hex2, hex4}
use Rattle.listing_operands.specs.Operands.{byte_after, word_after, leads_to, written, operand}
use Rattle.listing_operands.specs.Inner.Patterns.{pattern_of, stands_for, filled}

module _ (byte word target : ℕ) where
  join : (s t : List ℕ) → filled byte word target (s ++ t) ≡ filled byte word target s ++ filled byte word target t
  join [] t = refl
  join (c ∷ s) t = rw (join s t, append_assoc)

  -- One more character.
  pub filled_more : (pattern : List ℕ) (i : ℕ) → i < length pattern
      → filled byte word target (take (i + 1) pattern) ≡ filled byte word target (take i pattern) ++ stands_for byte word target (get_or pattern i 0)
  filled_more pattern i h = rw (add-one i, take-suc pattern i 0 h, join (take i pattern) (get_or pattern i 0 ∷ []), append-nil)

  by_mode : (mode : AddressingMode) → filled byte word target (pattern_of mode) ≡ written mode (hex2 byte) (hex4 word) (hex4 target)
  unfolding pattern_of written
  by_mode mode = elim mode as (λ k. filled byte word target (pattern_of k) ≡ written k (hex2 byte) (hex4 word) (hex4 target)) [ Accumulator ↦ refl | Implied ↦ refl | Immediate ↦ refl | ZeroPage ↦ refl | ZeroPageX ↦ refl | ZeroPageY ↦ refl | Relative ↦ refl | Absolute ↦ refl | AbsoluteX ↦ refl | AbsoluteY ↦ refl | BuggyIndirect ↦ refl | IndexedIndirectX ↦ refl | IndirectIndexedY ↦ refl ]

-- The pattern of a mode with its numbers, as the code finds them, is the operand.
pub operand_filled : (mode : AddressingMode) (m : List ℕ) (at : ℕ) {p b q high w t : ℕ} {pattern : List ℕ}
    → p ≡ address_of (at + 1)
    → b ≡ get_or m p 0
    → q ≡ address_of (at + 2)
    → high ≡ get_or m q 0
    → w ≡ joined high b
    → t ≡ branch_target q b
    → pattern ≡ pattern_of mode
    → filled b w t pattern ≡ operand mode m at
unfolding operand
operand_filled mode m at p b q high w t pattern = rw (pattern, t, w, high, q, b, p) (by_mode (byte_after m at) (word_after m at) (leads_to m at) mode)
