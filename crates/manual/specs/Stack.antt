-- The stack (manual, chapter 8), page 01: a push stores and then lowers S, a pull raises S and then reads, both modulo 256.
use Rattle.std.specs.Prelude.{ℕ}
use Rattle.registers.specs.declared.Registers.{Registers}
use Rattle.manual.specs.Micro.{Micro, done, ◌>>=◌, ◌>>◌, fetch, store}
use Rattle.manual.specs.Words.{low_byte, page, joined}
use Rattle.registers.specs.State.{set_s, up, down}

unfoldable pub push : ℕ → Registers → Micro Registers
push b r = do
  store (joined 1 r.stack.0) b
  done (set_s (down r.stack.0) r)

unfoldable pub pull : Registers → Micro (ℕ × Registers)
pull r = do
  b ← fetch (joined 1 (up r.stack.0))
  done (b, set_s (up r.stack.0) r)

-- an address goes on high byte first, and comes off low byte first
unfoldable pub push_address : ℕ → Registers → Micro Registers
push_address p r = do
  r₁ ← push (page p) r
  push (low_byte p) r₁

unfoldable pub pull_address : Registers → Micro (ℕ × Registers)
pull_address r = do
  (l, r₁) ← pull r
  (h, r₂) ← pull r₁
  done (joined h l, r₂)
