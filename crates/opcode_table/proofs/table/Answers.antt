-- The arrays build what the 256 opcodes mean: one computed equation, with the arrays found in the goal.
use mathlib.Core.Path.{refl}
use Rattle.instruction.specs.Opcodes.{decoded, rows}
use Rattle.opcode_table.specs.Theorems.Arrays.{is_table}
use Rattle.opcode_numbers.specs.Inner.Operations.{operation_at, operations, mode_at, modes}
use Rattle.opcode_table.proofs.table.Goals as goal

pub returns : goal.returns
unfolding decoded rows operation_at operations mode_at modes
returns c = is_table _ _ _ refl
