-- The sum with the complement is the difference.
use Rattle.std.proofs.Common.{◌∙◌, rules}
use Rattle.manual.proofs.Theorems.Complement.{complement}
use Rattle.arithmetic.proofs.binary.sbc_binary.Goals as goal

pub returns : goal.returns
returns c = c.adc_binary.ensures ∙ complement _ _ _ (search rules) (search rules)
