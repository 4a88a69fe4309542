-- By its format.
use Rattle.std.proofs.Common.{◌∙◌}
use Rattle.tape_loading.specs.Theorems.Kinds.{by_format}
use Rattle.tape_loading.proofs.read_text.Goals as goal

pub returns : goal.returns
returns c = c.read.ensures ∙ by_format c.args.text.now c.args.memory.now c.format_of.ensures
