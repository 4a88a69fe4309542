-- One law for each way out, of what stands where the first gap ends.
use Rattle.tape_loading.specs.Theorems.Kinds.{no_format, hex_format, tape_format}
use Rattle.tape_loading.proofs.format_of.Goals as goal
use Rattle.tape_loading.proofs.format_of.Goals.{else-at-text-via-then-at-text+else-text-at-eq58, else-at-text-via-else-at-text}

pub returns-then-text-at-eq58 : goal.returns-then-text-at-eq58
returns-then-text-at-eq58 c = hex_format c.args.text.now c.skip_separators-at.ensures c.if-at-text.true c.if-text-at-eq58.true

pub returns-else-at-text : goal.returns-else-at-text
returns-else-at-text c =
    elim c.else-at-text.branch [
      | else-at-text-via-then-at-text+else-text-at-eq58 w ↦ tape_format c.args.text.now c.skip_separators-at.ensures w.if-at-text.true w.if-text-at-eq58.false
      | else-at-text-via-else-at-text w ↦ no_format c.args.text.now c.skip_separators-at.ensures w.if-at-text.false
    ]
