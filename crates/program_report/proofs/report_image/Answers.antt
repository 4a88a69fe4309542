-- A line has an end.
use Rattle.std.proofs.Common.{arith, rules, length}
use Rattle.manual.specs.Micro.{exec}
use Rattle.image_run.specs.Report.{image_run}
use Rattle.program_report.specs.Lemmas.Named.{line_ends}
use Rattle.program_report.proofs.report_image.Goals as goal

pub write_line-requires : goal.write_line-requires
write_line-requires c =
    let image = c.args.image.now in
    let ended = c.report-ended.ensures in
    (omega (arith, ended.writes.wrote.ends, line_ends (exec (image_run (length image)) image).0), omega (arith, ended.upper_bound), search rules)
