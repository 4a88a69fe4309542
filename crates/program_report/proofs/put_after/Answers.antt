-- One part after the other, from the line's end on.
use Rattle.std.proofs.Common.{rules}
use Rattle.text_writing.specs.Lemmas.Writing.{after}
use Rattle.program_report.specs.Lemmas.Named.{given_back}
use Rattle.program_report.proofs.put_after.Goals as goal

pub returns : goal.returns
returns c =
    let name = c.put_name.ensures.writes_name in
    let wrote = (after (after c.put_text.ensures name.1) c.put_byte.ensures).wrote in
    (name.0, given_back (rw (c.from-out.ensures.same_bytes, c.from-out.ensures.begins, ← c.place.ensures) at wrote) (search rules), name.2)
