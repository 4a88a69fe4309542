-- Laws of Named.antt.
use Rattle.std.specs.Prelude.{ℕ, ◌+◌, ◌<◌, ◌≤◌, ◌≡◌, Bool, true, false, cond, List, ◌++◌, eqb, length}
use Rattle.std.proofs.Common.{arith, length-append}
use Rattle.std.proofs.lemmas.List.{length-map}
use Rattle.laws.specs.Answers.{memory_not_full}
use Rattle.manual.specs.declared.Ended.{Ended}
use Rattle.manual.specs.Outcomes.{number}
use Rattle.laws.specs.Characters.{characters}
use Rattle.text_writing.specs.Written.{Wrote}
use Rattle.text_writing.specs.Lemmas.Texts.{within}
use Rattle.trace_fields.specs.Fields.{machine_fields}
use Rattle.sentences.specs.Line.{all_fields, line}
use Rattle.console.specs.Names.{printed, printed_name}
use Rattle.program_report.specs.Named.{WroteAfter}

-- Where it ends.
pub after_within : {l l' : List ℕ} {at next : ℕ} → WroteAfter l at l' next → next ≤ at + 4099
after_within w =
    within w.1 (omega (arith, w.2, length-append (characters "  ") (printed_name w.0 ++ characters "\n"), length-append (printed_name w.0) (characters "\n"), length-map w.0 printed))

-- What a writer left is what its buffer is then.
pub given_back : {l t l' k : List ℕ} {at next : ℕ} → Wrote l at t l' next → k ≡ l' → Wrote l at t k next
given_back w e = rw e w

-- A line has an end to stand in place of.
pub line_ends : (q : Ended) → 0 < length (line q)
unfolding line all_fields machine_fields
line_ends q = by_number (eqb (number q.reason) memory_not_full)
  where
    by_number : (t : Bool) → 0 < length (cond t (characters "1\n") (all_fields q))
    by_number true = omega arith
    by_number false = simp length-append (omega arith)
