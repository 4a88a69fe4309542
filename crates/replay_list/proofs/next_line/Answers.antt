-- By whether there is an LF.
use Rattle.std.proofs.Common.{◌≡◌, Some, None, sym, ◌∙◌, rules, tests, arith}
use Rattle.std.proofs.lemmas.Iterator.{YieldsList-from_slice}
use Rattle.std.proofs.lemmas.Iterator.Search.{position_from_yields_List}
use Rattle.std.proofs.lemmas.Iterator.Adapters.{position_from-zero}
use Rattle.std.specs.List.{position_from}
use Rattle.replay_list.specs.Lemmas.Loops.{is_feed, line_found}
use Rattle.replay_list.proofs.next_line.Goals.{In-Some, In-None}
use Rattle.replay_list.proofs.next_line.Goals as goal

pub returns-in-Some-clause-value : goal.returns-in-Some-clause-value
returns-in-Some-clause-value c =
    let text = c.rest.result.now in
    let found : c.position.result ≡ position_from is_feed 0 text =
    position_from_yields_List is_feed _ _ c.position.result c.position.ensures.ran (YieldsList-from_slice _ c.iter.ensures.rest) (λ x b q k. search (rules, tests))
    ∙ position_from-zero is_feed text in
    sym (line_found c.args.text.now c.args.at (Some c.in-Some.index) (sym c.in-Some.is ∙ found ∙ rw c.rest.ensures))

pub returns-in-None-clause-value : goal.returns-in-None-clause-value
returns-in-None-clause-value c =
    let text = c.rest.result.now in
    let found : c.position.result ≡ position_from is_feed 0 text =
    position_from_yields_List is_feed _ _ c.position.result c.position.ensures.ran (YieldsList-from_slice _ c.iter.ensures.rest) (λ x b q k. search (rules, tests))
    ∙ position_from-zero is_feed text in
    let line = line_found c.args.text.now c.args.at None (sym c.in-None.is ∙ found ∙ rw c.rest.ensures) in
    omega (arith, line, c.max.ensures)
