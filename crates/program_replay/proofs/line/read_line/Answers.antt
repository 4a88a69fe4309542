-- Each part is the definition's, in the order in which they are read; both memories start as zeros. After a part that is not there
-- the place stays nowhere.
use Rattle.std.proofs.Common.{arith, refl}
use Rattle.text_reading.specs.Lemmas.Found.{gone_place, got_place, somewhere_place}
use Rattle.replay_list.specs.Lemmas.Lost.{gone_state, got_state}
use Rattle.program_replay.specs.Verdicts.{line_at}
use Rattle.program_replay.specs.Lemmas.Replay.{zeroed, same_list, after_before, after_list, after_bar, after_mark, after_after, after_more}
use Rattle.program_replay.proofs.line.read_line.Goals as goal

pub returns-in_err-before : goal.returns-in_err-before
unfolding line_at
returns-in_err-before c =
    rw (c.from_residual.ensures) (after_before c.args.text.now (omega arith) _ (gone_state _ c.in_err-before.ensures))

pub returns-in_err-list : goal.returns-in_err-list
unfolding line_at
returns-in_err-list c =
    rw (c.from_residual-in_err-list.ensures, got_state _ c.in_ok-before.ensures) (after_list c.args.text.now (omega arith) _ (gone_place _ c.in_err-list.ensures))

pub returns-in_err-read_bar : goal.returns-in_err-read_bar
unfolding line_at
returns-in_err-read_bar c =
    let zero = zeroed (c.fill.ensures.after (λ y e. e)) (omega arith) in
    let zero' = zeroed (c.fill-2.ensures.after (λ y e. e)) (omega arith) in
    let listed = same_list _ _ zero zero' c.load_bytes.ensures c.load_bytes-loaded.ensures in
    rw (c.from_residual-in_err-read_bar.ensures, got_state _ c.in_ok-before.ensures, got_place _ c.in_ok-list.ensures, listed.0) (after_bar c.args.text.now (omega arith) _ _ (gone_place _ c.in_err-read_bar.ensures))

pub returns-in_err-read_mark : goal.returns-in_err-read_mark
unfolding line_at
returns-in_err-read_mark c =
    let zero = zeroed (c.fill.ensures.after (λ y e. e)) (omega arith) in
    let zero' = zeroed (c.fill-2.ensures.after (λ y e. e)) (omega arith) in
    let listed = same_list _ _ zero zero' c.load_bytes.ensures c.load_bytes-loaded.ensures in
    rw (c.from_residual-in_err-read_mark.ensures, got_state _ c.in_ok-before.ensures, got_place _ c.in_ok-list.ensures, listed.0, got_place _ c.in_ok-read_bar.ensures) (after_mark c.args.text.now (omega arith) _ _ (gone_place _ c.in_err-read_mark.ensures))

pub returns-in_err-after : goal.returns-in_err-after
unfolding line_at
returns-in_err-after c =
    let zero = zeroed (c.fill.ensures.after (λ y e. e)) (omega arith) in
    let zero' = zeroed (c.fill-2.ensures.after (λ y e. e)) (omega arith) in
    let listed = same_list _ _ zero zero' c.load_bytes.ensures c.load_bytes-loaded.ensures in
    rw (c.from_residual-in_err-after.ensures, got_state _ c.in_ok-before.ensures, got_place _ c.in_ok-list.ensures, listed.0, got_place _ c.in_ok-read_bar.ensures, got_place _ c.in_ok-read_mark.ensures) (after_after c.args.text.now (omega arith) _ _ (gone_state _ c.in_err-after.ensures))

pub returns-in_err-read_bar-2 : goal.returns-in_err-read_bar-2
unfolding line_at
returns-in_err-read_bar-2 c =
    let zero = zeroed (c.fill.ensures.after (λ y e. e)) (omega arith) in
    let zero' = zeroed (c.fill-2.ensures.after (λ y e. e)) (omega arith) in
    let listed = same_list _ _ zero zero' c.load_bytes.ensures c.load_bytes-loaded.ensures in
    rw (c.from_residual-in_err-read_bar-2.ensures, got_state _ c.in_ok-before.ensures, got_place _ c.in_ok-list.ensures, listed.0, got_place _ c.in_ok-read_bar.ensures, got_place _ c.in_ok-read_mark.ensures, got_state _ c.in_ok-after.ensures) (after_more c.args.text.now (omega arith) _ _ (gone_place _ c.in_err-read_bar-2.ensures))

pub returns-in_err-read_end : goal.returns-in_err-read_end
unfolding line_at
returns-in_err-read_end c =
    let zero = zeroed (c.fill.ensures.after (λ y e. e)) (omega arith) in
    let zero' = zeroed (c.fill-2.ensures.after (λ y e. e)) (omega arith) in
    let listed = same_list _ _ zero zero' c.load_bytes.ensures c.load_bytes-loaded.ensures in
    let stored = rw listed.1 at c.load_bytes-stored.ensures in
    rw (c.from_residual-in_err-read_end.ensures, got_state _ c.in_ok-before.ensures, got_place _ c.in_ok-list.ensures, listed.0, got_place _ c.in_ok-read_bar.ensures, got_place _ c.in_ok-read_mark.ensures, got_state _ c.in_ok-after.ensures, got_place _ c.in_ok-read_bar-2.ensures, stored) (gone_place _ c.in_err-read_end.ensures)

pub returns : goal.returns
unfolding line_at
returns c =
    let zero = zeroed (c.fill.ensures.after (λ y e. e)) (omega arith) in
    let zero' = zeroed (c.fill-2.ensures.after (λ y e. e)) (omega arith) in
    let listed = same_list _ _ zero zero' c.load_bytes.ensures c.load_bytes-loaded.ensures in
    let stored = rw listed.1 at c.load_bytes-stored.ensures in
    rw (got_state _ c.in_ok-before.ensures, got_place _ c.in_ok-list.ensures, listed.0, got_place _ c.in_ok-read_bar.ensures, got_place _ c.in_ok-read_mark.ensures, got_state _ c.in_ok-after.ensures, got_place _ c.in_ok-read_bar-2.ensures, stored) (somewhere_place _ c.in_ok-read_end.ensures, refl, refl, refl)
