use Rattle.std.proofs.Common.{◌≡◌, ◌∷◌, ◌++◌, [], length, take, arith}
use Rattle.std.proofs.lemmas.List.{length-take-le}
use Rattle.std.proofs.lemmas.Result.{on_ok_weaker}
use Rattle.disk_model.proofs.LaterLaws.{later_on}
use Rattle.disk_model.proofs.MomentLaws.{all_weaker, all_join}
use Rattle.play_journal.specs.File.{open_gate, head}
use Rattle.play_journal.specs.Laying.{IsLaidDown}
use Rattle.play_journal.proofs.LayLaws.{same_laid, shut_laid, opened_laid, opens, is_open}
use Rattle.play_journal.proofs.laying.lay_down.Goals as goal

pub returns-in_err-close_gate-clause-any_moment : goal.returns-in_err-close_gate-clause-any_moment
returns-in_err-close_gate-clause-any_moment g c = λ honest is_settled.
    let old = g.D.Disk.content c.args.disk.now in
    all_weaker _ (IsLaidDown old (open_gate ∷ head c.args.says.layout c.args.says.generation c.args.says.base c.args.says.size ++ g.P.Pieces.left c.args.snapshot.now ++ 0 ∷ [])) _ _ (λ image same. same_laid old _ image same) (c.in_err-close_gate.ensures.any_moment honest is_settled)

pub returns-in_err-write_behind-clause-later : goal.returns-in_err-write_behind-clause-later
returns-in_err-write_behind-clause-later g c = later_on c.in_ok-close_gate.ensures.later c.in_err-write_behind.ensures.later

pub returns-in_err-write_behind-clause-any_moment : goal.returns-in_err-write_behind-clause-any_moment
returns-in_err-write_behind-clause-any_moment g c = λ honest is_settled.
    let old = g.D.Disk.content c.args.disk.now in
    let first = c.in_ok-close_gate.ensures in
    let second = c.in_err-write_behind.ensures in
    let honest' = first.later.honesty.0 honest in
    let P = IsLaidDown old (open_gate ∷ head c.args.says.layout c.args.says.generation c.args.says.base c.args.says.size ++ g.P.Pieces.left c.args.snapshot.now ++ 0 ∷ []) in
    all_join P (g.D.Disk.history c.close_gate.new.disk) (g.D.Disk.history c.write_behind.new.disk) _ (second.later.done honest')
    (all_weaker _ P _ _ (λ image same. same_laid old _ image same) (first.any_moment honest is_settled))
    (all_weaker _ P _ _ (λ image shut. shut_laid old _ image shut) (second.any_moment honest' (first.settled honest) (first.closed honest)))

pub returns-clause-later : goal.returns-clause-later
returns-clause-later g c = later_on (later_on c.in_ok-close_gate.ensures.later c.in_ok-write_behind.ensures.later)
    c.write_synced.ensures.later

pub returns-clause-any_moment : goal.returns-clause-any_moment
returns-clause-any_moment g c = λ honest is_settled.
    let old = g.D.Disk.content c.args.disk.now in
    let body = head c.args.says.layout c.args.says.generation c.args.says.base c.args.says.size ++ g.P.Pieces.left c.args.snapshot.now ++ 0 ∷ [] in
    let first = c.in_ok-close_gate.ensures in
    let second = c.in_ok-write_behind.ensures in
    let third = c.write_synced.ensures in
    let honest' = first.later.honesty.0 honest in
    let honest'' = second.later.honesty.0 honest' in
    let closed = first.closed honest in
    let one : length (take 1 (g.D.Disk.content c.close_gate.new.disk)) ≡ 1 =
    length-take-le 1 (g.D.Disk.content c.close_gate.new.disk) (omega (arith, closed.stands)) in
    let is = second.written honest' closed in
    let P = IsLaidDown old (open_gate ∷ body) in
    all_join P (g.D.Disk.history c.write_behind.new.disk) (g.D.Disk.history c.write_synced.new.disk) _ (third.later.done honest'')
    (all_join P (g.D.Disk.history c.close_gate.new.disk) (g.D.Disk.history c.write_behind.new.disk) _ (second.later.done honest')
    (all_weaker _ P _ _ (λ image same. same_laid old _ image same) (first.any_moment honest is_settled))
    (all_weaker _ P _ _ (λ image shut. shut_laid old _ image shut) (second.any_moment honest' (first.settled honest) closed)))
    (all_weaker _ P _ _ (λ image opened. opened_laid old _ image (opens _ (take 1
    (g.D.Disk.content c.close_gate.new.disk)) body image one is opened)) (third.any_moment honest'' (second.settled honest')
    (omega arith)))

pub returns-clause-written : goal.returns-clause-written
returns-clause-written g c = λ honest.
    let first = c.in_ok-close_gate.ensures in
    let second = c.in_ok-write_behind.ensures in
    let honest' = first.later.honesty.0 honest in
    let honest'' = second.later.honesty.0 honest' in
    let closed = first.closed honest in
    let one : length (take 1 (g.D.Disk.content c.close_gate.new.disk)) ≡ 1 =
    length-take-le 1 (g.D.Disk.content c.close_gate.new.disk) (omega (arith, closed.stands)) in
    on_ok_weaker c.write_synced.result
    (λ made. is_open _ (take 1 (g.D.Disk.content c.close_gate.new.disk)) (head c.args.says.layout c.args.says.generation c.args.says.base c.args.says.size ++ g.P.Pieces.left c.args.snapshot.now ++ 0 ∷ []) _ one (second.written honest' closed) made)
    (c.write_synced.ensures.written honest'')
