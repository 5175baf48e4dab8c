use Rattle.std.proofs.Common.{rules, ◌≡◌, Some}
use Rattle.stage_workers.proofs.scan.next_changes.Goals as goal

pub returns-in-Ok-Some-clause-read : goal.returns-in-Ok-Some-clause-read
returns-in-Ok-Some-clause-read g c =
    let is : c.new.result ≡ Some c.in-Ok-Some.changes.items = search rules in
    λ honest. rw is (rw c.in-Ok-Some.field-0-is at (c.in-Ok-Some.ensures.read honest))

pub returns-in-Ok-None-clause-read : goal.returns-in-Ok-None-clause-read
returns-in-Ok-None-clause-read g c = λ honest. rw c.in-Ok-None.field-0-is at (c.in-Ok-None.ensures.read honest)
