use Rattle.std.proofs.Common.{◌≤◌, ◌∙◌, length, inl, inr, arith, sym, ap}
use Rattle.play_journal.specs.Opening.{told_front}
use Rattle.play_journal.specs.Reading.{front}
use Rattle.play_journal.proofs.HeadLaws.{front-shut, front-take}
use Rattle.play_journal.proofs.opening.generation_on.Goals as goal

pub returns-then-len-clause-told : goal.returns-then-len-clause-told
returns-then-len-clause-told g c = λ honest.
    let bytes = g.D.Disk.content c.args.disk.now in
    let long = c.len.ensures honest in
    inr (sym (ap told_front (front-shut bytes (inl (omega arith)))))

pub returns-clause-told : goal.returns-clause-told
returns-clause-told g c = λ honest.
    let bytes = g.D.Disk.content c.args.disk.now in
    let long : 32 ≤ length bytes = let len = c.len.ensures honest in omega arith in
    inr (c.generation_of.ensures ∙ ap (λ l. told_front (front l)) (c.in_ok-read_at.ensures.read honest)
    ∙ ap told_front (front-take bytes long))
