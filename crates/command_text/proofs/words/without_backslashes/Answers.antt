use Rattle.std.proofs.Common.{◌≡◌, ◌++◌, ◌∷◌, [], ◌+◌, List, ℕ, take, get_or, ap, ◌∙◌}
use Rattle.command_text.specs.NextWord.{unescaped}
use Rattle.command_text.proofs.Spelling.{escape_ends, escape_goes_on, all_literal}
use Rattle.command_text.proofs.words.without_backslashes.Goals as goal

pub returns-then-run-rest : goal.returns-then-run-rest
returns-then-run-rest c =
    c.in_ok-extend_from_slice.ensures.items
    ∙ escape_ends c.loop-run.word.items c.loop-run.rest.now (unescaped c.args.inside.now) c.in-Some.run' c.in-Some.ensures
    c.if-run-rest.true c.loop-run.invariant

pub loop-run-preserved : goal.loop-run-preserved
loop-run-preserved c =
    let rest = c.loop-run.rest.now in
    let run = c.in-Some.run' in
    let items : c.push.new.self.items ≡ (c.loop-run.word.items ++ take run rest) ++ get_or rest (run + 1) 0 ∷ [] =
    c.in_ok-push.ensures.items ∙ ap (λ (l : List ℕ). l ++ get_or rest (run + 1) 0 ∷ []) c.in_ok-extend_from_slice.ensures.items in
    rw items (escape_goes_on c.loop-run.word.items rest (unescaped c.args.inside.now) run c.in-Some.ensures c.if-run-rest.false
    c.loop-run.invariant)

pub returns : goal.returns
returns c =
    c.in_ok-extend_from_slice-2.ensures.items
    ∙ all_literal c.loop-run.word.items c.loop-run.rest.now (unescaped c.args.inside.now) c.in_default.ensures c.loop-run.invariant
