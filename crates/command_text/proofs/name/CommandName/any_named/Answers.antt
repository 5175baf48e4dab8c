use Rattle.std.proofs.Common.{sym, rules}
use Rattle.std.specs.Cmp.Lexicographic.{slice_cmp}
use Rattle.std.specs.Ordering.{nat_cmp}
use Rattle.std.proofs.lemmas.Fn.{always_returns_same}
use Rattle.command_text.specs.Names.{name_text}
use Rattle.command_text.proofs.NameSearch.{found_at, none_found}
use Rattle.command_text.proofs.name.CommandName.any_named.Goals as goal

pub returns-in-Ok : goal.returns-in-Ok
returns-in-Ok c =
    let found = c.in-Ok.ensures.position (λ row. slice_cmp nat_cmp (name_text row.0) c.args.word.now)
    (always_returns_same _ _ _ (λ a r f' called. search rules)) in
    sym (found_at c.args.word.now _ (found _))

pub returns-in-Err : goal.returns-in-Err
returns-in-Err c =
    let absent = c.in-Err.ensures.position (λ row. slice_cmp nat_cmp (name_text row.0) c.args.word.now)
    (always_returns_same _ _ _ (λ a r f' called. search rules)) in
    sym (none_found (λ row. row.0) _ c.args.word.now c.in-Err.field-0 c.rows-rows.ensures.names absent)
