use Rattle.std.proofs.Common.{◌≤◌, length, drop, find, refl, sym, ◌∙◌, ap, arith, ◌+◌}
use Rattle.std.proofs.Math.ListN.{drop_of_length-le}
use Rattle.std.specs.Str.{bytes_eq}
use Rattle.command_text.specs.Names.{all_names, name_text, any_named}
use Rattle.command_text.specs.NextWord.{spelled}
use Rattle.command_text.proofs.Listing.{next_name}
use Rattle.command_text.proofs.NameSearch.{find_here, find_next}
use Rattle.command_text.proofs.name.CommandName.named_in_quotes.Goals as goal

pub loop-place-init : goal.loop-place-init
unfolding any_named
loop-place-init c = refl

pub loop-place-preserved : goal.loop-place-preserved
loop-place-preserved c =
    let word = spelled c.args.word in
    sym (find_next (λ name. bytes_eq word (name_text name)) c.name_at-name.result (drop c.loop-place.place all_names)
    (drop (c.loop-place.place + 1) all_names)
    (next_name c.loop-place.place c.name_at-name.result (omega (arith, c.loop-place-test.true, c.count-place-end.ensures))
    c.name_at-name.ensures)
    (ap (bytes_eq word) (sym (c.as_bytes.ensures.value ∙ c.text.ensures)) ∙ sym c.is.ensures ∙ c.if-is.false))
    ∙ c.loop-place.invariant

pub returns-then-is : goal.returns-then-is
returns-then-is c =
    let word = spelled c.args.word in
    sym (find_here (λ name. bytes_eq word (name_text name)) c.name_at-name.result (drop c.loop-place.place all_names)
    (drop (c.loop-place.place + 1) all_names)
    (next_name c.loop-place.place c.name_at-name.result (omega (arith, c.loop-place-test.true, c.count-place-end.ensures))
    c.name_at-name.ensures)
    (ap (bytes_eq word) (sym (c.as_bytes.ensures.value ∙ c.text.ensures)) ∙ sym c.is.ensures ∙ c.if-is.true))
    ∙ c.loop-place.invariant

pub returns : goal.returns
returns c =
    let word = spelled c.args.word in
    let over : length all_names ≤ c.loop-place.place = omega (arith, c.loop-place-test.false, c.count-place-end.ensures) in
    ap (find (λ name. bytes_eq word (name_text name))) (sym (drop_of_length-le all_names over)) ∙ c.loop-place.invariant
