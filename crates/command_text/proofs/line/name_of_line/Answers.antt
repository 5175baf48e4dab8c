use Rattle.std.proofs.Common.{sym, ◌∙◌, ap}
use Rattle.command_text.specs.Reading.{first_name, quoted}
use Rattle.command_text.specs.Words.{words_from}
use Rattle.command_text.specs.NextWord.{spelled}
use Rattle.command_text.specs.Words.Standing.{Between}
use Rattle.command_text.proofs.Readings.{name_at, no_name, name_found, no_name_behind}
use Rattle.command_text.proofs.line.name_of_line.Goals as goal

pub returns-then-not-is_utf8 : goal.returns-then-not-is_utf8
returns-then-not-is_utf8 c = sym (no_name c.args.profile c.args.line.now (sym c.is_utf8.ensures ∙ c.if-not-is_utf8.true))

pub returns-in-End : goal.returns-in-End
returns-in-End c =
    let at = name_at c.args.profile c.args.line.now c.text_of_line.result.now
    (sym c.is_utf8.ensures ∙ c.if-not-is_utf8.false) c.text_of_line.ensures in
    sym (at ∙ ap (λ ws. first_name c.args.profile (quoted ws)) c.in-End.ensures)

pub returns-in-Bad : goal.returns-in-Bad
returns-in-Bad c =
    let at = name_at c.args.profile c.args.line.now c.text_of_line.result.now
    (sym c.is_utf8.ensures ∙ c.if-not-is_utf8.false) c.text_of_line.ensures in
    sym (at ∙ ap (λ ws. first_name c.args.profile (quoted ws)) c.in-Bad.ensures)

pub returns-then-parts_into_words : goal.returns-then-parts_into_words
returns-then-parts_into_words c =
    let at = name_at c.args.profile c.args.line.now c.text_of_line.result.now
    (sym c.is_utf8.ensures ∙ c.if-not-is_utf8.false) c.text_of_line.ensures in
    let found = c.in-Found.ensures in
    c.named_by.ensures
    ∙ sym (at ∙ name_found c.args.profile (words_from Between c.text_of_line.result.now)
    (words_from Between c.in-Found.rest.now) (spelled c.in-Found.word)
    found.0 (sym c.parts_into_words.ensures ∙ c.if-parts_into_words.true))

pub returns-else-parts_into_words : goal.returns-else-parts_into_words
returns-else-parts_into_words c =
    let at = name_at c.args.profile c.args.line.now c.text_of_line.result.now
    (sym c.is_utf8.ensures ∙ c.if-not-is_utf8.false) c.text_of_line.ensures in
    let found = c.in-Found.ensures in
    sym (at ∙ no_name_behind c.args.profile (words_from Between c.text_of_line.result.now) (words_from Between c.in-Found.rest.now)
    (spelled c.in-Found.word) found.0 (sym c.parts_into_words.ensures ∙ c.if-parts_into_words.false))
