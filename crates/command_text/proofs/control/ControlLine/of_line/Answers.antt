use Rattle.std.proofs.Common.{sym, ◌∙◌, ap}
use Rattle.command_text.specs.Control.{control_of_words}
use Rattle.command_text.specs.Reading.{quoted}
use Rattle.command_text.specs.Words.{words_from}
use Rattle.command_text.specs.Words.Standing.{Between}
use Rattle.command_text.specs.NextWord.{spelled}
use Rattle.command_text.proofs.ControlLaws.{control_at, no_control, lone_word, bad_behind, word_behind}
use Rattle.command_text.proofs.control.ControlLine.of_line.Goals as goal

pub returns-then-not-is_utf8 : goal.returns-then-not-is_utf8
returns-then-not-is_utf8 c = sym (no_control c.args.line.now (sym c.is_utf8.ensures ∙ c.if-not-is_utf8.true))

pub returns-in-End : goal.returns-in-End
returns-in-End c =
    let at = control_at c.args.line.now c.text_of_line.result.now (sym c.is_utf8.ensures ∙ c.if-not-is_utf8.false) c.text_of_line.ensures in
    sym (at ∙ ap (λ ws. control_of_words (quoted ws)) c.in-End.ensures)

pub returns-in-Bad : goal.returns-in-Bad
returns-in-Bad c =
    let at = control_at c.args.line.now c.text_of_line.result.now (sym c.is_utf8.ensures ∙ c.if-not-is_utf8.false) c.text_of_line.ensures in
    sym (at ∙ ap (λ ws. control_of_words (quoted ws)) c.in-Bad.ensures)

pub returns-in-End-next_word : goal.returns-in-End-next_word
returns-in-End-next_word c =
    let at = control_at c.args.line.now c.text_of_line.result.now (sym c.is_utf8.ensures ∙ c.if-not-is_utf8.false) c.text_of_line.ensures in
    let found = c.in-Found.ensures in
    c.control_of_word.ensures
    ∙ sym (at ∙ lone_word (words_from Between c.text_of_line.result.now) (words_from Between c.in-Found.rest.now) (spelled c.in-Found.word)
    found.0 c.in-End-next_word.ensures)

pub returns-in-Bad-next_word : goal.returns-in-Bad-next_word
returns-in-Bad-next_word c =
    let at = control_at c.args.line.now c.text_of_line.result.now (sym c.is_utf8.ensures ∙ c.if-not-is_utf8.false) c.text_of_line.ensures in
    let found = c.in-Found.ensures in
    sym (at ∙ bad_behind (words_from Between c.text_of_line.result.now) (words_from Between c.in-Found.rest.now) (spelled c.in-Found.word)
    found.0 c.in-Bad-next_word.ensures)

pub returns-in-Found-next_word : goal.returns-in-Found-next_word
returns-in-Found-next_word c =
    let at = control_at c.args.line.now c.text_of_line.result.now (sym c.is_utf8.ensures ∙ c.if-not-is_utf8.false) c.text_of_line.ensures in
    let found = c.in-Found.ensures in
    let more = c.in-Found-next_word.ensures in
    sym (at ∙ word_behind (words_from Between c.text_of_line.result.now) (words_from Between c.in-Found.rest.now)
    (words_from Between c.in-Found-next_word.field-1.now) (spelled c.in-Found.word) (spelled c.in-Found-next_word.field-0) found.0 more.0)
