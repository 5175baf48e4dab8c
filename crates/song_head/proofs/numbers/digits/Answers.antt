use Rattle.std.proofs.Common.{◌≡◌, true, sym, ◌∙◌, subst, ℕ, List}
use Rattle.std.specs.Str.Parse.{ParsesUnsigned}
use Rattle.song_head.specs.Numbers.{are_digits}
use Rattle.song_head.proofs.Numerals.{is_text, is_parsed, at_ok, never_err}
use Rattle.song_head.proofs.numbers.digits.Goals as goal

pub returns-in_err-ok : goal.returns-in_err-ok
returns-in_err-ok c =
    let h : are_digits c.args.text.now ≡ true = sym c.are_digits.ensures ∙ c.if-not-are_digits.false in
    absurd (never_err c.from_utf8.result _ _ c.from_utf8.ensures.cases (λ d q. q.0 (is_text c.args.text.now h)) c.in_err-ok.ensures.value)

pub returns : goal.returns
returns c =
    let h : are_digits c.args.text.now ≡ true = sym c.are_digits.ensures ∙ c.if-not-are_digits.false in
    let same : c.in_ok-ok.field-0.now ≡ c.args.text.now =
    (at_ok c.from_utf8.result _ _ c.in_ok-ok.field-0 c.from_utf8.ensures.cases c.in_ok-ok.ensures.value).0 in
    c.ok-2.ensures.value
    ∙ is_parsed c.args.text.now c.parse.result h
    (subst (λ (bytes : List ℕ). ParsesUnsigned 64 10 bytes c.parse.result) same c.parse.ensures.value.0)
