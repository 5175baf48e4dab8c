use Rattle.std.proofs.Common.{sym, ◌∙◌}
use Rattle.std.proofs.lemmas.Str.{IsUtf8-past_char}
use Rattle.song_db.proofs.LetterSteps.{both_end, left_ends, letters_decide, letters_tied, right_ends}
use Rattle.song_db.proofs.letters.compare_letters.Goals as goal

pub returns-in_default-next : goal.returns-in_default-next
returns-in_default-next c =
    let held = c.loop-one.invariant in
    right_ends _ _ _ c.in-Some.one _ held.0 c.in-Some.ensures.steps.0 c.in_default-next.ensures.steps.0.0 held.2

pub returns-then-not-is_eq : goal.returns-then-not-is_eq
returns-then-not-is_eq c =
    let held = c.loop-one.invariant in
    letters_decide _ _ _ _ c.in-Some.one c.in-Some-next.other _ _ held.0 held.1 c.in-Some.ensures.steps.0 c.in-Some-next.ensures.steps.0
    c.compare_characters-order.ensures (sym c.is_eq.ensures ∙ c.if-not-is_eq.true) held.2

pub loop-one-preserved : goal.loop-one-preserved
loop-one-preserved c =
    let held = c.loop-one.invariant in (
      IsUtf8-past_char _ _ c.in-Some.one held.0 c.in-Some.ensures.steps.0,
      IsUtf8-past_char _ _ c.in-Some-next.other held.1 c.in-Some-next.ensures.steps.0,
      letters_tied _ _ _ _ c.in-Some.one c.in-Some-next.other _ _ held.0 held.1 c.in-Some.ensures.steps.0 c.in-Some-next.ensures.steps.0
          c.compare_characters-order.ensures (sym c.is_eq.ensures ∙ c.if-not-is_eq.false) held.2,
    )

pub returns-in-Some-next-2 : goal.returns-in-Some-next-2
returns-in-Some-next-2 c =
    let held = c.loop-one.invariant in
    left_ends _ _ _ c.in-Some-next-2.field-0 _ c.in_default.ensures.steps.0.0 held.1 c.in-Some-next-2.ensures.steps.0 held.2

pub returns-in-None : goal.returns-in-None
returns-in-None c =
    both_end _ _ _ c.in_default.ensures.steps.0.0 c.in-None.ensures.steps.0.0 c.loop-one.invariant.2
