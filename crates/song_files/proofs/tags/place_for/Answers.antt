use Rattle.std.proofs.Common.{◌≡◌, ℕ, ◌<◌, ◌≤◌, false, true, nat_lt, get_or, sym, ap, ◌∙◌, below_more, arith}
use Rattle.std.proofs.lemmas.Bool.Decides.{nat_tests}
use Rattle.std.proofs.lemmas.List.{get_or_default}
use Rattle.std.proofs.lemmas.List.Sums.{position_or_len_is}
use Rattle.song_files.specs.Tag.{number_of}
use Rattle.song_files.specs.declared.tags.Place.{Place}
use Rattle.song_files.proofs.tags.place_for.Goals as goal

is_below : (a b x y : ℕ) → a ≡ x → b ≡ y → a < b → nat_lt x y ≡ true
is_below a b x y one other less = let l : x < y = omega arith in grind (arith, nat_tests)

not_below : (a b x y : ℕ) → a ≡ x → b ≡ y → b ≤ a → nat_lt x y ≡ false
not_below a b x y one other le = let l : y ≤ x = omega arith in grind (arith, nat_tests)

pub returns-then-number : goal.returns-then-number
returns-then-number c =
    sym (position_or_len_is (λ (p : Place). nat_lt (number_of c.args.tag) (number_of p.tag)) c.args.places.now c.loop-i.i _ (omega arith)
    (λ k below. c.loop-i.invariant k _ below)
    (λ _. is_below c.number.result c.number-in-loop-i.result (number_of c.args.tag) _ c.number.ensures.number
    c.number-in-loop-i.ensures.number c.if-number.true))

pub loop-i-preserved : goal.loop-i-preserved
loop-i-preserved c = λ k d below.
    below_more (λ j. nat_lt (number_of c.args.tag) (number_of (get_or c.args.places.now j d).tag) ≡ false) c.loop-i.i
    (λ j under. c.loop-i.invariant j d under)
    (ap (λ (p : Place). nat_lt (number_of c.args.tag) (number_of p.tag))
    (get_or_default c.args.places.now c.loop-i.i d _ c.loop-i-test.true)
    ∙ not_below c.number.result c.number-in-loop-i.result (number_of c.args.tag) _ c.number.ensures.number
    c.number-in-loop-i.ensures.number c.if-number.false) k below

pub returns : goal.returns
returns c =
    sym (position_or_len_is (λ (p : Place). nat_lt (number_of c.args.tag) (number_of p.tag)) c.args.places.now _
    (record { start = 0; len = 0; tag = c.args.tag }) (omega arith)
    (λ k below. c.loop-i.invariant k _ (omega arith))
    (λ less. absurd (omega arith)))
