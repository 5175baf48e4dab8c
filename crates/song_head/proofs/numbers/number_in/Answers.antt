use Rattle.std.proofs.Common.{◌≡◌, ◌<◌, ℕ, List, length, min, ap, ◌∙◌, sym, arith}
use Rattle.std.proofs.lemmas.Bool.{eqb-false}
use Rattle.std.specs.Option.{unwrap_or}
use Rattle.std.specs.Str.Parse.{digits_value}
use Rattle.song_head.specs.Numbers.{digits_in_front, digits_of}
use Rattle.song_head.proofs.Fronts.{front_value}
use Rattle.song_head.proofs.numbers.number_in.Goals as goal

pub returns : goal.returns
returns c =
    let text = c.as_bytes.result.now in
    let front : c.digits_in_front-front.result.now ≡ digits_in_front text = c.digits_in_front-front.ensures.digits in
    let filled = eqb-false (length c.digits_in_front-front.result.now) 0 (sym c.is_empty.ensures ∙ c.if-is_empty.false) in
    let some : 0 < length (digits_in_front text) = omega (arith, filled, ap length front) in
    let value = c.unwrap_or.ensures ∙ ap (λ o. unwrap_or o 18446744073709551615) (c.digits.ensures ∙ ap digits_of front)
    ∙ front_value text some in
    rw c.in-Some.is (value
    ∙ ap (λ (s : List ℕ). min (digits_value 10 (digits_in_front s)) 18446744073709551615) c.as_bytes.ensures.value)
