use Rattle.std.proofs.Common.{◌≡◌, Bool, false, true, not, ◌∙◌, length, refl, sym, ap, arith}
use Rattle.std.proofs.lemmas.Bool.{false≢true}
use Rattle.std.specs.Str.{bytes_eq}
use Rattle.state_codec.proofs.ReplaceLaws.{same_all, same_not}
use Rattle.machine_core.proofs.Lists.Same.{differ_there}
use Rattle.machine_core.proofs.commands.lists.moving.are_same.Goals as goal

turned : (b : Bool) → not b ≡ true → b ≡ false
turned true is = absurd (false≢true is)
turned false is = refl

-- runs of different lengths
pub returns-then-one-other : goal.returns-then-one-other
returns-then-one-other c = sym (same_not c.args.one.now c.args.other.now (λ same. omega (arith, ap length same)))

-- other songs at one place
pub returns-then-ne : goal.returns-then-ne
returns-then-ne c =
    let x = c.index-one-at.result in
    let y = c.index-other-at.result in
    let apart : bytes_eq x y ≡ false =
    turned (bytes_eq x y)
    ((λ i. not (bytes_eq (sym c.as_str.ensures.text i) (sym c.as_str-in-loop-at.ensures.text i))) ∙ sym c.ne.ensures ∙ c.if-ne.true) in
    sym (differ_there c.args.one.now c.args.other.now c.loop-at.at x y (omega arith) (omega arith) c.index-one-at.is c.index-other-at.is apart)

-- all places
pub returns : goal.returns
returns c = sym (same_all c.args.one.now c.args.other.now (omega arith) (λ k within. c.loop-at.invariant k (omega arith)))
