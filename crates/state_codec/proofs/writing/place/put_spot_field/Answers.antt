use Rattle.std.proofs.Common.{List, ℕ, length, refl, sym, subst, ◌∙◌, arith}
use Rattle.std.proofs.lemmas.List.{append-nil}
use Rattle.state_codec.specs.Appended.{Appends}
use Rattle.state_codec.proofs.PlaceFields.{spot_in, spot_in_len, spot_out}
use Rattle.state_codec.proofs.writing.place.put_spot_field.Goals as goal

pub returns-then-has_no_spot : goal.returns-then-has_no_spot
returns-then-has_no_spot c =
    let none = spot_out c.args.place.now (sym c.has_no_spot.ensures ∙ c.if-has_no_spot.true) in
    subst (λ (l : List ℕ). Appends c.args.out.now c.args.out.now l) (sym none)
    (record { items = sym (append-nil c.args.out.now.items); capacity = refl })

pub put_told_spot-requires : goal.put_told_spot-requires
put_told_spot-requires c =
    omega (arith, c.requires, spot_in_len c.args.place.now (sym c.has_no_spot.ensures ∙ c.if-has_no_spot.false))

pub returns : goal.returns
returns c =
    let told = spot_in c.args.place.now (sym c.has_no_spot.ensures ∙ c.if-has_no_spot.false) in
    subst (λ (l : List ℕ). Appends c.args.out.now c.put_told_spot.new.out l) (sym told) c.put_told_spot.ensures
