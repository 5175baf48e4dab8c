use Rattle.std.proofs.Common.{subst, arith}
use Rattle.state_codec.specs.declared.layout.Layout.{Layout}
use Rattle.state_codec.specs.Answers.{GivesSaved}
use Rattle.state_codec.specs.Layout.{layout_of}
use Rattle.state_codec.specs.Reading.{saved_reading_in}
use Rattle.state_codec.proofs.SavedLaws.{form_of, snapshot_found, snapshot_in, snapshot_only}
use Rattle.state_codec.proofs.reading.take_saved.Goals as goal

pub returns-clause-found : goal.returns-clause-found
returns-clause-found c =
    snapshot_found c.layout_of.result c.layout_of.ensures.form c.args.bytes.now c.only_saved.result
    (λ i. omega (arith, c.type_inv.bytes i))
    c.only_saved.ensures

pub returns-clause-within : goal.returns-clause-within
returns-clause-within c =
    snapshot_in (layout_of c.args.layout) (form_of c.args.layout) c.args.bytes.now c.only_saved.result
    (λ i. omega (arith, c.type_inv.bytes i))
    (subst (λ (l : Layout). GivesSaved c.only_saved.result (saved_reading_in l c.args.bytes.now)) c.layout_of.ensures.value
    c.only_saved.ensures)

pub returns-clause-only : goal.returns-clause-only
returns-clause-only c = λ s fits within e. snapshot_only (layout_of c.args.layout) (form_of c.args.layout) c.args.bytes.now
    c.only_saved.result s fits within e
    (subst (λ (l : Layout). GivesSaved c.only_saved.result (saved_reading_in l c.args.bytes.now)) c.layout_of.ensures.value
    c.only_saved.ensures)

pub returns-clause-exact : goal.returns-clause-exact
returns-clause-exact c =
    subst (λ (l : Layout). GivesSaved c.only_saved.result (saved_reading_in l c.args.bytes.now)) c.layout_of.ensures.value
    c.only_saved.ensures
