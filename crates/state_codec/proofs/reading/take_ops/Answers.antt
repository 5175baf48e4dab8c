use Rattle.std.proofs.Common.{subst, arith}
use Rattle.state_codec.specs.declared.layout.Layout.{Layout}
use Rattle.state_codec.specs.Answers.{GivesOps}
use Rattle.state_codec.specs.Layout.{layout_of}
use Rattle.state_codec.specs.Reading.{ops_reading_in}
use Rattle.state_codec.proofs.BodyLaws.{body_found, body_in, body_only}
use Rattle.state_codec.proofs.reading.take_ops.Goals as goal

pub returns-clause-found : goal.returns-clause-found
returns-clause-found c =
    body_found (layout_of c.args.layout) c.args.bytes.now c.all_ops.result (λ i. omega (arith, c.type_inv.bytes i))
    (subst (λ (l : Layout). GivesOps c.all_ops.result (ops_reading_in l c.args.bytes.now)) c.layout_of.ensures.value c.all_ops.ensures)

pub returns-clause-within : goal.returns-clause-within
returns-clause-within c =
    body_in (layout_of c.args.layout) c.args.bytes.now c.all_ops.result (λ i. omega (arith, c.type_inv.bytes i))
    (subst (λ (l : Layout). GivesOps c.all_ops.result (ops_reading_in l c.args.bytes.now)) c.layout_of.ensures.value c.all_ops.ensures)

pub returns-clause-only : goal.returns-clause-only
returns-clause-only c = λ ops fits within e. body_only (layout_of c.args.layout) c.args.bytes.now c.all_ops.result ops fits within e
    (subst (λ (l : Layout). GivesOps c.all_ops.result (ops_reading_in l c.args.bytes.now)) c.layout_of.ensures.value c.all_ops.ensures)

pub returns-clause-exact : goal.returns-clause-exact
returns-clause-exact c =
    subst (λ (l : Layout). GivesOps c.all_ops.result (ops_reading_in l c.args.bytes.now)) c.layout_of.ensures.value c.all_ops.ensures
