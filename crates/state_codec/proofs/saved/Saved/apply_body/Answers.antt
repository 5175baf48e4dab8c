use Rattle.std.proofs.Common.{subst}
use Rattle.state_codec.specs.declared.layout.Layout.{Layout}
use Rattle.state_codec.specs.Body.{GivesBody, body_applied_in}
use Rattle.state_codec.specs.Layout.{layout_of}
use Rattle.state_codec.proofs.ApplyLaws.{spelled}
use Rattle.state_codec.proofs.saved.Saved.apply_body.Goals as goal

pub returns-clause-exact : goal.returns-clause-exact
returns-clause-exact c =
    subst (λ (l : Layout). GivesBody c.apply_all.result c.apply_all.new.self (body_applied_in l c.args.body.now c.args.self.now))
    c.layout_of.ensures.value c.apply_all.ensures

pub returns-clause-ops : goal.returns-clause-ops
returns-clause-ops c = λ ops e. subst (GivesBody c.apply_all.result c.apply_all.new.self)
    (spelled (layout_of c.args.layout) c.args.body.now c.args.self.now ops e)
    (subst (λ (l : Layout). GivesBody c.apply_all.result c.apply_all.new.self (body_applied_in l c.args.body.now c.args.self.now))
    c.layout_of.ensures.value c.apply_all.ensures)
