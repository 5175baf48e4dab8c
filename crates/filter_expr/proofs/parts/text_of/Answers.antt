use Rattle.std.proofs.Common.{ap}
use Rattle.std.proofs.lemmas.Bool.{false≢true}
use Rattle.filter_expr.proofs.Texts.{read_utf8, not_utf8}
use Rattle.filter_expr.proofs.parts.text_of.Goals as goal

pub returns-in-Ok : goal.returns-in-Ok
returns-in-Ok c = read_utf8 c.in-Ok.text c.args.bytes.items (ap (λ v. v.items) c.in-Ok.ensures.ok)

pub returns : goal.returns
returns c = not_utf8 c.args.bytes.items (λ h. false≢true (c.in-Err.ensures.succeeds h))
