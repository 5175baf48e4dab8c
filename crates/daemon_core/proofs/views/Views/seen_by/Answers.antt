use Rattle.std.proofs.Common.{ap, ◌∙◌}
use Rattle.daemon_core.specs.Seen.{view_or_fresh}
use Rattle.daemon_core.proofs.views.Views.seen_by.Goals as goal

pub returns-in-Some : goal.returns-in-Some
returns-in-Some c = ap view_or_fresh c.in-Some.ensures

pub returns-in-None : goal.returns-in-None
returns-in-None c = c.fresh.ensures ∙ ap view_or_fresh c.in-None.ensures
