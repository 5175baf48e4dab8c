use Rattle.live_stage.proofs.GroupLaws.{looks_within}
use Rattle.stage_workers.proofs.shared.SharedStage.serve_group.Goals as goal

pub returns-in-Ok-clause-looks : goal.returns-in-Ok-clause-looks
returns-in-Ok-clause-looks g c =
    looks_within _ c.args.events.items c.in-Ok.group.turns.items c.in-Ok.group.is_refused c.in-Ok.group.rest.items c.in-Ok.ensures.events
