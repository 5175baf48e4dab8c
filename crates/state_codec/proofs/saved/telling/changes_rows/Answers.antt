use Rattle.std.proofs.Common.{sym, ◌∙◌}
use Rattle.state_codec.proofs.Unchanged.{any_at_once}
use Rattle.state_codec.proofs.saved.telling.changes_rows.Goals as goal

pub returns : goal.returns
returns c = c.some_would_change.ensures ∙ sym (any_at_once c.args.songs.now c.args.changes.now c.len-rows.ensures.within)
