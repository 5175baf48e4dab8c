use Rattle.std.proofs.Common.{sym, ◌∙◌}
use Rattle.command_text.specs.Names.{all_names}
use Rattle.command_text.proofs.Naming.{itself, part_at}
use Rattle.command_text.proofs.table.name_at.Goals as goal

pub returns : goal.returns
returns c = λ d.
    part_at c.rows.result.now (λ row. row.0) (λ name. name) c.args.place _ d (c.rows.ensures.names ∙ sym (itself all_names)) c.requires
