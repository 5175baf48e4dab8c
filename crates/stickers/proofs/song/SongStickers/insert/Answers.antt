use Rattle.std.proofs.Common.{◌∙◌, ap, string_bytes}
use Rattle.stickers.specs.Named.{with_name}
use Rattle.stickers.specs.ByName.{by_name}
use Rattle.stickers.proofs.ByName.{insert_entry-by_name, sorted-by_name}
use Rattle.stickers.proofs.song.SongStickers.insert.Goals as goal

pub returns-clause-ok : goal.returns-clause-ok
returns-clause-ok c = ap by_name c.in_ok-insert.ensures.entries ∙ insert_entry-by_name c.self.inside.values.entries c.args.name c.args.value
    ∙ ap (λ named. with_name named (string_bytes c.args.name) c.args.value) c.self.view_is

pub invariant_of-self-2 : goal.invariant_of-self-2
invariant_of-self-2 c = sorted-by_name _ c.in_ok-insert.ensures.ordered
