use Rattle.std.proofs.Common.{take, length, ap, arith}
use Rattle.song_db.specs.Query.{number_at}
use Rattle.std.proofs.lemmas.Grind.{common_steps}
use Rattle.std.proofs.lemmas.List.{length-take}
use Rattle.std.proofs.lemmas.List.Elements.{filter_map-append}
use Rattle.machine_core.proofs.Lists.Rows.{fewer}
use Rattle.machine_core.proofs.named.numbers_of.Goals as goal

pub row_numbers-requires : goal.row_numbers-requires
row_numbers-requires c =
    let uris = c.args.uris.now in
    let at = c.loop-uri in
    omega (arith, ap length at.invariant, fewer (number_at c.args.songs.now) (take at.uri-index uris), length-take at.uri-index uris)

pub loop-uri-preserved : goal.loop-uri-preserved
loop-uri-preserved c = grind (arith, common_steps, filter_map-append)
