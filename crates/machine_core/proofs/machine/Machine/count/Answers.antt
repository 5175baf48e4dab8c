use Rattle.std.proofs.Common.{List, refl, ap, ◌∙◌, length}
use Rattle.command_text.specs.AnswerNames.{count_lines}
use Rattle.command_text.proofs.Adding.{adds_same}
use Rattle.filter_expr.specs.declared.case.Case.TheVariants.{Exact}
use Rattle.song_db.specs.Duration.{total_of}
use Rattle.song_db.specs.Row.{Row}
use Rattle.machine_core.specs.Finding.{matching}
use Rattle.machine_core.specs.State.{MachineState}
use Rattle.machine_core.proofs.Answering.{reads}
use Rattle.machine_core.proofs.Finding.Meanings.{count_means}
use Rattle.machine_core.proofs.machine.Machine.count.Goals as goal

pub returns : goal.returns
returns c =
    let m = c.args.self.now in
    let tree = c.args.filter.now in
    let songs = c.songs-database.ensures ∙ ap (λ (n : MachineState). n.saved.songs) c.self.view_is in
    reads _ _ m m _ c.args.work.now _ c.keep.new.self _ _ (count_means m tree) refl c.len-mark.ensures refl refl
    (adds_same _ _ _ _ _ c.write_counts-written.ensures
    ((λ i. count_lines (c.in_ok-songs.ensures.songs i) (c.in_ok-songs.ensures.time i))
    ∙ ap (λ (songs : List Row). count_lines (length (matching Exact tree songs)) (total_of (matching Exact tree songs))) songs))
    c.keep.ensures
