use Rattle.std.proofs.Common.{List, refl, ap, ◌∙◌}
use Rattle.std.specs.List.{flat_map}
use Rattle.std.specs.Option.{option_copied}
use Rattle.command_text.specs.AnswerSongs.{file_line}
use Rattle.song_db.specs.Row.{Row}
use Rattle.machine_core.specs.Finding.{chosen}
use Rattle.machine_core.specs.State.{MachineState}
use Rattle.machine_core.proofs.Finding.Meanings.{files_mean}
use Rattle.machine_core.proofs.Finding.Writers.{finds, writes_same}
use Rattle.machine_core.proofs.machine.Machine.list_files.Goals as goal

pub returns : goal.returns
returns c =
    let m = c.args.self.now in
    let tree = option_copied c.args.filter in
    let songs = c.songs-songs.ensures ∙ ap (λ (n : MachineState). n.saved.songs) c.self.view_is in
    finds _ _ m _ c.args.work.now _ c.keep.new.self _ _ (files_mean m tree) c.len-mark.ensures refl refl
    (writes_same _ _ _ _ _ c.write_chosen_files-written.ensures
    (ap (λ (rows : List Row). flat_map (λ (row : Row). file_line row.uri) (chosen tree rows)) songs)) c.keep.ensures
