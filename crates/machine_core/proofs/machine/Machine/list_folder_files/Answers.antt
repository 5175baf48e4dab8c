use Rattle.std.proofs.Common.{ap, sym, ◌∙◌}
use Rattle.machine_core.specs.Database.{files_in}
use Rattle.machine_core.specs.Meaning.{answers}
use Rattle.machine_core.proofs.Answering.{also}
use Rattle.machine_core.proofs.Database.Meanings.{same_files_in}
use Rattle.machine_core.proofs.machine.Machine.list_folder_files.Goals as goal

pub returns : goal.returns
returns c =
    let m = c.args.self.now in
    also _ _ _ _ _ _ _
    (ap (λ lines. answers lines m) (same_files_in c.args.path m.saved.songs ∙ ap (files_in m.saved.songs) (sym c.read.ensures)))
    c.list_names_in.ensures
