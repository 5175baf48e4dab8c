use Rattle.std.proofs.Common.{sym, ◌∙◌}
use Rattle.std.proofs.lemmas.Result.{IfOk-weaker}
use Rattle.as_wave.proofs.WaveFiles.{stamp_at-waves_of}
use Rattle.as_wave.proofs.folder.AsWaveFolder.look.Goals as goal

pub returns-clause-stamp : goal.returns-clause-stamp
returns-clause-stamp g c = λ told. IfOk-weaker c.look.result _ _ (λ stamp h. h ∙ sym (stamp_at-waves_of c.args.self.now.forms
    (g.F.Folder.files c.args.self.now.folder) c.args.path.now)) (c.look.ensures.stamp told)
