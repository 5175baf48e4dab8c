use Rattle.std.proofs.Common.{sym, ◌∙◌}
use Rattle.std.proofs.lemmas.Result.{IfOk-weaker}
use Rattle.decoded_files.specs.DecodedFiles.{told_by}
use Rattle.decoded_files.proofs.FolderFiles.{stamp_at-decoded}
use Rattle.decoded_files.proofs.folder.DecodedFolder.look.Goals as goal

pub returns-clause-stamp : goal.returns-clause-stamp
returns-clause-stamp g c = λ told. IfOk-weaker c.look.result _ _ (λ stamp h. h ∙ sym (stamp_at-decoded
    (told_by g.D.Decoder.told c.args.self.now.decoder) (g.F.Folder.files c.args.self.now.folder) c.args.path.now)) (c.look.ensures.stamp told.0)
