use Rattle.std.proofs.Common.{ap, refl}
use Rattle.decoded_files.specs.DecodedFiles.{told_by}
use Rattle.decoded_files.proofs.FolderFiles.{plain_too, decoder_is, not_told}
use Rattle.decoded_files.proofs.folder.DecodedFolder.open.Goals as goal

pub returns-in-Some-clause-opened : goal.returns-in-Some-clause-opened
returns-in-Some-clause-opened g c = λ told.
    decoder_is c.open_by.result (g.D.Decoder.told c.in-Some.decoder) (told_by g.D.Decoder.told c.args.self.now.decoder)
    (g.F.Folder.files c.args.self.now.folder) c.args.path.now _ _ (ap (told_by g.D.Decoder.told) c.in-Some.is)
    (c.open_by.ensures.opened told.0 (rw c.in-Some.is at told.1))

pub returns-in-None-clause-opened : goal.returns-in-None-clause-opened
returns-in-None-clause-opened g c = λ told.
    plain_too c.open_plain.result (told_by g.D.Decoder.told c.args.self.now.decoder) (g.F.Folder.files c.args.self.now.folder) _
    c.args.path.now _ _ refl (λ b. not_told (told_by g.D.Decoder.told c.args.self.now.decoder) c.args.path.now b
    (ap (λ d. told_by g.D.Decoder.told d c.args.path.now) c.in-None.is)) (c.open_plain.ensures.opened told.0)
