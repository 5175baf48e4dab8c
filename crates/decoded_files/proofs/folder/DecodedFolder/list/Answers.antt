use Rattle.decoded_files.specs.DecodedFiles.{told_by}
use Rattle.decoded_files.proofs.FolderFiles.{listed_too, no_file_too, stamped_too}
use Rattle.decoded_files.proofs.folder.DecodedFolder.list.Goals as goal

pub returns-clause-listed : goal.returns-clause-listed
returns-clause-listed g c = λ told. listed_too c.list.result (told_by g.D.Decoder.told c.args.self.now.decoder)
    (g.F.Folder.files c.args.self.now.folder) c.args.path.now (c.list.ensures.listed told.0)

pub returns-clause-no_file : goal.returns-clause-no_file
returns-clause-no_file g c = λ told. no_file_too c.list.result (told_by g.D.Decoder.told c.args.self.now.decoder)
    (g.F.Folder.files c.args.self.now.folder) c.args.path.now (c.list.ensures.no_file told.0)

pub returns-clause-stamps : goal.returns-clause-stamps
returns-clause-stamps g c = λ told. stamped_too c.list.result (told_by g.D.Decoder.told c.args.self.now.decoder)
    (g.F.Folder.files c.args.self.now.folder) c.args.path.now (c.list.ensures.stamps told.0)
