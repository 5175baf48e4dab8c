use Rattle.std.proofs.Common.{ap, sym, ◌∙◌, arith}
use Rattle.song_files.specs.Folder.{File}
use Rattle.song_files.proofs.FolderFiles.{found, passed}
use Rattle.song_files.proofs.memory_folder.MemFolder.file_at.Goals as goal

pub loop-file-preserved : goal.loop-file-preserved
loop-file-preserved c = passed c.deref-file-items.result.now c.loop-file.file-index c.file-item.result c.args.path.now
    c.as_str.result.now (omega arith) c.file-item.is (c.as_str.ensures.value
    ∙ ap (λ (f : File). f.path) c.file.view_is) c.if-eq.ensures c.loop-file.invariant

pub returns-then-eq : goal.returns-then-eq
returns-then-eq c =
    sym (rw (c.deref-file-items.ensures.value, c.self.view_is) at (found c.deref-file-items.result.now c.loop-file.file-index
    c.file-item.result c.args.path.now c.as_str.result.now (omega arith) c.file-item.is (c.as_str.ensures.value
    ∙ ap (λ (f : File). f.path) c.file.view_is) c.if-eq.ensures c.loop-file.invariant))
