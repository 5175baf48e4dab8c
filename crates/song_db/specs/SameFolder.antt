-- What a step of the reading of a scan does to the folder.
use Rattle.std.specs.Prelude.{◌≡◌, List}
use Rattle.song_files.specs.Folder.{File}

-- a folder behind its calls: an honest one is honest still, with the same files, and a steady one is steady still
pub record IsSameFolder {F : Type 0} (honest steady : F → Type 0) (files : F → List File) (before after : F) : Type 0 where
  pub honesty : honest before → honest after
  pub same_files : honest before → files after ≡ files before
  pub steadiness : steady before → steady after
