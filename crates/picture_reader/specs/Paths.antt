-- Which paths may be looked at.
use Rattle.std.specs.Prelude.{ℕ, Bool, ◌||◌, List}
use Rattle.song_db.specs.Uri.{is_uri}
use Rattle.covers.specs.declared.kind.PictureKind.{PictureKind}
use Rattle.covers.specs.declared.kind.PictureKind.TheVariants.{Album, Inside}
use Rattle.picture_reader.specs.Pictures.{folder_of}

-- a URI; of an album's picture also what stands in a folder that has one, under any name or none
abbrev pub is_path : PictureKind → List ℕ → Bool
is_path Album uri = is_uri uri || is_uri (folder_of uri)
is_path Inside uri = is_uri uri
