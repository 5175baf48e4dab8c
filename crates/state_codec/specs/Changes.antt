-- The changes of one batch.
use Rattle.std.specs.Prelude.{ℕ, ◌<◌, ◌^◌, Bool, true, ◌&&◌, nat_le, List, length, IfSome, IsTrue}
use Rattle.std.specs.List.{All, list_all}
use Rattle.profile.specs.declared.profile.Profile.{Profile}
use Rattle.song_files.specs.Tags.{AreTags}
use Rattle.song_files.specs.declared.folder.FileStamp.{FileStamp}
use Rattle.song_db.specs.declared.change.RowChange.{RowChange}
use Rattle.song_db.specs.declared.change.RowChange.TheVariants.{Put, Drop}
use Rattle.song_db.specs.Limits.{MAX_CHANGES}
use Rattle.song_db.specs.Row.{Row, is_row, is_kept_by}
use Rattle.song_db.specs.Uri.{is_uri}

-- 1 to 64
abbrev pub is_count : ℕ → Bool
is_count n = nat_le 1 n && nat_le n MAX_CHANGES

-- numbers of 64 bits
pub record IsSavedStamp (stamp : FileStamp) : Type 0 where
  pub modified : stamp.modified < 2 ^ 64
  pub length : stamp.length < 2 ^ 64

-- what every row of the program keeps
pub record IsSavedRow (row : Row) : Type 0 where
  pub form : IsTrue (is_row row)
  pub first_byte : row.first_byte < 2 ^ 64
  pub frames : row.frames < 2 ^ 64
  pub tags : AreTags row.tags
  pub stamp : IfSome row.stamp IsSavedStamp

abbrev pub IsChange : RowChange → Type 0
IsChange (Put row) = IsSavedRow row
IsChange (Drop uri) = IsTrue (is_uri uri)

pub record AreChanges (changes : List RowChange) : Type 0 where
  pub count : IsTrue (is_count (length changes))
  pub each : All IsChange changes

-- a row that is put is one that the profile keeps
abbrev pub is_kept_change : Profile → RowChange → Bool
is_kept_change profile (Put row) = is_kept_by profile row
is_kept_change profile (Drop uri) = true

abbrev pub are_kept : Profile → List RowChange → Bool
are_kept profile changes = list_all (is_kept_change profile) changes
