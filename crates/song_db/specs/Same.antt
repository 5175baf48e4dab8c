-- When two rows are the same.
use Rattle.std.specs.Prelude.{Bool, true, false, ◌==◌, ◌&&◌, List, [], ◌∷◌, Option, Some, None}
use Rattle.std.specs.Str.{bytes_eq}
use Rattle.song_files.specs.Tag.{is_tag}
use Rattle.song_files.specs.Tags.{TagText}
use Rattle.song_files.specs.declared.folder.FileStamp.{FileStamp}
use Rattle.song_db.specs.Row.{Row}

-- the same texts of the same tags, in the same order
abbrev pub same_tags : List TagText → List TagText → Bool
same_tags [] [] = true
same_tags [] (b ∷ bs) = false
same_tags (a ∷ more) [] = false
same_tags (a ∷ more) (b ∷ bs) = is_tag a.tag b.tag && (bytes_eq a.text b.text && same_tags more bs)

-- both have none, or both have it
abbrev pub same_stamp : Option FileStamp → Option FileStamp → Bool
same_stamp None None = true
same_stamp None (Some b) = false
same_stamp (Some a) None = false
same_stamp (Some a) (Some b) = a.modified == b.modified && a.length == b.length

-- all that the rows say is the same
abbrev pub same_row : Row → Row → Bool
same_row a b = bytes_eq a.uri b.uri && (a.rate == b.rate && (a.channels == b.channels && (a.first_byte == b.first_byte && (a.frames
    == b.frames && (same_tags a.tags b.tags && same_stamp a.stamp b.stamp)))))
