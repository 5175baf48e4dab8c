-- The tags whose texts stand in for those of a tag that a song hasn't, as MPD 0.23 has them.
use Rattle.std.specs.Prelude.{Bool, false, true, List, [], ◌∷◌, is_some, if◌then◌else◌}
use Rattle.song_files.specs.Tags.{TagText, first_text}
use Rattle.song_files.specs.declared.tag.Tag.{Tag}
use Rattle.song_files.specs.declared.tag.Tag.TheVariants.{Artist, Album, ArtistSort, AlbumSort, AlbumArtist, AlbumArtistSort}

-- one after the other
abbrev pub fallbacks : Tag → List Tag
fallbacks ArtistSort = Artist ∷ []
fallbacks AlbumSort = Album ∷ []
fallbacks AlbumArtist = Artist ∷ []
fallbacks AlbumArtistSort = AlbumArtist ∷ Artist ∷ []
fallbacks tag = []

-- this tag where there is a text of it, or else the first of the others of which there is one, or the last
abbrev pub told_by : List TagText → Tag → List Tag → Tag
told_by tags tag [] = tag
told_by tags tag (other ∷ others) = if is_some (first_text tags tag) then tag else told_by tags other others

-- the tag whose texts are told for a tag
abbrev pub told_tag : List TagText → Tag → Tag
told_tag tags tag = told_by tags tag (fallbacks tag)

abbrev pub is_some_tag : List Tag → Bool
is_some_tag [] = false
is_some_tag (tag ∷ tags) = true

abbrev pub has_fallback : Tag → Bool
has_fallback tag = is_some_tag (fallbacks tag)
