-- The order in which a profile tells songs: by the bytes of their URIs, or folder by folder.
use Rattle.std.specs.Prelude.{List, filter}
use Rattle.profile.specs.declared.profile.Profile.{Profile}
use Rattle.profile.specs.declared.profile.Profile.TheVariants.{Named, Wide}
use Rattle.song_db.specs.Place.{is_under}
use Rattle.song_db.specs.Row.{Row}
use Rattle.song_db.specs.Told.{told_order}
use Rattle.song_db.specs.ToldWalk.{told_walk}
use Rattle.song_db.specs.Walk.{Item, walk_of}
use Rattle.song_db.specs.declared.place.Place.{Place}

abbrev pub rows_told : Profile → List Row → List Row
rows_told Named songs = songs
rows_told Wide songs = told_order songs

-- those under a place
abbrev pub told_in : Profile → List Row → Place → List Row
told_in profile songs place = filter (λ (row : Row). is_under place row.uri) (rows_told profile songs)

-- all folders and songs below a place: together by the bytes of their paths, or the songs of a folder before the folders in it
abbrev pub walk_in : Profile → List Row → Place → List Item
walk_in Named songs place = walk_of songs place
walk_in Wide songs place = told_walk songs place
