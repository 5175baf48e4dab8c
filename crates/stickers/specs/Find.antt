-- What `find` gives: the songs below a place that have a sticker of the name whose value passes a test.
use Rattle.std.specs.Prelude.{ℕ, Bool, true, ◌&&◌, List, filter, map, Option, Some, None, if◌then◌else◌}
use Rattle.std.specs.Ordering.{nat_cmp, is_lt, is_gt}
use Rattle.std.specs.Cmp.Lexicographic.{slice_cmp}
use Rattle.std.specs.Str.{bytes_eq}
use Rattle.song_db.specs.Place.{is_under}
use Rattle.song_db.specs.declared.place.Place.{Place}
use Rattle.stickers.specs.declared.find.ValueTest.{ValueTest}
use Rattle.stickers.specs.declared.find.ValueTest.TheVariants.{Any, Equal, Less, Greater}
use Rattle.stickers.specs.declared.find.FoundSticker.{FoundSticker}
use Rattle.stickers.specs.Sticker.{Sticker}

-- the value passes the test
abbrev pub passes : ValueTest → List ℕ → Bool
passes Any value = true
passes (Equal bound) value = bytes_eq value bound.now
passes (Less bound) value = is_lt (slice_cmp nat_cmp value bound.now)
passes (Greater bound) value = is_gt (slice_cmp nat_cmp value bound.now)

-- the sticker is one of those
abbrev pub is_found : Place → List ℕ → ValueTest → Sticker → Bool
is_found place name test s = is_under place s.uri && (bytes_eq name s.name && passes test s.value)

-- the song of a sticker with the value
abbrev pub uri_and_value : Sticker → List ℕ × List ℕ
uri_and_value s = (s.uri, s.value)

-- the songs with their values
abbrev pub found_in : List Sticker → Place → List ℕ → ValueTest → List (List ℕ × List ℕ)
found_in all place name test = map uri_and_value (filter (is_found place name test) all)

-- a song that was found, as bytes
abbrev pub pair_of : FoundSticker → List ℕ × List ℕ
pair_of f = (f.uri.now, f.value.now)

-- the value, where there is one and it passes the test
abbrev pub passing : ValueTest → Option (List ℕ) → Option (List ℕ)
passing test None = None
passing test (Some value) = if passes test value then Some value else None
