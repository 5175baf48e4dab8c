-- The songs that ops name by the numbers of their rows.
use Rattle.std.specs.Prelude.{ℕ, Bool, nat_lt, List, length, Option, Some, option_map, slice_get, if◌then◌else◌}
use Rattle.std.specs.List.{list_all, filter_map}
use Rattle.play_queue.specs.Entries.{Uris}
use Rattle.song_db.specs.Row.{Row, row_uri}
use Rattle.song_db.specs.declared.refusal.SongDbError.TheVariants.{NoSuchUri}
use Rattle.state_codec.specs.declared.refusal.OpRefusal.{OpRefusal}
use Rattle.state_codec.specs.declared.refusal.OpRefusal.TheVariants.{Songs}

-- each number is that of a row
abbrev pub have_rows : List Row → List ℕ → Bool
have_rows songs numbers = list_all (λ number. nat_lt number (length songs)) numbers

-- the URI of the row of a number
abbrev pub uri_at : List Row → ℕ → Option (List ℕ)
uri_at songs number = option_map row_uri (slice_get songs number)

-- the URIs of the rows of these numbers
abbrev pub uris_at : List Row → List ℕ → Uris
uris_at songs numbers = filter_map (uri_at songs) numbers

-- refused where what is named has no row, or else as it is otherwise
abbrev pub if_named : Bool → Option OpRefusal → Option OpRefusal
if_named named refusal = if named then refusal else Some (Songs NoSuchUri)
