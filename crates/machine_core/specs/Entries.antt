-- The lines of the queue's entries, as several commands show them.
use Rattle.std.specs.Prelude.{ℕ, List, [], Option, Some, None, slice_get}
use Rattle.command_text.specs.AnswerSongs.{entry_lines, numbered_file, place_lines}
use Rattle.command_text.specs.declared.tag_mask.TagMask.{TagMask}
use Rattle.play_queue.specs.declared.entry.Entry.{Entry}
use Rattle.song_db.specs.Row.{Row, row_at}
use Rattle.state_codec.specs.SavedState.{SavedState}

-- an entry at a position, whose song has this row; each entry of a saved state has one
abbrev pub row_info : TagMask → ℕ → Entry → Option Row → List ℕ
row_info mask position entry None = []
row_info mask position entry (Some row) = entry_lines mask row position entry

abbrev pub entry_info : TagMask → List Row → ℕ → Entry → List ℕ
entry_info mask songs position entry = row_info mask position entry (row_at songs entry.uri)

-- the entry at a position, if one stands there
abbrev pub found_info : TagMask → List Row → ℕ → Option Entry → List ℕ
found_info mask songs position None = []
found_info mask songs position (Some entry) = entry_info mask songs position entry

abbrev pub position_info : TagMask → SavedState → ℕ → List ℕ
position_info mask s position = found_info mask s.songs position (slice_get s.queue.entries position)

abbrev pub shown_info : TagMask → SavedState → Option ℕ → List ℕ
shown_info mask s None = []
shown_info mask s (Some position) = position_info mask s position

-- its file alone, numbered
abbrev pub found_file : ℕ → Option Entry → List ℕ
found_file position None = []
found_file position (Some entry) = numbered_file position entry.uri

abbrev pub file_info : List Entry → ℕ → List ℕ
file_info entries position = found_file position (slice_get entries position)

-- the same by position and id alone
abbrev pub found_place : ℕ → Option Entry → List ℕ
found_place position None = []
found_place position (Some entry) = place_lines position entry.id

abbrev pub place_info : List Entry → ℕ → List ℕ
place_info entries position = found_place position (slice_get entries position)
