-- The lines of a song, and of an entry of the queue.
use Rattle.std.specs.Prelude.{ℕ, ◌==◌, List, [], ◌∷◌, ◌++◌, codes, Option, Some, None, if◌then◌else◌}
use Rattle.std.specs.List.{concat, flat_map}
use Rattle.std.specs.Fmt.{decimal}
use Rattle.filter_expr.specs.Times.{known_time}
use Rattle.play_queue.specs.declared.entry.Entry.{Entry}
use Rattle.song_db.specs.Row.{Row}
use Rattle.song_db.specs.Duration.{milliseconds}
use Rattle.song_files.specs.Tag.{name_of}
use Rattle.song_files.specs.declared.folder.FileStamp.{FileStamp}
use Rattle.song_files.specs.Tags.{TagText}
use Rattle.command_text.specs.Answer.{line, pair, number_pair}
use Rattle.command_text.specs.AnswerDates.{time_text}
use Rattle.command_text.specs.AnswerTimes.{whole_seconds, exact_seconds}
use Rattle.command_text.specs.Masks.{has}
use Rattle.command_text.specs.declared.tag_mask.TagMask.{TagMask}

abbrev pub file_line : List ℕ → List ℕ
file_line uri = pair (codes "file") uri

-- when the song's file was changed last, where that is known
abbrev pub modified_line : Option ℕ → List ℕ
modified_line None = []
modified_line (Some time) = pair (codes "Last-Modified") (time_text time)

-- how many bytes the song's file has, where that is known
abbrev pub size_line : Option FileStamp → List ℕ
size_line None = []
size_line (Some stamp) = number_pair (codes "size") stamp.length

-- a song's file by its name in its folder
abbrev pub named_file_lines : List ℕ → Row → List ℕ
named_file_lines name row = file_line name ++ (size_line row.stamp ++ modified_line (known_time row.stamp))

abbrev pub head_lines : Row → List ℕ
head_lines row = file_line row.uri ++ modified_line (known_time row.stamp)

-- `RATE:16:CHANNELS`, the rate in frames a second
abbrev pub format_text : ℕ → ℕ → List ℕ
format_text rate channels = decimal rate ++ (codes ":16:" ++ decimal channels)

-- a text of a tag
abbrev pub tag_line : TagText → List ℕ
tag_line text = pair (name_of text.tag) text.text

-- the same where the client sees the tag
abbrev pub shown_line : TagMask → TagText → List ℕ
shown_line mask text = if has mask text.tag then tag_line text else []

-- a line for each text of each tag that the client sees, in their order
abbrev pub tag_lines : TagMask → List TagText → List ℕ
tag_lines mask texts = flat_map (shown_line mask) texts

abbrev pub song_lines : TagMask → Row → List ℕ
song_lines mask row = concat (
    head_lines row
    ∷ pair (codes "Format") (format_text row.rate row.channels)
    ∷ tag_lines mask row.tags
    ∷ pair (codes "Time") (whole_seconds (milliseconds row))
    ∷ pair (codes "duration") (exact_seconds (milliseconds row))
    ∷ [])

-- the priority is shown where it isn't 0
abbrev pub priority_line : ℕ → List ℕ
priority_line priority = if priority == 0 then [] else number_pair (codes "Prio") priority

-- the entry at a position, and its song
abbrev pub entry_lines : TagMask → Row → ℕ → Entry → List ℕ
entry_lines mask row position entry = concat (
    song_lines mask row
    ∷ number_pair (codes "Pos") position
    ∷ number_pair (codes "Id") entry.id
    ∷ priority_line entry.priority
    ∷ [])

-- the same as `plchangesposid` shows it
abbrev pub place_lines : ℕ → ℕ → List ℕ
place_lines position id = number_pair (codes "cpos") position ++ number_pair (codes "Id") id

-- an entry at a position as `playlist` shows it
abbrev pub numbered_file : ℕ → List ℕ → List ℕ
numbered_file position uri = line (decimal position ++ (codes ":file: " ++ uri))

-- what `addid` answers
abbrev pub id_line : ℕ → List ℕ
id_line id = number_pair (codes "Id") id
