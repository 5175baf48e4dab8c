-- Lines of one name or value each, and of counts.
use Rattle.std.specs.Prelude.{ℕ, List, [], ◌∷◌, ◌++◌, codes, filter}
use Rattle.std.specs.List.{concat, flat_map}
use Rattle.idle_masks.specs.declared.subsystem.Subsystem.{Subsystem}
use Rattle.idle_masks.specs.Subsystem.{name_of as subsystem_name}
use Rattle.profile.specs.declared.profile.Profile.{Profile}
use Rattle.profile.specs.declared.profile.Profile.TheVariants.{Named, Wide}
use Rattle.song_files.specs.declared.tag.Tag.{Tag}
use Rattle.song_files.specs.Tag.{name_of}
use Rattle.command_text.specs.declared.name.CommandName.{CommandName}
use Rattle.command_text.specs.Names.{all_names, is_listed, name_text}
use Rattle.command_text.specs.Answer.{pair, number_pair}
use Rattle.command_text.specs.AnswerDates.{time_text}
use Rattle.command_text.specs.AnswerTimes.{whole_seconds}

abbrev pub directory_line : List ℕ → List ℕ
directory_line path = pair (codes "directory") path

-- the wide profile tells when a playlist was last changed; clients take the beginning of 1970 for unknown
abbrev pub list_time : Profile → ℕ → List ℕ
list_time Named seconds = []
list_time Wide seconds = pair (codes "Last-Modified") (time_text seconds)

abbrev pub playlist_lines : Profile → ℕ → List ℕ → List ℕ
playlist_lines profile seconds name = pair (codes "playlist") name ++ list_time profile seconds

-- `sticker: NAME=VALUE`
abbrev pub sticker_line : List ℕ → List ℕ → List ℕ
sticker_line name value = pair (codes "sticker") (name ++ (codes "=" ++ value))

-- `channel: NAME`
abbrev pub channel_line : List ℕ → List ℕ
channel_line name = pair (codes "channel") name

-- a message: its channel and its text
abbrev pub message_lines : List ℕ → List ℕ → List ℕ
message_lines channel text = channel_line channel ++ pair (codes "message") text

-- a value of a tag
abbrev pub value_line : Tag → List ℕ → List ℕ
value_line tag value = pair (name_of tag) value

abbrev pub tag_type_line : Tag → List ℕ
tag_type_line tag = pair (codes "tagtype") (name_of tag)

abbrev pub command_line : CommandName → List ℕ
command_line name = pair (codes "command") (name_text name)

-- a line for each command that is listed
abbrev pub listed_commands : Profile → List ℕ
listed_commands profile = flat_map command_line (filter (is_listed profile) all_names)

abbrev pub changed_line : Subsystem → List ℕ
changed_line subsystem = pair (codes "changed") (subsystem_name subsystem)

-- how many songs, and how long they play together
abbrev pub count_lines : ℕ → ℕ → List ℕ
count_lines songs milliseconds = number_pair (codes "songs") songs ++ pair (codes "playtime") (whole_seconds milliseconds)

-- how many artists, albums and songs the database has, and how long all its songs play together
abbrev pub database_lines : ℕ → ℕ → ℕ → ℕ → List ℕ
database_lines artists albums songs milliseconds = concat (
    number_pair (codes "artists") artists
    ∷ number_pair (codes "albums") albums
    ∷ number_pair (codes "songs") songs
    ∷ pair (codes "db_playtime") (whole_seconds milliseconds)
    ∷ [])

-- for how many seconds the daemon has run, and when its database was last updated
abbrev pub times_lines : ℕ → ℕ → List ℕ
times_lines uptime db_update = number_pair (codes "uptime") uptime ++ number_pair (codes "db_update") db_update
