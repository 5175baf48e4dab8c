-- The commands of the database and its scans.
use Rattle.std.specs.Prelude.{ℕ, suc, ◌+◌, List, [], ◌∷◌, ◌++◌, ◌==◌, Bool, true, false, not, nat_lt, length, drop, Option, Some, None}
use Rattle.std.specs.Prelude.{Result, Ok, Err}
use Rattle.std.specs.Prelude.{flat_map, unwrap_or, if◌then◌else◌}
use Rattle.command_text.specs.AnswerNames.{listed_commands, tag_type_line, directory_line, database_lines, times_lines}
use Rattle.command_text.specs.AnswerSongs.{file_line, named_file_lines, song_lines}
use Rattle.command_text.specs.AnswerStatus.{job_line}
use Rattle.command_text.specs.declared.command.database.DatabaseCommand.{DatabaseCommand}
use Rattle.command_text.specs.declared.command.database.DatabaseCommand.TheVariants as commands
use Rattle.command_text.specs.declared.refusal.CommandRefusal.{CommandRefusal}
use Rattle.command_text.specs.declared.refusal.CommandRefusal.TheVariants.{AlreadyUpdating, NoSuchUri, UpdatesFull}
use Rattle.command_text.specs.Masks.{has}
use Rattle.command_text.specs.declared.tag_mask.TagMask.{TagMask}
use Rattle.profile.specs.Profile.{tags_of}
use Rattle.profile.specs.declared.profile.Profile.{Profile}
use Rattle.profile.specs.declared.profile.Profile.TheVariants.{Named, Wide}
use Rattle.song_db.specs.Duration.{total_of}
use Rattle.song_db.specs.Place.{place_of}
use Rattle.song_db.specs.Query.{is_folder, folders_in, songs_in, values_of}
use Rattle.song_db.specs.Row.{Row, row_at}
use Rattle.song_db.specs.Told.{told_under}
use Rattle.song_db.specs.ToldWalk.{told_folders_in, told_songs_in}
use Rattle.song_db.specs.Walk.{Item, FolderAt, SongOf}
use Rattle.song_db.specs.declared.place.Place.{Place}
use Rattle.song_db.specs.declared.place.Place.TheVariants.{Root, At}
use Rattle.state_codec.specs.SavedState.{SavedState}
use Rattle.state_codec.specs.Steps.{◌>>=◌}
use Rattle.song_files.specs.TagSet.{tags_in}
use Rattle.stored_lists.specs.Lists.{Stored}
use Rattle.stored_lists.specs.Times.{Times}
use Rattle.song_files.specs.declared.tag.Tag.{Tag}
use Rattle.song_files.specs.declared.tag.Tag.TheVariants.{Artist, Album}
use Rattle.machine_core.specs.Lent.{lent}
use Rattle.machine_core.specs.Lists.{name_lines}
use Rattle.machine_core.specs.Meaning.{Meant, must, says, answers, begins, waits}
use Rattle.machine_core.specs.Ordered.{walk_in}
use Rattle.machine_core.specs.State.{MachineState}
use Rattle.machine_core.specs.declared.answer_database.Detail.{Detail}
use Rattle.machine_core.specs.declared.answer_database.Detail.TheVariants.{Paths, Songs}
use Rattle.machine_core.specs.declared.job.Job.{Job}
use Rattle.machine_core.specs.declared.job.WaitingJob.{WaitingJob}

-- the folders and the songs right in a place, by their bytes; or the songs and then the folders, as they are told
abbrev pub content_lines : TagMask → Profile → List Row → Place → List ℕ
content_lines mask Named songs place =
    flat_map directory_line (folders_in songs place) ++ flat_map (song_lines mask) (songs_in songs place)
content_lines mask Wide songs place =
    let rows = told_under songs place in
    flat_map (song_lines mask) (told_songs_in place rows) ++ flat_map directory_line (told_folders_in place rows)

-- the playlists, which the wide profile tells behind what stands right in the root
abbrev pub root_lists : Profile → Option Times → Stored → Place → List ℕ
root_lists Wide times lists Root = name_lines Wide times lists
root_lists profile times lists place = []

abbrev pub folder_info : TagMask → SavedState → Place → Result (List ℕ) CommandRefusal
folder_info mask s place =
    if is_folder s.songs place then Ok (content_lines mask s.profile s.songs place ++ root_lists s.profile s.changed s.lists place)
    else Err NoSuchUri

-- the song of a path goes before the folder of that path
abbrev pub info_at : TagMask → SavedState → List ℕ → Option Row → Result (List ℕ) CommandRefusal
info_at mask s path (Some row) = Ok (song_lines mask row)
info_at mask s path None = folder_info mask s (place_of (lent path))

-- a path without the folder that it stands in
abbrev pub name_in : Place → List ℕ → List ℕ
name_in Root path = path
name_in (At folder) path = drop (length folder.now + 1) path

-- what stands right in a place by its names: the files of songs, and then the folders
abbrev pub name_lines_in : List Row → Place → List ℕ
name_lines_in songs place =
    let rows = told_under songs place in
    flat_map (λ row. named_file_lines (name_in place row.uri) row) (told_songs_in place rows)
    ++ flat_map (λ folder. directory_line (name_in place folder)) (told_folders_in place rows)

abbrev pub files_in : List Row → Place → Result (List ℕ) CommandRefusal
files_in songs place = if is_folder songs place then Ok (name_lines_in songs place) else Err NoSuchUri

-- a song by its path alone, or by all that is known of it and the client sees
abbrev pub detail_lines : Detail → Row → List ℕ
detail_lines Paths row = file_line row.uri
detail_lines (Songs mask) row = song_lines mask row

abbrev pub item_lines : Detail → Item → List ℕ
item_lines detail (FolderAt path) = directory_line path
item_lines detail (SongOf row) = detail_lines detail row

-- the folder itself, which the wide profile tells first, unless it is the root
abbrev pub folder_line : Profile → Place → List ℕ
folder_line Wide (At folder) = directory_line folder.now
folder_line profile place = []

-- all folders and songs below a place
abbrev pub all_below : Detail → SavedState → Place → Result (List ℕ) CommandRefusal
all_below detail s place =
    if is_folder s.songs place then Ok (folder_line s.profile place ++ flat_map (item_lines detail) (walk_in s.profile s.songs place))
    else Err NoSuchUri

-- the song of a path goes before the folder of that path
abbrev pub all_at : Detail → SavedState → List ℕ → Option Row → Result (List ℕ) CommandRefusal
all_at detail s path (Some row) = Ok (detail_lines detail row)
all_at detail s path None = all_below detail s (place_of (lent path))

abbrev pub listing : Detail → Option (List ℕ) → MachineState → Meant
listing detail path m =
    let named = unwrap_or path [] in answers (all_at detail m.saved named (row_at m.saved.songs named)) m

-- how many artists and albums the songs have, each counted once, how many songs there are, and how long they play
abbrev pub statistics : List Row → List ℕ
statistics songs = database_lines (length (values_of songs Artist)) (length (values_of songs Album)) (length songs) (total_of songs)

abbrev pub last_job_number : ℕ
last_job_number = 2147483647

-- jobs count from 1 on, and behind the last number from 1 again
abbrev pub next_job : ℕ → ℕ
next_job number = if nat_lt number last_job_number then suc number else 1

-- a job that begins at a time; one that opens all reads every file, and any other those alone that have another stamp than their row
abbrev pub begun : ℕ → Option (List ℕ) → Bool → ℕ → Job
begun number place all now =
    record { number = number; place = place; opens_all = all; runs = true; has_changed_a_row = false; read = now }

-- so many jobs wait at most
abbrev pub max_waiting_jobs : ℕ
max_waiting_jobs = 32

-- the number that was given last: that of the last job that waits, or else of the job
abbrev pub last_given : ℕ → List WaitingJob → ℕ
last_given number [] = number
last_given number (job ∷ jobs) = last_given job.number jobs

abbrev pub next_number : MachineState → ℕ
next_number m = next_job (last_given m.job.number m.waiting)

abbrev pub asked : ℕ → Option (List ℕ) → Bool → WaitingJob
asked number place all = record { number = number; place = place; opens_all = all }

-- whether a job may wait beside one that runs
abbrev pub may_wait : Profile → List WaitingJob → Bool
may_wait Named waiting = false
may_wait Wide waiting = nat_lt (length waiting) max_waiting_jobs

-- why it may not
abbrev pub busy : Profile → CommandRefusal
busy Named = AlreadyUpdating
busy Wide = UpdatesFull

-- a job waits for its turn
abbrev pub waits_for_job : Option (List ℕ) → Bool → MachineState → Meant
waits_for_job place all m = do
  room ← must (may_wait m.saved.profile m.waiting) (busy m.saved.profile)
  waits (asked (next_number m) place all) (job_line (next_number m)) m

-- a job begins, or waits where one runs
abbrev pub begins_job : Option (List ℕ) → Bool → MachineState → Meant
begins_job place all m =
    if m.job.runs then waits_for_job place all m
    else begins (begun (next_job m.job.number) place all m.clock.now) (job_line (next_job m.job.number)) m

-- when the database was last updated: when its last job read it, or else when the daemon began
abbrev pub updated_at : MachineState → ℕ
updated_at m = if m.job.number == 0 then m.clock.began else m.job.read

-- the times, which the wide profile tells
abbrev pub time_lines : Profile → MachineState → List ℕ
time_lines Named m = []
time_lines Wide m = times_lines m.clock.uptime (updated_at m)

-- the name of a tag that the client sees
abbrev pub shown_type : TagMask → Tag → List ℕ
shown_type mask tag = if has mask tag then tag_type_line tag else []

-- which tags a client sees is nothing to the machine
unfoldable pub database_meaning : TagMask → DatabaseCommand → MachineState → Meant
database_meaning mask (commands.ChangeMask change) m = says [] m
database_meaning mask commands.Commands m = says (listed_commands m.saved.profile) m
database_meaning mask (commands.ListAll path) m = listing Paths path m
database_meaning mask (commands.ListAllInfo path) m = listing (Songs mask) path m
database_meaning mask (commands.ListFiles path) m =
    answers (files_in m.saved.songs (place_of (lent (unwrap_or path [])))) m
database_meaning mask (commands.ListInfo path) m =
    let named = unwrap_or path [] in answers (info_at mask m.saved named (row_at m.saved.songs named)) m
database_meaning mask commands.NotCommands m = says [] m
database_meaning mask commands.Stats m = says (statistics m.saved.songs ++ time_lines m.saved.profile m) m
database_meaning mask (commands.Rescan place) m = begins_job place true m
database_meaning mask commands.TagTypes m = says (flat_map (shown_type mask) (tags_in (tags_of m.saved.profile))) m
database_meaning mask (commands.Update place) m = begins_job place false m
