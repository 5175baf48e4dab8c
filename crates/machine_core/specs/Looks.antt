-- The wide profile's limit on what one request may look at. Each song or entry counts 1 where a command passes over it, 10 for each time
-- that it is asked something, or a word is drawn for it, and 40 where it is sorted.
use Rattle.std.specs.Prelude.{ℕ, ◌+◌, ◌-◌, ◌*◌, ◌&&◌, min, List, length, nat_le, nat_lt, Option, Some, None, Result, Ok, Err}
use Rattle.std.specs.Prelude.{Bool, true}
use Rattle.std.specs.Prelude.{if◌then◌else◌}
use Rattle.command_text.specs.declared.command.Command.{Command}
use Rattle.command_text.specs.declared.command.Command.TheVariants as commands
use Rattle.command_text.specs.declared.command.database.DatabaseCommand.{DatabaseCommand}
use Rattle.command_text.specs.declared.command.database.DatabaseCommand.TheVariants as database
use Rattle.command_text.specs.declared.command.finding.FindingCommand.{FindingCommand}
use Rattle.command_text.specs.declared.command.finding.FindingCommand.TheVariants as finding
use Rattle.command_text.specs.declared.command.finding.Search.{Search}
use Rattle.command_text.specs.declared.command.lists.ListsCommand.{ListsCommand}
use Rattle.command_text.specs.declared.command.lists.ListsCommand.TheVariants as lists
use Rattle.command_text.specs.declared.command.queue.QueueCommand.{QueueCommand}
use Rattle.command_text.specs.declared.command.queue.QueueCommand.TheVariants as queue
use Rattle.command_text.specs.declared.command.settings.SettingsCommand.{SettingsCommand}
use Rattle.command_text.specs.declared.command.settings.SettingsCommand.TheVariants as settings
use Rattle.command_text.specs.declared.command.sticker.StickersCommand.{StickersCommand}
use Rattle.command_text.specs.declared.command.sticker.StickersCommand.TheVariants as stickers
use Rattle.command_text.specs.declared.range.PositionRange.{PositionRange}
use Rattle.command_text.specs.declared.range.PositionRange.TheVariants.{One}
use Rattle.command_text.specs.declared.range.Window.{Window}
use Rattle.command_text.specs.declared.refusal.CommandRefusal.{CommandRefusal}
use Rattle.command_text.specs.declared.refusal.CommandRefusal.TheVariants.{RequestTooLarge}
use Rattle.filter_expr.specs.Looks.{song_looks, tests_of, told_looks}
use Rattle.filter_expr.specs.Tree.{Tree}
use Rattle.filter_expr.specs.declared.case.Case.TheVariants.{Exact}
use Rattle.filter_expr.specs.declared.order.SortOrder.{SortOrder}
use Rattle.profile.specs.declared.profile.Profile.{Profile}
use Rattle.profile.specs.declared.profile.Profile.TheVariants.{Named, Wide}
use Rattle.song_db.specs.Place.{place_of}
use Rattle.song_db.specs.Query.{is_folder, number_at}
use Rattle.song_db.specs.Row.{Row}
use Rattle.song_db.specs.Told.{told_under}
use Rattle.song_db.specs.declared.place.Place.{Place}
use Rattle.song_files.specs.declared.tag.TheConstants.{TAG_COUNT}
use Rattle.stored_lists.specs.Lists.{songs_or_none}
use Rattle.stored_lists.specs.Songs.{Uris}
use Rattle.machine_core.specs.Lent.{lent}
use Rattle.machine_core.specs.Lists.{songs_named}
use Rattle.machine_core.specs.Meaning.{Meant}
use Rattle.machine_core.specs.Queue.{is_held, place_of_id, queue_length}
use Rattle.machine_core.specs.Spans.{count_of, span_in, span_or_all, whole}
use Rattle.machine_core.specs.State.{MachineState, shown_of}
use Rattle.machine_core.specs.declared.span.Span.{Span}

-- Under the wide profile the commands of one request look at so much at most.
abbrev pub max_looks : ℕ
max_looks = 10000000

-- Whether a request that has looked at so much may look at so much more: under the first profile it may look at anything.
abbrev pub may_look : Profile → ℕ → ℕ → Bool
may_look Named before looks = true
may_look Wide before looks = nat_le (before + looks) max_looks

-- what a command does that looks at so much, where those before it have looked at so much
abbrev pub weighed : Profile → ℕ → ℕ → Meant → Meant
weighed profile before looks meant = if may_look profile before looks then meant else Err RequestTooLarge

-- How much counts as looked at behind a command that looks at so much. Under the first profile it is counted up to what the wide one lets a
-- request look at; under the wide one a command that would look at too much looks at nothing.
abbrev pub looked : Profile → ℕ → ℕ → ℕ
looked Named before looks = before + min looks (max_looks - before)
looked Wide before looks = if nat_le (before + looks) max_looks then before + looks else before

-- a song is chosen, or looked for: in random order a word is drawn for each entry
abbrev pub choice_looks : MachineState → ℕ
choice_looks m = if m.saved.options.random then 10 * queue_length m else queue_length m

-- Where the current song goes in random order, one is chosen before it goes and one behind that.
abbrev pub leaving_looks : Span → MachineState → ℕ
leaving_looks span m = if m.saved.options.random && is_held span (shown_of m).current then 20 * queue_length m else 0

-- of what is refused nothing is looked at
abbrev pub span_looks : Result Span CommandRefusal → (Span → ℕ) → ℕ
span_looks (Err refusal) looks = 0
span_looks (Ok span) looks = looks span

abbrev pub alone_looks : Result ℕ CommandRefusal → MachineState → ℕ
alone_looks (Err refusal) m = 0
alone_looks (Ok at) m = leaving_looks (record { start = at; end = at + 1 }) m

-- Entries that are added, or that only change their places or priorities, don't count.
abbrev pub queue_looks : QueueCommand → MachineState → ℕ
queue_looks (queue.Changes version range) m = queue_length m
queue_looks (queue.ChangesPositions version range) m = queue_length m
queue_looks queue.Clear m = leaving_looks (whole (queue_length m)) m
queue_looks (queue.Delete range) m = span_looks (span_in range (queue_length m)) (λ span. leaving_looks span m)
queue_looks (queue.DeleteId id) m = alone_looks (place_of_id id m) m
queue_looks (queue.Shuffle range) m = span_looks (span_or_all range (queue_length m)) (λ span. 10 * count_of span)
queue_looks other m = 0

-- of what is found a part is taken: the songs stay by URI, or are put in their order first
abbrev pub parted : Profile → ℕ
parted Named = 1
parted Wide = 4

-- of what is found a part is taken, or it is sorted
abbrev pub arranged : Profile → Option SortOrder → Option Window → ℕ
arranged profile None None = 0
arranged profile None (Some window) = parted profile
arranged profile (Some order) window = 4

-- What is found is bounded by the answer or by the changes.
abbrev pub search_looks : Search → MachineState → ℕ
search_looks search m =
    10 * told_looks m.saved.profile search.case search.filter (arranged m.saved.profile search.sort search.window) m.saved.songs

-- the values of a tag: of all songs they are there, those of songs that are found are sorted
abbrev pub values_looks : Option Tree → MachineState → ℕ
values_looks None m = 10 * length m.saved.songs
values_looks (Some tree) m = 10 * song_looks Exact tree 4 m.saved.songs

-- the same of so many tags, each within the values of the tag before: each song is asked for those of each
abbrev pub groups_looks : ℕ → Option Tree → MachineState → ℕ
groups_looks tags None m = 10 * (tags * length m.saved.songs)
groups_looks tags (Some tree) m = 10 * song_looks Exact tree (3 + tags) m.saved.songs

-- entries that are taken as they stand, or are sorted
abbrev pub entries_looks : Search → MachineState → ℕ
entries_looks search m = 10 * ((tests_of search.filter + 1 + arranged m.saved.profile search.sort None) * queue_length m)

-- for each of so many songs that come into a playlist, those behind its place
abbrev pub placed_looks : ℕ → List ℕ → Option ℕ → MachineState → ℕ
placed_looks count name None m = 0
placed_looks count name (Some at) m = count * (length (songs_or_none m.saved.lists name) - at)

-- the most of so many that stand in a window
abbrev pub most_between : ℕ → Option ℕ → ℕ → ℕ
most_between start None count = count
most_between start (Some end) count = min count (end - start)

abbrev pub most_in : Option Window → ℕ → ℕ
most_in None count = count
most_in (Some window) count = most_between window.start window.end count

-- Before a search it isn't known how many songs come into the playlist: all may, or as many as the window holds.
abbrev pub listed_looks : List ℕ → Search → Option ℕ → MachineState → ℕ
listed_looks name search to m = search_looks search m + placed_looks (most_in search.window (length m.saved.songs)) name to m

abbrev pub finding_looks : FindingCommand → MachineState → ℕ
finding_looks (finding.Add search to) m = search_looks search m
finding_looks (finding.AddToPlaylist name search to) m = listed_looks name search to m
finding_looks (finding.Count tree) m = 10 * song_looks Exact tree 1 m.saved.songs
finding_looks (finding.CountGroups tag tree) m = values_looks tree m
finding_looks (finding.Find search) m = search_looks search m
finding_looks (finding.InQueue search) m = entries_looks search m
finding_looks (finding.ListFiles tree) m = values_looks tree m
finding_looks (finding.ListGroups tags tree) m = groups_looks (min (length tags) TAG_COUNT) tree m
finding_looks (finding.ListTag tag tree) m = values_looks tree m

-- the songs of a playlist, if there is one of this name
abbrev pub list_looks : Result Uris CommandRefusal → ℕ
list_looks (Err refusal) = 0
list_looks (Ok songs) = 50 * length songs

-- how many songs stand between two places of a playlist
abbrev pub gap_of : Uris → ℕ → ℕ → ℕ
gap_of songs from to = min (length songs) (if nat_lt from to then to - from else from - to)

-- the songs between two places of a playlist
abbrev pub moved_looks : Result Uris CommandRefusal → ℕ → ℕ → ℕ
moved_looks (Err refusal) from to = 0
moved_looks (Ok songs) from to = gap_of songs from to

-- the same for each song of a block
abbrev pub block_looks : Result Uris CommandRefusal → PositionRange → ℕ → ℕ
block_looks (Err refusal) range to = 0
block_looks (Ok songs) range to =
    span_looks (span_in range (length songs)) (λ block. (count_of block + 1) * (gap_of songs block.start to + 1))

abbrev pub range_looks : Result Uris CommandRefusal → PositionRange → ℕ → ℕ
range_looks songs (One from) to = moved_looks songs from to
range_looks songs range to = block_looks songs range to

-- the songs that a path names
abbrev pub count_under : List Row → Place → ℕ
count_under songs place = if is_folder songs place then length (told_under songs place) else 0

abbrev pub count_or_under : List Row → List ℕ → Option ℕ → ℕ
count_or_under songs path (Some number) = 1
count_or_under songs path None = count_under songs (place_of (lent path))

abbrev pub count_named : List Row → List ℕ → ℕ
count_named songs path = count_or_under songs path (number_at songs path)

-- for each song at a path that comes into a playlist, those behind its place
unfoldable pub added_looks : List ℕ → List ℕ → Option ℕ → MachineState → ℕ
added_looks name path to m = placed_looks (count_named m.saved.songs path) name to m

abbrev pub lists_looks : ListsCommand → MachineState → ℕ
lists_looks (lists.Add name path to) m = added_looks name path to m
lists_looks (lists.Load name range to) m = list_looks (songs_named m.saved.lists name)
lists_looks (lists.Move name range to) m = range_looks (songs_named m.saved.lists name) range to
lists_looks (lists.Save name mode) m = 10 * queue_length m
lists_looks (lists.SongsInfo name) m = list_looks (songs_named m.saved.lists name)
lists_looks other m = 0

abbrev pub stickers_looks : StickersCommand → MachineState → ℕ
stickers_looks (stickers.Find uri name bound) m = 10 * length m.saved.stickers
stickers_looks other m = 0

abbrev pub database_looks : DatabaseCommand → MachineState → ℕ
database_looks (database.ListFiles path) m = length m.saved.songs
database_looks (database.ListInfo path) m = length m.saved.songs
database_looks database.Stats m = length m.saved.songs
database_looks other m = 0

abbrev pub settings_looks : SettingsCommand → MachineState → ℕ
settings_looks (settings.Random on) m = queue_length m
settings_looks settings.Status m = choice_looks m
settings_looks other m = 0

-- What a command looks at. What it answers doesn't count, since behind an answer that is longer than any that is sent it isn't written; nor
-- what its ops hold, which is bounded by their bytes.
abbrev pub looks_of : Command → MachineState → ℕ
looks_of (commands.Settings command) m = settings_looks command m
looks_of (commands.Database command) m = database_looks command m
looks_of (commands.Queue command) m = queue_looks command m
looks_of (commands.Finding command) m = finding_looks command m
looks_of (commands.Lists command) m = lists_looks command m
looks_of (commands.Stickers command) m = stickers_looks command m
looks_of (commands.Playing command) m = choice_looks m
looks_of (commands.Messages command) m = 0
looks_of (commands.Pictures command) m = 0
looks_of (commands.Session command) m = 0
looks_of (commands.Setup command) m = 0
