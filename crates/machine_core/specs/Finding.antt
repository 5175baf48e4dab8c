-- The commands that find songs by a filter.
use Rattle.std.specs.Prelude.{◌≡◌, ℕ, ◌≤◌, suc, List, [], ◌∷◌, ◌++◌, length, take, drop, filter, flat_map, Option, Some, None}
use Rattle.std.specs.Prelude.{Result, OnOk, vec_capacity, if◌then◌else◌}
use Rattle.std.specs.Global.{Vec}
use Rattle.std.specs.List.{filter_map, list_any}
use Rattle.std.specs.Str.{bytes_eq}
use Rattle.command_text.specs.AnswerNames.{count_lines, value_line}
use Rattle.command_text.specs.AnswerSongs.{file_line, song_lines, entry_lines}
use Rattle.command_text.specs.declared.command.finding.FindingCommand.{FindingCommand}
use Rattle.command_text.specs.declared.command.finding.FindingCommand.TheVariants as commands
use Rattle.command_text.specs.declared.command.finding.Search.{Search}
use Rattle.command_text.specs.declared.range.Window.{Window}
use Rattle.filter_expr.specs.Fallback.{told_tag}
use Rattle.filter_expr.specs.Meaning.{is_match}
use Rattle.filter_expr.specs.Order.{is_before, sorted, window_of}
use Rattle.filter_expr.specs.Tree.{Tree}
use Rattle.filter_expr.specs.declared.case.Case.{Case}
use Rattle.filter_expr.specs.declared.case.Case.TheVariants.{Exact}
use Rattle.filter_expr.specs.declared.order.SortOrder.{SortOrder}
use Rattle.command_text.specs.declared.tag_mask.TagMask.{TagMask}
use Rattle.play_queue.specs.declared.entry.Entry.{Entry}
use Rattle.profile.specs.declared.profile.Profile.{Profile}
use Rattle.profile.specs.declared.profile.Profile.TheVariants.{Wide}
use Rattle.song_db.specs.Duration.{total_of}
use Rattle.song_db.specs.Query.{distinct_of, number_at}
use Rattle.song_db.specs.Row.{Row, row_at}
use Rattle.state_codec.specs.Steps.{◌>>=◌}
use Rattle.song_files.specs.Tags.{texts_of}
use Rattle.song_files.specs.declared.tag.Tag.{Tag}
use Rattle.machine_core.specs.Adding.{adds}
use Rattle.machine_core.specs.Front.{SameFront}
use Rattle.machine_core.specs.ListMoves.{adds_songs}
use Rattle.machine_core.specs.Lists.{list_name}
use Rattle.machine_core.specs.Meaning.{Meant, says}
use Rattle.machine_core.specs.Ordered.{rows_told}
use Rattle.machine_core.specs.State.{MachineState}
use Rattle.machine_core.specs.declared.commands.finding.part.Part.{Part}

-- the rows that a filter denotes, as they stand
abbrev pub matching : Case → Tree → List Row → List Row
matching case tree rows = filter (is_match case tree) rows

-- in the order that is asked for; if none is, they stay as they are told
abbrev pub in_order : Option SortOrder → List Row → List Row
in_order None rows = rows
in_order (Some order) rows = sorted (is_before order) rows

abbrev pub in_window : {X : Type 0} → Option Window → List X → List X
in_window None found = found
in_window (Some window) found = window_of window.start window.end found

-- What a search finds: the rows that match, in order, and of these the window.
abbrev pub found : Profile → Search → List Row → List Row
found profile search songs =
    in_window search.window (in_order search.sort (matching search.case search.filter (rows_told profile songs)))

-- the numbers of rows among all the songs
abbrev pub numbers_in : List Row → List Row → List ℕ
numbers_in songs rows = filter_map (λ row. number_at songs row.uri) rows

-- those of which the values are asked: all, or those that match
abbrev pub chosen : Option Tree → List Row → List Row
chosen None rows = rows
chosen (Some tree) rows = matching Exact tree rows

-- in the wide profile what is without a text has the empty one
abbrev pub or_empty : Profile → List (List ℕ) → List (List ℕ)
or_empty Wide [] = [] ∷ []
or_empty profile texts = texts

-- what a song tells of a tag: without a text of it, those of the tag that stands in for it, if one does
abbrev pub told_texts : Profile → Tag → Row → List (List ℕ)
told_texts profile tag row = or_empty profile (texts_of row.tags (told_tag row.tags tag))

-- the values of a tag
abbrev pub told_values : Profile → List Row → Tag → List (List ℕ)
told_values profile rows tag = distinct_of (flat_map (told_texts profile tag) rows)

-- the songs that tell a value of a tag
abbrev pub rows_telling : Profile → Tag → List ℕ → List Row → List Row
rows_telling profile tag value rows = filter (λ row. list_any (bytes_eq value) (told_texts profile tag row)) rows

-- the values of tags, the outermost first: each value, and behind it those of the next tag among the songs that tell it
abbrev pub group_lines : Profile → List Tag → List Row → List ℕ
group_lines profile [] rows = []
group_lines profile (tag ∷ tags) rows =
    flat_map (λ value. value_line tag value ++ group_lines profile tags (rows_telling profile tag value rows))
    (told_values profile rows tag)

-- the values of a tag, each with how many songs tell it and how long they play
abbrev pub rows_counted : List Row → List ℕ
rows_counted rows = count_lines (length rows) (total_of rows)

abbrev pub group_counts : Profile → Tag → List Row → List ℕ
group_counts profile tag rows =
    flat_map (λ value. value_line tag value ++ rows_counted (rows_telling profile tag value rows)) (told_values profile rows tag)

abbrev pub value_lines : Tag → List (List ℕ) → List ℕ
value_lines tag values = flat_map (value_line tag) values

-- an entry of the queue at its position, with the row of its song
pub record EntryRow : Type 0 where
  pub position : ℕ
  pub entry : Entry
  pub row : Row

-- the entry at a position, where its song has a row that matches
abbrev pub entry_row : Case → Tree → ℕ → Entry → Option Row → List EntryRow
entry_row case tree position entry None = []
entry_row case tree position entry (Some row) =
    if is_match case tree row then record { position = position; entry = entry; row = row } ∷ [] else []

-- of the entries that stand from a position on those that match, as the queue has them
abbrev pub entry_rows : Case → Tree → List Row → ℕ → List Entry → List EntryRow
entry_rows case tree songs position [] = []
entry_rows case tree songs position (entry ∷ entries) =
    entry_row case tree position entry (row_at songs entry.uri) ++ entry_rows case tree songs (suc position) entries

-- in the order of their songs that is asked for; if none is, they stay as the queue has them
abbrev pub entries_in_order : Option SortOrder → List EntryRow → List EntryRow
entries_in_order None entries = entries
entries_in_order (Some order) entries = sorted (λ a b. is_before order a.row b.row) entries

-- What a search finds in the queue: the entries that match, in order, and of these the window.
abbrev pub entries_found : Search → List Row → List Entry → List EntryRow
entries_found search songs entries =
    in_window search.window (entries_in_order search.sort (entry_rows search.case search.filter songs 0 entries))

abbrev pub entry_row_lines : TagMask → EntryRow → List ℕ
entry_row_lines mask found = entry_lines mask found.row found.position found.entry

unfoldable pub finding_meaning : TagMask → FindingCommand → MachineState → Meant
finding_meaning mask (commands.Add search to) m = adds to (numbers_in m.saved.songs (found m.saved.profile search m.saved.songs)) [] m
finding_meaning mask (commands.AddToPlaylist name search to) m = do
  good ← list_name name
  adds_songs good (numbers_in m.saved.songs (found m.saved.profile search m.saved.songs)) to m
finding_meaning mask (commands.Count tree) m =
    let found = matching Exact tree m.saved.songs in says (count_lines (length found) (total_of found)) m
finding_meaning mask (commands.CountGroups tag tree) m = says (group_counts m.saved.profile tag (chosen tree m.saved.songs)) m
finding_meaning mask (commands.Find search) m = says (flat_map (song_lines mask) (found m.saved.profile search m.saved.songs)) m
finding_meaning mask (commands.InQueue search) m =
    says (flat_map (entry_row_lines mask) (entries_found search m.saved.songs m.saved.queue.entries)) m
finding_meaning mask (commands.ListFiles tree) m = says (flat_map (λ row. file_line row.uri) (chosen tree m.saved.songs)) m
finding_meaning mask (commands.ListGroups tags tree) m = says (group_lines m.saved.profile tags (chosen tree m.saved.songs)) m
finding_meaning mask (commands.ListTag tag tree) m =
    says (value_lines tag (told_values m.saved.profile (chosen tree m.saved.songs) tag)) m

-- a part of a list: so many are passed over, up to an end, which is counted from the first
abbrev pub part_of : {X : Type 0} → Part → List X → List X
part_of part xs = drop part.skip (take part.end xs)

-- What a writer does that looks at songs between its lines: it adds these lines at the end, of which those may be missing that aren't given
-- out of the answer. Also where memory is refused, for a line or for a look, what was there stands there still.
pub record Writes {A E : Type 0} (lines : List ℕ) (result : Result A E) (before after : Vec ℕ) : Type 0 where
  pub all : OnOk result (SameFront after.items (before.items ++ lines))
  pub front : take (length before.items) after.items ≡ before.items
  pub room : vec_capacity before ≤ vec_capacity after
