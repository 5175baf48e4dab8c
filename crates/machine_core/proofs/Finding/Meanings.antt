-- What the commands that find songs mean.
use Rattle.std.proofs.Common.{◌≡◌, suc, ◌≤◌, Bool, true, false, List, [], ◌∷◌, length, filter, Option, None}
use Rattle.std.proofs.Common.{refl, ap, sym, ◌∙◌, arith}
use Rattle.std.specs.List.{flat_map}
use Rattle.command_text.specs.AnswerNames.{count_lines}
use Rattle.command_text.specs.AnswerSongs.{file_line, song_lines}
use Rattle.command_text.specs.declared.command.finding.FindingCommand.TheVariants.{Add, Count, CountGroups, Find, InQueue, ListFiles}
use Rattle.command_text.specs.declared.command.finding.FindingCommand.TheVariants.{ListGroups, ListTag}
use Rattle.command_text.specs.declared.command.finding.Search.{Search}
use Rattle.command_text.specs.Masks.{all_in_mask}
use Rattle.command_text.specs.declared.tag_mask.TagMask.{TagMask}
use Rattle.play_queue.specs.declared.target.Target.{Target}
use Rattle.filter_expr.specs.Tree.{Tree}
use Rattle.filter_expr.specs.declared.case.Case.{Case}
use Rattle.filter_expr.specs.declared.case.Case.TheVariants.{Exact}
use Rattle.profile.specs.declared.profile.Profile.TheVariants.{Named}
use Rattle.song_db.specs.Duration.{total_of}
use Rattle.song_db.specs.Row.{Row}
use Rattle.filter_expr.specs.Meaning.{is_match}
use Rattle.song_files.specs.declared.tag.Tag.{Tag}
use Rattle.machine_core.specs.Adding.{adds}
use Rattle.machine_core.specs.Finding.{finding_meaning, matching, found, numbers_in, chosen, entries_found, entry_row_lines, told_values, value_lines}
use Rattle.machine_core.specs.Finding.{group_counts, group_lines, in_order, in_window, part_of}
use Rattle.machine_core.specs.declared.commands.finding.part.Part.{Part}
use Rattle.machine_core.specs.Meaning.{says}
use Rattle.machine_core.specs.State.{MachineState}

pub count_means : (m : MachineState) (tree : Tree)
    → finding_meaning all_in_mask (Count tree) m ≡ says (count_lines (length (matching Exact tree m.saved.songs)) (total_of
    (matching Exact tree m.saved.songs))) m
unfolding finding_meaning
count_means m tree = refl

pub find_means : (mask : TagMask) (m : MachineState) (search : Search)
    → finding_meaning mask (Find search) m ≡ says (flat_map (song_lines mask) (found m.saved.profile search m.saved.songs)) m
unfolding finding_meaning
find_means mask m search = refl

pub entries_mean : (mask : TagMask) (m : MachineState) (search : Search)
    → finding_meaning mask (InQueue search) m ≡ says (flat_map (entry_row_lines mask) (entries_found search m.saved.songs
    m.saved.queue.entries)) m
unfolding finding_meaning
entries_mean mask m search = refl

pub values_mean : (m : MachineState) (tag : Tag) (tree : Option Tree)
    → finding_meaning all_in_mask (ListTag tag tree) m ≡ says (value_lines tag (told_values m.saved.profile
    (chosen tree m.saved.songs) tag)) m
unfolding finding_meaning
values_mean m tag tree = refl

pub groups_mean : (m : MachineState) (tags : List Tag) (tree : Option Tree)
    → finding_meaning all_in_mask (ListGroups tags tree) m ≡ says (group_lines m.saved.profile tags (chosen tree m.saved.songs)) m
unfolding finding_meaning
groups_mean m tags tree = refl

pub counts_mean : (m : MachineState) (tag : Tag) (tree : Option Tree)
    → finding_meaning all_in_mask (CountGroups tag tree) m ≡ says (group_counts m.saved.profile tag (chosen tree m.saved.songs)) m
unfolding finding_meaning
counts_mean m tag tree = refl

pub files_mean : (m : MachineState) (tree : Option Tree)
    → finding_meaning all_in_mask (ListFiles tree) m ≡ says (flat_map (λ (row : Row). file_line row.uri) (chosen tree m.saved.songs)) m
unfolding finding_meaning
files_mean m tree = refl

pub fewer : {X : Type 0} (test : X → Bool) (xs : List X) → length (filter test xs) ≤ length xs
fewer test [] = omega arith
fewer test (x ∷ xs) = by_cases (test x) refl (fewer test xs)
  where
    by_cases : (b : Bool) → test x ≡ b → length (filter test xs) ≤ length xs → length (filter test (x ∷ xs)) ≤ suc (length xs)
    by_cases true is fewer = rw is (omega arith)
    by_cases false is fewer = rw is (omega arith)

-- what is found where no order is asked for
pub found_by_uri : (search : Search) (part : Part) (rows : List Row) → search.sort ≡ None
    → ((some : List Row) → length some ≤ length rows → part_of part some ≡ in_window search.window some)
    → part_of part (matching search.case search.filter rows) ≡ found Named search rows
found_by_uri search part rows is within =
    within (matching search.case search.filter rows) (fewer (is_match search.case search.filter) rows)
    ∙ ap (λ sort. in_window search.window (in_order sort (matching search.case search.filter rows))) (sym is)

pub matching_found : (search : Search) (rows : List Row) → search.sort ≡ None
    → in_window search.window (matching search.case search.filter rows) ≡ found Named search rows
matching_found search rows is =
    ap (λ sort. in_window search.window (in_order sort (matching search.case search.filter rows))) (sym is)

pub add_means : (m : MachineState) (search : Search) (to : Option Target)
    → finding_meaning all_in_mask (Add search to) m ≡ adds to (numbers_in m.saved.songs (found m.saved.profile search m.saved.songs)) [] m
unfolding finding_meaning
add_means m search to = refl
