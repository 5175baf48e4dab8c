-- The commands that find songs by a filter. Its count of words comes first; then each part from left to right.
use Rattle.std.specs.Prelude.{ℕ, ◌+◌, ◌-◌, ◌%◌, List, [], ◌∷◌, ◌++◌, length, take, drop, Bool, true, false, not, ◌==◌, ◌&&◌, ◌||◌, nat_le}
use Rattle.std.specs.Prelude.{Option}
use Rattle.std.specs.Prelude.{Some, None, Result, Ok, Err, codes, if◌then◌else◌}
use Rattle.std.specs.Str.{bytes_eq, str_eq_ignore_ascii_case}
use Rattle.profile.specs.declared.profile.Profile.{Profile}
use Rattle.profile.specs.declared.profile.Profile.TheVariants.{Named, Wide}
use Rattle.filter_expr.specs.declared.case.Case.{Case}
use Rattle.filter_expr.specs.declared.case.Case.TheVariants.{Exact, Folded}
use Rattle.filter_expr.specs.declared.order.SortOrder.{SortOrder}
use Rattle.filter_expr.specs.Names.{tag_named}
use Rattle.filter_expr.specs.Parts.{opening, begins_so}
use Rattle.filter_expr.specs.SortWord.{sort_order}
use Rattle.filter_expr.specs.Tree.{Tree}
use Rattle.play_queue.specs.declared.target.Target.{Target}
use Rattle.command_text.specs.declared.command.finding.FindingCommand.{FindingCommand}
use Rattle.command_text.specs.declared.command.finding.FindingCommand.TheVariants as commands
use Rattle.command_text.specs.declared.command.finding.Search.{Search}
use Rattle.command_text.specs.declared.range.Window.{Window}
use Rattle.command_text.specs.declared.refusal.CommandRefusal.{CommandRefusal}
use Rattle.command_text.specs.declared.refusal.CommandRefusal.TheVariants.{WrongCount, BadArgument}
use Rattle.command_text.specs.declared.topic.FindingName.{FindingName}
use Rattle.command_text.specs.declared.topic.FindingName.TheVariants as names
use Rattle.command_text.specs.Arguments.{number_of, target_of, window_of}
use Rattle.song_files.specs.declared.tag.Tag.{Tag}
use Rattle.song_files.specs.declared.tag.TheConstants.{TAG_COUNT}
use Rattle.command_text.specs.Counts.{◌>>=◌, Word, argument}
use Rattle.command_text.specs.Groups.{end_tag, last_word, part_ends, takes_groups, without_end}
use Rattle.command_text.specs.Masks.{empty_mask, only_tag}
use Rattle.command_text.specs.NameArguments.{told, playlist_name, filter_argument, tag_argument}

abbrev pub is_expression : List Word → Bool
is_expression [] = false
is_expression (word ∷ words) = begins_so opening word

abbrev pub is_even : ℕ → Bool
is_even n = n % 2 == 0

abbrev pub are_pairs : List Word → Bool
are_pairs words = nat_le 2 (length words) && is_even (length words)

-- In the named subset a filter is one word that is an expression, or pairs of a tag and a value: the count of one that stands alone, and of
-- one behind which parts of two words may stand.
abbrev pub named_filter_count : List Word → Bool
named_filter_count words = if is_expression words then length words == 1 else are_pairs words

abbrev pub named_search_count : List Word → Bool
named_search_count words = if is_expression words then not (is_even (length words)) else are_pairs words

-- the words that begin a part behind a filter
abbrev pub begins_part : Bool → Word → Bool
begins_part adds word =
    bytes_eq word (codes "sort") || (bytes_eq word (codes "window") || (adds && bytes_eq word (codes "position")))

-- how many words the pairs have up to the first part behind them
unfoldable pub pairs_length : Bool → List Word → ℕ
pairs_length adds [] = 0
pairs_length adds (word ∷ []) = 0
pairs_length adds (tag ∷ value ∷ words) = if begins_part adds tag then 0 else 2 + pairs_length adds words

-- the words that end a filter: none where nothing stands behind it
abbrev pub ends_filter : Option Bool → Word → Bool
ends_filter None word = false
ends_filter (Some adds) word = begins_part adds word

-- how many words the expression or the pair in front has; none where it ends the filter or has no value
abbrev pub pair_length : Option Bool → Word → List Word → ℕ
pair_length parts tag [] = 0
pair_length parts tag (value ∷ words) = if ends_filter parts tag then 0 else 2

abbrev pub next_length : Option Bool → List Word → ℕ
next_length parts [] = 0
next_length parts (word ∷ words) = if begins_so opening word then 1 else pair_length parts word words

-- how many words expressions and pairs in any order have, up to a word that ends a filter or a tag without a value
unfoldable pub mixed_length : Option Bool → List Word → ℕ
mixed_length parts [] = 0
mixed_length parts (word ∷ []) = if begins_so opening word then 1 else 0
mixed_length parts (word ∷ other ∷ words) =
    if begins_so opening word then 1 + mixed_length parts (other ∷ words)
    else (if ends_filter parts word then 0 else 2 + mixed_length parts words)

-- how many words the filter has: of the named subset an expression one, and else the first pair and those behind it; of the wide profile an
-- expression or a pair, and those behind it in any order
abbrev pub first_length : List Word → ℕ
first_length words = if is_expression words then 1 else 2

abbrev pub filter_length : Profile → Bool → List Word → ℕ
filter_length Named adds words = if is_expression words then 1 else 2 + pairs_length adds (drop 2 words)
filter_length Wide adds words = first_length words + mixed_length (Some adds) (drop (first_length words) words)

-- an expression or a pair stands in front
abbrev pub is_begun : List Word → Bool
is_begun words = is_expression words || nat_le 2 (length words)

-- the count of a filter that stands alone
abbrev pub has_filter_count : Profile → List Word → Bool
has_filter_count Named words = named_filter_count words
has_filter_count Wide words = is_begun words && mixed_length None words == length words

-- the count of one behind which parts of two words may stand
abbrev pub has_search_count : Profile → Bool → List Word → Bool
has_search_count Named adds words = named_search_count words
has_search_count Wide adds words = is_begun words && is_even (length (drop (filter_length Wide adds words) words))

-- what stands behind a name in front of these words
abbrev pub value_behind : Word → List Word → Option Word
value_behind name [] = None
value_behind name (word ∷ []) = None
value_behind name (word ∷ value ∷ words) = if bytes_eq word name then Some value else None

-- what one part says, if it is there, and the words behind it
abbrev pub Part : Type 0 → Type 0
Part A = Result (Option A × List Word) CommandRefusal

abbrev pub part : {A : Type 0} → (Word → Result A CommandRefusal) → List Word → Option Word → Part A
part read words None = Ok (None, words)
part read words (Some value) = read value >>= λ x. Ok (Some x, drop 2 words)

-- the place of the second of these last words, where so many arguments are counted from 1
abbrev pub second_place : ℕ → List Word → ℕ
second_place total words = total - length words + 2

unfoldable pub sort_part : Profile → List Word → Part SortOrder
sort_part profile words = part (λ word. told (sort_order profile word)) words (value_behind (codes "sort") words)

unfoldable pub window_part : ℕ → List Word → Part Window
window_part total words =
    part (λ word. argument (second_place total words) (window_of word)) words (value_behind (codes "window") words)

unfoldable pub position_part : ℕ → List Word → Part Target
position_part total words =
    part (λ word. argument (second_place total words) (target_of word)) words (value_behind (codes "position") words)

-- a place of a playlist, counted from its front
unfoldable pub place_part : ℕ → List Word → Part ℕ
place_part total words =
    part (λ word. argument (second_place total words) (number_of word)) words (value_behind (codes "position") words)

-- a part out of its order, or twice
abbrev pub nothing_left : {A : Type 0} → ℕ → List Word → A → Result A CommandRefusal
nothing_left total [] value = Ok value
nothing_left total (word ∷ words) value = Err (BadArgument (total - length words))

-- a filter, an order and a window, and the words behind them, of so many arguments in all
unfoldable pub search_parts : Profile → Bool → Case → ℕ → List Word → Result (Search × List Word) CommandRefusal
search_parts profile adds case total words = do
  filter ← filter_argument profile (take (filter_length profile adds words) words)
  sort ← sort_part profile (drop (filter_length profile adds words) words)
  window ← window_part total sort.1
  Ok (record { case = case; filter = filter; sort = sort.0; window = window.0 }, window.1)

unfoldable pub find_of : Profile → Case → List Word → Result FindingCommand CommandRefusal
find_of profile case words =
    if not (has_search_count profile false words) then Err WrongCount
    else (search_parts profile false case (length words) words >>= λ x. nothing_left (length words) x.1 (commands.Find x.0))

unfoldable pub find_add_of : Profile → Case → List Word → Result FindingCommand CommandRefusal
find_add_of profile case words =
    if not (has_search_count profile true words) then Err WrongCount
    else (search_parts profile true case (length words) words >>= λ x. position_part (length words) x.1
    >>= λ to. nothing_left (length words) to.1 (commands.Add x.0 to.0))

-- a filter and nothing behind it
unfoldable pub filter_alone : Profile → List Word → Result Tree CommandRefusal
filter_alone profile words = if not (has_filter_count profile words) then Err WrongCount else filter_argument profile words

-- the count of a filter behind which in the wide profile such parts may stand, and nothing in the named subset
abbrev pub has_arranged_count : Profile → Bool → List Word → Bool
has_arranged_count Named adds words = has_filter_count Named words
has_arranged_count Wide adds words = has_search_count Wide adds words

-- such a filter with its order and window, and the words behind them, of so many arguments in all
unfoldable pub arranged_parts : Profile → Bool → Case → ℕ → List Word → Result (Search × List Word) CommandRefusal
arranged_parts Named adds case total words =
    filter_argument Named words >>= λ filter. Ok (record { case = case; filter = filter; sort = None; window = None }, [])
arranged_parts Wide adds case total words = search_parts Wide adds case total words

unfoldable pub add_to_playlist_of : Profile → List Word → Result FindingCommand CommandRefusal
add_to_playlist_of profile [] = Err WrongCount
add_to_playlist_of profile (name ∷ words) =
    if not (has_arranged_count profile true words) then Err WrongCount
    else (playlist_name name >>= λ list. arranged_parts profile true Folded (length words + 1) words
    >>= λ x. place_part (length words + 1) x.1
    >>= λ to. nothing_left (length words + 1) to.1 (commands.AddToPlaylist list x.0 to.0))

unfoldable pub in_queue_of : Profile → Case → List Word → Result FindingCommand CommandRefusal
in_queue_of profile case words =
    if not (has_arranged_count profile false words) then Err WrongCount
    else (arranged_parts profile false case (length words) words >>= λ x. nothing_left (length words) x.1 (commands.InQueue x.0))

-- in a tag's place of `list` the wide profile knows the songs' files by either name
abbrev pub is_file : Profile → Word → Bool
is_file Named name = false
is_file Wide name = str_eq_ignore_ascii_case name (codes "file") || str_eq_ignore_ascii_case name (codes "filename")

-- the files of all songs, or of those of a filter
abbrev pub files_of : Profile → List Word → Result FindingCommand CommandRefusal
files_of profile [] = Ok (commands.ListFiles None)
files_of profile (word ∷ words) = filter_alone profile (word ∷ words) >>= λ filter. Ok (commands.ListFiles (Some filter))

-- `list Album ARTIST`, as clients of old say it to the wide profile
abbrev pub is_artist_alone : Profile → Word → Word → Bool
is_artist_alone Named name word = false
is_artist_alone Wide name word = str_eq_ignore_ascii_case name (codes "Album") && not (begins_so opening word)

-- the words of the filter behind a tag of this name
abbrev pub listed_words : Profile → Word → List Word → List Word
listed_words profile name (word ∷ []) = if is_artist_alone profile name word then codes "Artist" ∷ word ∷ [] else word ∷ []
listed_words profile name words = words

unfoldable pub values_of : Profile → Word → List Word → Result FindingCommand CommandRefusal
values_of profile name [] = tag_argument profile name >>= λ tag. Ok (commands.ListTag tag None)
values_of profile name (word ∷ words) =
    if not (has_filter_count profile (word ∷ words)) then Err WrongCount
    else (tag_argument profile name >>= λ tag. filter_argument profile (word ∷ words) >>= λ filter. Ok (commands.ListTag tag (Some filter)))

-- a filter and nothing behind it, if there is a word
abbrev pub filter_if_any : Profile → List Word → Result (Option Tree) CommandRefusal
filter_if_any profile [] = Ok None
filter_if_any profile (word ∷ words) = filter_alone profile (word ∷ words) >>= λ filter. Ok (Some filter)

-- the tag of a `list` that ends in `group TAG`
abbrev pub grouped_tag : Profile → Word → List Word → Option Tag
grouped_tag profile name words = if takes_groups profile words then tag_named profile name else None

-- the values of a tag within those of others, at most one for each tag there is, of all songs or of those of a filter
abbrev pub groups_of : Profile → Tag → List Word → Result FindingCommand CommandRefusal
groups_of profile tag words = do
  parts ← part_ends TAG_COUNT (only_tag tag) words
  filter ← filter_if_any profile parts.words
  Ok (commands.ListGroups (parts.tags ++ tag ∷ []) filter)

abbrev pub listing_of : Profile → Word → List Word → Option Tag → Result FindingCommand CommandRefusal
listing_of profile name words None = values_of profile name (listed_words profile name words)
listing_of profile name words (Some tag) = groups_of profile tag words

unfoldable pub list_of : Profile → List Word → Result FindingCommand CommandRefusal
list_of profile [] = Err WrongCount
list_of profile (name ∷ words) =
    if is_file profile name then files_of profile words else listing_of profile name words (grouped_tag profile name words)

-- the songs of each value of a tag, of all songs or of those of a filter
unfoldable pub group_counts_of : Profile → List Word → Result FindingCommand CommandRefusal
group_counts_of profile words = do
  tag ← end_tag empty_mask (tag_named Wide (last_word words))
  filter ← filter_if_any profile (without_end words)
  Ok (commands.CountGroups tag filter)

abbrev pub count_of : Profile → List Word → Result FindingCommand CommandRefusal
count_of profile words =
    if takes_groups profile words then group_counts_of profile words
    else (filter_alone profile words >>= λ filter. Ok (commands.Count filter))

unfoldable pub finding_of : Profile → FindingName → List Word → Result FindingCommand CommandRefusal
finding_of profile names.Count words = count_of profile words
finding_of profile names.Find words = find_of profile Exact words
finding_of profile names.FindAdd words = find_add_of profile Exact words
finding_of profile names.ListTag words = list_of profile words
finding_of profile names.QueueFind words = in_queue_of profile Exact words
finding_of profile names.QueueSearch words = in_queue_of profile Folded words
finding_of profile names.Search words = find_of profile Folded words
finding_of profile names.SearchAdd words = find_add_of profile Folded words
finding_of profile names.SearchAddPlaylist words = add_to_playlist_of profile words
