-- The values that some of the songs tell of a tag, each with the numbers of those that tell it.
use denote.Ref.{Bor}
use Rattle.std.specs.Prelude.{ℕ, ◌≤◌, suc, ◌==◌, Bool, false, List, [], ◌∷◌, ◌++◌, filter, map, Option, Some, None, slice_get}
use Rattle.std.specs.Prelude.{if◌then◌else◌}
use Rattle.std.specs.BTreeMap.{BTreeMap, get_by}
use Rattle.std.specs.Cmp.Lexicographic.{slice_cmp}
use Rattle.std.specs.Global.{Vec}
use Rattle.std.specs.List.{filter_map, last_or, list_any}
use Rattle.std.specs.Option.{is_some}
use Rattle.std.specs.Ordering.{nat_cmp}
use Rattle.std.specs.Str.{bytes_eq}
use Rattle.profile.specs.declared.profile.Profile.{Profile}
use Rattle.song_db.specs.Row.{Row}
use Rattle.song_files.specs.declared.tag.Tag.{Tag}
use Rattle.machine_core.specs.Finding.{told_texts, told_values}
use Rattle.machine_core.specs.declared.commands.finding.groups.Run.{Run}

-- the songs with these numbers
abbrev pub rows_at : List Row → List ℕ → List Row
rows_at rows numbers = filter_map (slice_get rows) numbers

-- each number is greater than the one before it
abbrev pub AreFrom : ℕ → List ℕ → Type 0
AreFrom least [] = Unit {0}
AreFrom least (n ∷ ns) = (least ≤ n) × AreFrom (suc n) ns

abbrev pub AreRising : List ℕ → Type 0
AreRising numbers = AreFrom 0 numbers

-- what the song with a number tells, if there is one
abbrev pub texts_at : Profile → Tag → Option Row → List (List ℕ)
texts_at profile tag None = []
texts_at profile tag (Some row) = told_texts profile tag row

abbrev pub tells : Profile → Tag → List Row → List ℕ → ℕ → Bool
tells profile tag rows value number = list_any (bytes_eq value) (texts_at profile tag (slice_get rows number))

-- a value, and the numbers of the songs that tell it
pub record Group : Type 0 where
  pub text : List ℕ
  pub numbers : List ℕ

abbrev pub group_of : Profile → Tag → List Row → List ℕ → List ℕ → Group
group_of profile tag rows numbers value = record { text = value; numbers = filter (tells profile tag rows value) numbers }

-- by the bytes of the values
abbrev pub groups_of : Profile → Tag → List Row → List ℕ → List Group
groups_of profile tag rows numbers = map (group_of profile tag rows numbers) (told_values profile (rows_at rows numbers) tag)

-- ---- how they are gathered: what stands side by side with the same text is one run

abbrev pub run_of : Run → Group
run_of run = record { text = run.text.now; numbers = run.numbers.items }

abbrev pub is_last : Option ℕ → ℕ → Bool
is_last None n = false
is_last (Some m) n = m == n

-- a number behind others, unless it is the last of them
abbrev pub with_number : List ℕ → ℕ → List ℕ
with_number ms n = if is_last (last_or None ms) n then ms else ms ++ n ∷ []

abbrev pub with_numbers : List ℕ → List ℕ → List ℕ
with_numbers ms [] = ms
with_numbers ms (n ∷ ns) = with_numbers (with_number ms n) ns

abbrev pub has_text : Option Group → List ℕ → Bool
has_text None text = false
has_text (Some g) text = bytes_eq g.text text

abbrev pub ends_with : List Group → List ℕ → Bool
ends_with gs text = has_text (last_or None gs) text

abbrev pub to_last : List Group → ℕ → List Group
to_last [] n = []
to_last (g ∷ []) n = record g { numbers = with_number g.numbers n } ∷ []
to_last (g ∷ h ∷ gs) n = g ∷ to_last (h ∷ gs) n

-- a text that a song tells
abbrev pub with_told : List Group → List ℕ → ℕ → List Group
with_told gs text n = if ends_with gs text then to_last gs n else gs ++ record { text = text; numbers = n ∷ [] } ∷ []

-- all that it tells
abbrev pub with_song : List (List ℕ) → ℕ → List Group → List Group
with_song [] n gs = gs
with_song (text ∷ texts) n gs = with_song texts n (with_told gs text n)

-- what songs tell, one after the other
abbrev pub runs_told : Profile → Tag → List Row → List Group → List ℕ → List Group
runs_told profile tag rows gs [] = gs
runs_told profile tag rows gs (n ∷ ns) = runs_told profile tag rows (with_song (texts_at profile tag (slice_get rows n)) n gs) ns

-- ---- the runs of a text are put together under it

abbrev pub Groups : Type 0
Groups = BTreeMap (Bor (List ℕ)) (Vec ℕ)

abbrev pub entry_group : Bor (List ℕ) × Vec ℕ → Group
entry_group entry = record { text = entry.0.now; numbers = entry.1.items }

abbrev pub found_under : Groups → List ℕ → Option (Vec ℕ)
found_under groups text = get_by (λ key. slice_cmp nat_cmp text key.now) groups

abbrev pub is_under : Groups → List ℕ → Bool
is_under groups text = is_some (found_under groups text)

abbrev pub numbers_or_none : Option (Vec ℕ) → List ℕ
numbers_or_none None = []
numbers_or_none (Some numbers) = numbers.items

-- the numbers under a text, none where it isn't there
abbrev pub numbers_under : Groups → List ℕ → List ℕ
numbers_under groups text = numbers_or_none (found_under groups text)
