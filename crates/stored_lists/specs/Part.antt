-- Which playlists can't be added behind those that were saved before them.
use Rattle.std.specs.Prelude.{ℕ, Bool, not, nat_le, List, length, Option, Some, None, if◌then◌else◌}
use Rattle.std.specs.List.{list_all}
use Rattle.std.specs.Ordering.{nat_cmp, is_lt}
use Rattle.std.specs.Cmp.Lexicographic.{slice_cmp}
use Rattle.stored_lists.specs.Limits.{MAX_LISTS}
use Rattle.stored_lists.specs.Lists.{Stored, is_full_for}
use Rattle.stored_lists.specs.Name.{is_good_name}
use Rattle.stored_lists.specs.declared.refusal.PartError.{PartError}
use Rattle.stored_lists.specs.declared.refusal.PartError.TheVariants.{BadName, NotRising, TooManyLists, TooManyEntries}

-- all names are below this one
abbrev pub is_last : Stored → List ℕ → Bool
is_last lists name = list_all (λ list. is_lt (slice_cmp nat_cmp list.0 name)) lists

-- the name, then its order, then the number of playlists and that of entries
abbrev pub part_refusal : Stored → List ℕ → ℕ → Option PartError
part_refusal lists name count =
    if not (is_good_name name) then Some BadName
    else if not (is_last lists name) then Some NotRising
    else if nat_le MAX_LISTS (length lists) then Some TooManyLists
    else if is_full_for lists count then Some TooManyEntries
    else None
