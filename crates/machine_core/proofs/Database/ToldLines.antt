-- What is told of the songs under a place, one song after the other; and what a place tells under each profile.
use Rattle.std.proofs.Common.{◌≡◌, ℕ, ◌+◌, ◌<◌, ◌≤◌, true, false, List, [], ◌∷◌, ◌++◌, length, drop, get_or}
use Rattle.std.proofs.Common.{Option, Some, None, is_some, Ok, Err, Bor, refl, ap, sym, ◌∙◌}
use Rattle.std.proofs.Math.ListN.{drop_of_length-le}
use Rattle.std.specs.List.{filter_map, flat_map}
use Rattle.std.specs.Global.{Vec}
use Rattle.std.specs.Option.{is_none, option_copied}
use Rattle.std.specs.Prelude.{if◌then◌else◌}
use Rattle.command_text.proofs.LineLoops.{Leaves}
use Rattle.command_text.specs.declared.refusal.CommandRefusal.TheVariants.{NoSuchUri}
use Rattle.command_text.specs.declared.tag_mask.TagMask.{TagMask}
use Rattle.profile.specs.declared.profile.Profile.TheVariants.{Named, Wide}
use Rattle.song_db.specs.Query.{folder_of, is_folder, is_right_in}
use Rattle.song_db.specs.Row.{Row}
use Rattle.song_db.specs.ToldWalk.{apart, is_text, told_songs_in}
use Rattle.song_db.specs.declared.place.Place.{Place}
use Rattle.state_codec.specs.SavedState.{SavedState}
use Rattle.machine_core.specs.Database.{all_below, content_lines, folder_info, folder_line, item_lines, root_lists}
use Rattle.machine_core.specs.Ordered.{walk_in}
use Rattle.machine_core.specs.declared.answer_database.Detail.{Detail}
use Rattle.machine_core.proofs.Finding.Steps.{rest_is}

-- the same items left, told otherwise
pub leaves_same : {X : Type 0} (lines : X → List ℕ) (all left other : List X) (before now : Vec ℕ) → left ≡ other
    → Leaves lines all left before now → Leaves lines all other before now
leaves_same lines all left other before now same h result after k = h result after (rw same k)

-- whether a song stands right in the place, by the folder of its path
pub right_in : (place : Place) (path other : List ℕ) (folder : Option (Bor (List ℕ))) → option_copied folder ≡ folder_of place path
    → path ≡ other → is_some folder ≡ false → is_right_in place other ≡ true
right_in place path other None is same none = ap is_none (ap (folder_of place) (sym same) ∙ sym is)
right_in place path other (Some folder) is same none = absurd (cc)

pub further_down : (place : Place) (path other : List ℕ) (folder : Option (Bor (List ℕ))) → option_copied folder ≡ folder_of place path
    → path ≡ other → is_some folder ≡ true → is_right_in place other ≡ false
further_down place path other None is same some = absurd (cc)
further_down place path other (Some folder) is same some = ap is_none (ap (folder_of place) (sym same) ∙ sym is)

-- a song in a folder further down, and one right in the place
pub song_passed : (place : Place) (rows : List Row) (i : ℕ) (row : Row) → i < length rows → row ≡ get_or rows i row
    → is_right_in place row.uri ≡ false → told_songs_in place (drop i rows) ≡ told_songs_in place (drop (i + 1) rows)
song_passed place rows i row h is other = rw (rest_is rows i row h is, other) refl

pub song_met : (place : Place) (rows : List Row) (i : ℕ) (row : Row) → i < length rows → row ≡ get_or rows i row
    → is_right_in place row.uri ≡ true → told_songs_in place (drop i rows) ≡ row ∷ told_songs_in place (drop (i + 1) rows)
song_met place rows i row h is here = rw (rest_is rows i row h is, here) refl

pub no_songs : (place : Place) (rows : List Row) (i : ℕ) → length rows ≤ i → told_songs_in place (drop i rows) ≡ []
no_songs place rows i h = ap (told_songs_in place) (drop_of_length-le rows h)

-- the folder that was found of a song's path
pub folder_is : (place : Place) (path other : List ℕ) (found : Option (Bor (List ℕ))) (folder : Bor (List ℕ))
    → option_copied found ≡ folder_of place path → path ≡ other → found ≡ Some folder → folder_of place other ≡ Some folder.now
folder_is place path other found folder is same some = ap (folder_of place) (sym same) ∙ sym is ∙ ap option_copied some

pub folder_none : (place : Place) (path other : List ℕ) (found : Option (Bor (List ℕ))) → option_copied found ≡ folder_of place path
    → path ≡ other → found ≡ None → folder_of place other ≡ None
folder_none place path other found is same none = ap (folder_of place) (sym same) ∙ sym is ∙ ap option_copied none

-- the folders that are left behind the one before
abbrev pub folders_left : Place → Option (List ℕ) → List Row → List (List ℕ)
folders_left place before rows = apart before (filter_map (λ (row : Row). folder_of place row.uri) rows)

pub no_folder : (place : Place) (before : Option (List ℕ)) (rows : List Row) (i : ℕ) (row : Row) → i < length rows → row ≡ get_or rows i row
    → folder_of place row.uri ≡ None → folders_left place before (drop i rows) ≡ folders_left place before (drop (i + 1) rows)
no_folder place before rows i row h is none = rw (rest_is rows i row h is, none) refl

pub same_folder : (place : Place) (before : Option (List ℕ)) (rows : List Row) (i : ℕ) (row : Row) (folder : List ℕ) → i < length rows
    → row ≡ get_or rows i row → folder_of place row.uri ≡ Some folder → is_text folder before ≡ true
    → folders_left place before (drop i rows) ≡ folders_left place before (drop (i + 1) rows)
same_folder place before rows i row folder h is some same = rw (rest_is rows i row h is, some, same) refl

pub new_folder : (place : Place) (before : Option (List ℕ)) (rows : List Row) (i : ℕ) (row : Row) (folder : List ℕ) → i < length rows
    → row ≡ get_or rows i row → folder_of place row.uri ≡ Some folder → is_text folder before ≡ false
    → folders_left place before (drop i rows) ≡ folder ∷ folders_left place (Some folder) (drop (i + 1) rows)
new_folder place before rows i row folder h is some other = rw (rest_is rows i row h is, some, other) refl

pub no_folders : (place : Place) (before : Option (List ℕ)) (rows : List Row) (i : ℕ) → length rows ≤ i
    → folders_left place before (drop i rows) ≡ []
no_folders place before rows i h = ap (folders_left place before) (drop_of_length-le rows h)

-- what stands below a folder that is there
pub below_by_uri : (detail : Detail) (s : SavedState) (place : Place) → s.profile ≡ Named → is_folder s.songs place ≡ true
    → all_below detail s place ≡ Ok (flat_map (item_lines detail) (walk_in Named s.songs place))
below_by_uri detail s place profile there =
    λ i. if there i then Ok (folder_line (profile i) place ++ flat_map (item_lines detail) (walk_in (profile i) s.songs place))
    else Err NoSuchUri

pub below_told : (detail : Detail) (s : SavedState) (place : Place) → s.profile ≡ Wide → is_folder s.songs place ≡ true
    → all_below detail s place ≡ Ok (folder_line Wide place ++ flat_map (item_lines detail) (walk_in Wide s.songs place))
below_told detail s place profile there =
    λ i. if there i then Ok (folder_line (profile i) place ++ flat_map (item_lines detail) (walk_in (profile i) s.songs place))
    else Err NoSuchUri

-- and what stands right in it
pub folder_by_uri : (mask : TagMask) (s : SavedState) (place : Place) → s.profile ≡ Named → is_folder s.songs place ≡ true
    → folder_info mask s place ≡ Ok (content_lines mask Named s.songs place ++ [])
folder_by_uri mask s place profile there =
    λ i. if there i then Ok (content_lines mask (profile i) s.songs place ++ root_lists (profile i) s.changed s.lists place) else Err NoSuchUri

pub folder_told : (mask : TagMask) (s : SavedState) (place : Place) → s.profile ≡ Wide → is_folder s.songs place ≡ true
    → folder_info mask s place ≡ Ok (content_lines mask Wide s.songs place ++ root_lists s.profile s.changed s.lists place)
folder_told mask s place profile there =
    λ i. if there i then Ok (content_lines mask (profile i) s.songs place ++ root_lists s.profile s.changed s.lists place) else Err NoSuchUri
