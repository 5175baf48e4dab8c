-- Where a text lies in memory is nothing to what is found by it.
use Rattle.std.proofs.Common.{◌≡◌, ℕ, Bool, true, false, ◌&&◌, ◌||◌, List, [], ◌++◌}
use Rattle.std.proofs.Common.{Option, Some, None, Ok, Err, map, refl, ap, ◌∙◌, codes, Bor}
use Rattle.std.proofs.lemmas.List.Elements.{filter_agree}
use Rattle.std.specs.Prelude.{if◌then◌else◌}
use Rattle.std.specs.Str.{bytes_eq}
use Rattle.command_text.specs.declared.refusal.CommandRefusal.TheVariants.{NoSuchUri}
use Rattle.command_text.specs.declared.tag_mask.TagMask.{TagMask}
use Rattle.profile.specs.declared.profile.Profile.{Profile}
use Rattle.profile.specs.declared.profile.Profile.TheVariants.{Named, Wide}
use Rattle.song_db.specs.Place.{is_under, place_of}
use Rattle.song_db.specs.Query.{is_folder}
use Rattle.song_db.specs.Row.{Row}
use Rattle.song_db.specs.declared.place.Place.{Place}
use Rattle.song_db.specs.declared.place.Place.TheVariants.{At}
use Rattle.state_codec.specs.SavedState.{SavedState}
use Rattle.stickers.specs.Find.{is_found, uri_and_value, passes, passing, found_in}
use Rattle.stickers.specs.Sticker.{Sticker}
use Rattle.stickers.specs.declared.find.ValueTest.{ValueTest}
use Rattle.stored_lists.specs.Lists.{Stored}
use Rattle.stored_lists.specs.Times.{Times}
use Rattle.machine_core.specs.Database.{content_lines, folder_info, root_lists}
use Rattle.machine_core.specs.Lent.{lent}
use Rattle.machine_core.specs.State.{MachineState}
use Rattle.machine_core.specs.Stickers.{found_below}

same_lists : (profile : Profile) (times : Option Times) (lists : Stored) (a b : Bor (List ℕ))
    → root_lists profile times lists (At a) ≡ root_lists profile times lists (At b)
same_lists Named times lists a b = refl
same_lists Wide times lists a b = refl

same_content : (mask : TagMask) (profile : Profile) (songs : List Row) (path : Bor (List ℕ))
    → content_lines mask profile songs (At (lent path.now)) ≡ content_lines mask profile songs (At path)
same_content mask Named songs path = refl
same_content mask Wide songs path = refl

pub same_folder_info : (mask : TagMask) (path : Bor (List ℕ)) (s : SavedState)
    → folder_info mask s (place_of (lent path.now)) ≡ folder_info mask s (place_of path)
same_folder_info mask path s = by_cases (bytes_eq path.now [] || bytes_eq path.now (codes "/")) refl where
  by_cases : (b : Bool) → (bytes_eq path.now [] || bytes_eq path.now (codes "/")) ≡ b
      → folder_info mask s (place_of (lent path.now)) ≡ folder_info mask s (place_of path)
  by_cases true is = rw is
  by_cases false is =
      rw is (ap (λ (lists : List ℕ). if is_folder s.songs (At path) then Ok (content_lines mask s.profile s.songs (At
      (lent path.now)) ++ lists)
      else Err NoSuchUri) (same_lists s.profile s.changed s.lists (lent path.now) path)
      ∙ ap (λ (lines : List ℕ). if is_folder s.songs (At path) then Ok (lines ++ root_lists s.profile s.changed s.lists (At path)) else Err NoSuchUri)
      (same_content mask s.profile s.songs path))

pub same_below : (path : Bor (List ℕ)) (name : List ℕ) (test : ValueTest) (m : MachineState)
    → found_below (place_of (lent path.now)) name test m ≡ found_below (place_of path) name test m
same_below path name test m = by_cases (bytes_eq path.now [] || bytes_eq path.now (codes "/")) refl where
  by_cases : (b : Bool) → (bytes_eq path.now [] || bytes_eq path.now (codes "/")) ≡ b
      → found_below (place_of (lent path.now)) name test m ≡ found_below (place_of path) name test m
  by_cases true is = rw is
  by_cases false is = rw is

-- tests that agree find the same
abbrev pub Agree : ValueTest → ValueTest → Type 0
Agree test other = (value : List ℕ) → passes test value ≡ passes other value

pub same_passing : (test other : ValueTest) (value : Option (List ℕ)) → Agree test other → passing test value ≡ passing other value
same_passing test other None h = refl
same_passing test other (Some value) h = rw (h value)

pub same_found : (all : List Sticker) (place : Place) (name : List ℕ) (test other : ValueTest) → Agree test other
    → found_in all place name test ≡ found_in all place name other
same_found all place name test other h =
    ap (map uri_and_value) (filter_agree (is_found place name test) (is_found place name other)
    (λ s. ap (λ b. is_under place s.uri && (bytes_eq name s.name && b)) (h s.value)) all)

pub same_found_below : (place : Place) (name : List ℕ) (test other : ValueTest) (m : MachineState) → Agree test other
    → found_below place name test m ≡ found_below place name other m
same_found_below place name test other m h = rw (same_found m.saved.stickers place name test other h)
