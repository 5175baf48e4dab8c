-- Which stickers can't be added behind those that were saved before them.
use Rattle.std.specs.Prelude.{◌≡◌, ℕ, Bool, true, not, nat_le, List, [], length, Option, Some, None, string_bytes, if◌then◌else◌}
use Rattle.std.specs.declared.string.String.{String}
use Rattle.std.specs.declared.alloc.Global.{Global}
use Rattle.std.specs.List.{list_all}
use Rattle.std.specs.Ordering.{is_lt}
use Rattle.stickers.specs.Limits.{MAX_STICKERS}
use Rattle.stickers.specs.Name.{is_good_name}
use Rattle.stickers.specs.Sticker.{Sticker, sticker, compare}
use Rattle.stickers.specs.declared.refusal.PartError.{PartError}
use Rattle.stickers.specs.declared.refusal.PartError.TheVariants.{BadName, NotRising, TooMany}

-- all stickers stand before one of this URI and name
abbrev pub is_last : List Sticker → List ℕ → List ℕ → Bool
is_last all uri name = list_all (λ s. is_lt (compare s (sticker uri (name, [])))) all

-- one of this URI and name stands behind the last one, if there is one
abbrev pub is_behind : Option (List ℕ × String Global) → List ℕ → List ℕ → Bool
is_behind None uri name = true
is_behind (Some last) uri name = is_lt (compare (sticker last.0 (string_bytes last.1, [])) (sticker uri (name, [])))

-- the last sticker tells what stands behind all
abbrev pub TellsLast : List Sticker → Option (List ℕ × String Global) → Type 0
TellsLast all last = (uri name : List ℕ) → is_last all uri name ≡ is_behind last uri name

-- the name, then the order, then the number of stickers
abbrev pub part_refusal : List Sticker → List ℕ → List ℕ → Option PartError
part_refusal all uri name =
    if not (is_good_name name) then Some BadName
    else if not (is_last all uri name) then Some NotRising
    else if nat_le MAX_STICKERS (length all) then Some TooMany
    else None
