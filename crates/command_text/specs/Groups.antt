-- `group TAG` behind a `list` or a `count`, which the wide profile knows.
use Rattle.std.specs.Prelude.{ℕ, zero, suc, ◌-◌, List, [], ◌∷◌, ◌++◌, length, take, Bool, false, slice_index_or, codes}
use Rattle.std.specs.Prelude.{Option, Some, None, Result, Ok, Err, if◌then◌else◌, nat_le, ◌&&◌}
use Rattle.std.specs.Str.{bytes_eq}
use Rattle.profile.specs.declared.profile.Profile.{Profile}
use Rattle.profile.specs.declared.profile.Profile.TheVariants.{Named, Wide}
use Rattle.filter_expr.specs.Names.{tag_named}
use Rattle.song_files.specs.declared.tag.Tag.{Tag}
use Rattle.command_text.specs.declared.refusal.CommandRefusal.{CommandRefusal}
use Rattle.command_text.specs.declared.refusal.CommandRefusal.TheVariants.{Tags}
use Rattle.command_text.specs.declared.refusal.TagsRefusal.TheVariants.{ConflictingGroup, UnknownTagType}
use Rattle.command_text.specs.declared.tag_mask.TagMask.{TagMask}
use Rattle.command_text.specs.Counts.{Word}
use Rattle.command_text.specs.Masks.{has, only_tag, with_tags}

-- the words end in `group TAG`
unfoldable pub is_grouped : List Word → Bool
is_grouped words = nat_le 2 (length words) && bytes_eq (slice_index_or words (length words - 2) []) (codes "group")

abbrev pub takes_groups : Profile → List Word → Bool
takes_groups Named words = false
takes_groups Wide words = is_grouped words

-- the words before such ends, and their tags, the last one first: that is the outermost
pub record Parted : Type 0 where
  pub words : List Word
  pub tags : List Tag

abbrev pub parted : List Word → List Tag → Parted
parted words tags = record { words = words; tags = tags }

abbrev pub with_outer : List Tag → Result Parted CommandRefusal → Result Parted CommandRefusal
with_outer tags (Ok p) = Ok (parted p.words (tags ++ p.tags))
with_outer tags (Err refusal) = Err refusal

-- the tag of an end, one that was not named before
abbrev pub end_tag : TagMask → Option Tag → Result Tag CommandRefusal
end_tag before None = Err (Tags UnknownTagType)
end_tag before (Some tag) = if has before tag then Err (Tags ConflictingGroup) else Ok tag

abbrev pub last_word : List Word → Word
last_word words = slice_index_or words (length words - 1) []

abbrev pub without_end : List Word → List Word
without_end words = take (length words - 2) words

abbrev pub part_end : Result Tag CommandRefusal → (Tag → Result Parted CommandRefusal) → Result Parted CommandRefusal
part_end (Err refusal) more = Err refusal
part_end (Ok tag) more = with_outer (tag ∷ []) (more tag)

-- at most so many ends, behind tags that were named before
unfoldable pub part_ends : ℕ → TagMask → List Word → Result Parted CommandRefusal
part_ends zero before words = Ok (parted words [])
part_ends (suc most) before words =
    if is_grouped words
    then part_end (end_tag before (tag_named Wide (last_word words)))
    (λ tag. part_ends most (with_tags before (only_tag tag)) (without_end words))
    else Ok (parted words [])
