-- Which tags a client sees: a mask is a number whose bits are the tags of these numbers; and what `tagtypes` does to it.
use Rattle.std.specs.Prelude.{ℕ, ◌-◌, ◌^◌, ◌==◌, Bool, List, [], ◌∷◌, Option, Some, option_and_then, Result, Ok, Err, codes}
use Rattle.std.specs.Prelude.{bit_and, bit_or, if◌then◌else◌}
use Rattle.std.specs.Int.{bit_at, bit_not, w64}
use Rattle.std.specs.Option.{ok_or}
use Rattle.std.specs.Str.{bytes_eq}
use Rattle.profile.specs.declared.profile.Profile.TheVariants.{Wide}
use Rattle.filter_expr.specs.Names.{tag_named}
use Rattle.song_files.specs.Tag.{number_of}
use Rattle.song_files.specs.declared.tag.Tag.{Tag}
use Rattle.song_files.specs.declared.tag.TheConstants.{TAG_COUNT}
use Rattle.command_text.specs.declared.refusal.CommandRefusal.{CommandRefusal}
use Rattle.command_text.specs.declared.refusal.CommandRefusal.TheVariants.{Tags}
use Rattle.command_text.specs.declared.refusal.TagsRefusal.TheVariants.{MissingArguments, TooManyArguments, UnknownSubCommand}
use Rattle.command_text.specs.declared.refusal.TagsRefusal.TheVariants.{UnknownTagType}
use Rattle.command_text.specs.declared.tag_mask.MaskChange.{MaskChange}
use Rattle.command_text.specs.declared.tag_mask.MaskChange.TheVariants.{Clear, All, Enable, Disable}
use Rattle.command_text.specs.declared.tag_mask.TagMask.{TagMask}
use Rattle.command_text.specs.Counts.{◌>>=◌, Word}

abbrev pub tag_mask : ℕ → TagMask
tag_mask bits = record { bits = bits }

abbrev pub empty_mask : TagMask
empty_mask = tag_mask 0

-- what a client sees that has not asked for less
abbrev pub all_in_mask : TagMask
all_in_mask = tag_mask (2 ^ TAG_COUNT - 1)

abbrev pub is_all : TagMask → Bool
is_all mask = mask.bits == (2 ^ TAG_COUNT - 1)

abbrev pub only_tag : Tag → TagMask
only_tag tag = tag_mask (2 ^ number_of tag)

abbrev pub has : TagMask → Tag → Bool
has mask tag = bit_at mask.bits (number_of tag) == 1

abbrev pub with_tags : TagMask → TagMask → TagMask
with_tags mask others = tag_mask (bit_or mask.bits others.bits)

abbrev pub without_tags : TagMask → TagMask → TagMask
without_tags mask others = tag_mask (bit_and mask.bits (bit_not w64 others.bits))

-- the mask behind a change
abbrev pub after_change : MaskChange → TagMask → TagMask
after_change Clear mask = empty_mask
after_change All mask = all_in_mask
after_change (Enable others) mask = with_tags mask others
after_change (Disable others) mask = without_tags mask others

-- ---- what `tagtypes` with arguments asks for

-- a change that names no tag
abbrev pub change_alone : MaskChange → List Word → Result MaskChange CommandRefusal
change_alone change [] = Ok change
change_alone change (word ∷ words) = Err (Tags TooManyArguments)

-- a mask with the tags that words name, if each names one
unfoldable pub with_named : TagMask → List Word → Option TagMask
with_named mask [] = Some mask
with_named mask (word ∷ words) = option_and_then (λ tag. with_named (with_tags mask (only_tag tag)) words) (tag_named Wide word)

-- the tags that words name, one at least
abbrev pub named_tags : List Word → Result TagMask CommandRefusal
named_tags [] = Err (Tags MissingArguments)
named_tags (word ∷ words) = ok_or (with_named empty_mask (word ∷ words)) (Tags UnknownTagType)

-- the change that a word asks for, with the words behind it
unfoldable pub mask_change : Word → List Word → Result MaskChange CommandRefusal
mask_change what words =
    if bytes_eq what (codes "clear") then change_alone Clear words
    else (if bytes_eq what (codes "all") then change_alone All words
    else (if bytes_eq what (codes "enable") then (named_tags words >>= λ tags. Ok (Enable tags))
    else (if bytes_eq what (codes "disable") then (named_tags words >>= λ tags. Ok (Disable tags))
    else Err (Tags UnknownSubCommand))))
