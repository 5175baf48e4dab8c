-- Sets of tags.
use Rattle.std.specs.Prelude.{Bool, List, filter, ◌==◌}
use Rattle.std.specs.Int.{bit_at}
use Rattle.song_files.specs.Tag.{all_tags, number_of}
use Rattle.song_files.specs.declared.tag.Tag.{Tag}
use Rattle.song_files.specs.declared.tag_set.TagSet.{TagSet}

-- a set has a tag where the bit of the tag's number is 1
unfoldable pub has_tag : TagSet → Tag → Bool
has_tag set tag = bit_at set.mask (number_of tag) == 1

-- the tags of a set, in the order of their numbers
abbrev pub tags_in : TagSet → List Tag
tags_in set = filter (has_tag set) all_tags
