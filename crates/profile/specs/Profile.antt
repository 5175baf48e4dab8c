-- What the daemon knows of MPD.
use Rattle.profile.specs.declared.profile.Profile.{Profile}
use Rattle.profile.specs.declared.profile.Profile.TheVariants.{Named, Wide}
use Rattle.song_files.specs.declared.tag_set.TagSet.{TagSet}
use Rattle.song_files.specs.declared.tag_set.TheConstants.TagSet.{SIX, ALL}

-- the tags that are read, told and asked for
abbrev pub tags_of : Profile → TagSet
tags_of Named = SIX
tags_of Wide = ALL
