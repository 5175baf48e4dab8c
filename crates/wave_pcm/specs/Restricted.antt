-- What a head tells where fewer tags are wanted.
use Rattle.std.specs.Prelude.{filter, Option, None, Result, Ok, Err, if◌then◌else◌, List, ℕ}
use Rattle.song_files.specs.TagSet.{has_tag}
use Rattle.song_files.specs.Tags.{TagText}
use Rattle.song_files.specs.declared.tag.Tag.{Tag}
use Rattle.song_files.specs.declared.tag_set.TagSet.{TagSet}
use Rattle.song_files.specs.declared.tag_set.TheConstants.TagSet.{ALL}
use Rattle.wave_pcm.specs.Parts.{file_parts}
use Rattle.wave_pcm.specs.Reading.{text_in, wave_reading}
use Rattle.wave_pcm.specs.declared.info.WaveInfo.{WaveInfo}
use Rattle.wave_pcm.specs.declared.refusal.WaveError.{WaveError}

-- the same but for the texts of other tags
abbrev pub restricted : TagSet → WaveInfo → WaveInfo
restricted wanted info = record info { tags = filter (λ (t : TagText). has_tag wanted t.tag) info.tags }

abbrev pub restricted_reading : TagSet → Result WaveInfo WaveError → Result WaveInfo WaveError
restricted_reading wanted (Ok info) = Ok (restricted wanted info)
restricted_reading wanted (Err e) = Err e

-- the reading with all tags
abbrev pub full_reading : List ℕ → Result WaveInfo WaveError
full_reading file = wave_reading file ALL

-- the text that a file has of a tag, where the tag is wanted
abbrev pub wanted_text : List ℕ → TagSet → Tag → Option (List ℕ)
wanted_text file wanted tag = if has_tag wanted tag then text_in (file_parts file) tag else None
