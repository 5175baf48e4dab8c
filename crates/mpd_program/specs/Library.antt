-- By which rules the songs of a configuration are found and read.
use Rattle.std.specs.Prelude.{Bool, true, false, ◌||◌}
use Rattle.profile.specs.declared.profile.Profile.{Profile}
use Rattle.profile.specs.declared.profile.Profile.TheVariants.{Named, Wide}
use Rattle.song_files.specs.declared.tag_set.TheConstants.TagSet.{SIX, ALL}
use Rattle.song_db.specs.declared.rules.Endings.{Endings}
use Rattle.song_db.specs.declared.rules.LibraryRules.{LibraryRules}
use Rattle.as_wave.specs.declared.forms.Forms.{Forms}

-- files are found by `.wave` and `.flac` where these forms are, and by those of a decoder where there is one, beside `.wav`
abbrev pub endings_of : Forms → Bool → Endings
endings_of forms decodes = record { wave = forms.wave_pcm; flac = forms.flac; decoded = decodes }

-- Of the named subset ID3v2's texts are read with either form or a decoder; of the wide profile they are always, with all of their tags, and
-- rows keep the stamps of their files.
abbrev pub rules_of : Profile → Forms → Bool → LibraryRules
rules_of Named forms decodes = record {
  endings = endings_of forms decodes;
  reading = record { tags = SIX; id3 = forms.wave_pcm || forms.flac || decodes; several = false };
  keeps_stamps = false;
}
rules_of Wide forms decodes = record {
  endings = endings_of forms decodes;
  reading = record { tags = ALL; id3 = true; several = true };
  keeps_stamps = true;
}
