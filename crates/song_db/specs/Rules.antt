-- What a library of each profile takes for its songs.
use Rattle.profile.specs.declared.profile.Profile.{Profile}
use Rattle.profile.specs.declared.profile.Profile.TheVariants.{Named, Wide}
use Rattle.song_db.specs.declared.rules.LibraryRules.{LibraryRules}
use Rattle.song_db.specs.declared.rules.TheConstants.LibraryRules.{NAMED, WIDE}

abbrev pub rules_of : Profile → LibraryRules
rules_of Named = NAMED
rules_of Wide = WIDE
