use Rattle.std.proofs.Common.{◌≡◌, ◌++◌, map}
use Rattle.song_db.specs.declared.place.Place.TheVariants.{Root}
use Rattle.stickers.specs.ByName.{by_name}
use Rattle.stickers.specs.Sticker.{flat}
use Rattle.stickers.specs.Find.{found_in, pair_of}
use Rattle.stickers.proofs.searching.find_in.Given as goal

-- what is found so far, and what is to be found in the songs that are left
abbrev pub invariant-loop-uri : goal.invariant-loop-uri
invariant-loop-uri l = map pair_of l.found.items ++ found_in (flat (by_name l.uri-iterator)) Root l.name l.test
    ≡ found_in (flat (by_name l.fn.songs)) Root l.name l.test
