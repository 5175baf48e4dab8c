use Rattle.std.proofs.Common.{◌≡◌, Bool, true, false, Some, None, refl, sym, ap, ◌∙◌}
use Rattle.std.specs.Prelude.{Ok, if◌then◌else◌}
use Rattle.song_db.specs.declared.scan.found.Found.TheVariants.{Song, NoSong}
use Rattle.song_db.specs.Row.{Row, row_of, is_within_limits}
use Rattle.song_db.proofs.scan.found.found_of.Goals as goal

song : (b : Bool) (row own : Row) → Some row ≡ (if b then Some own else None) → (if b then Song own else NoSong) ≡ Song row
song true row own is = cc
song false row own is = absurd (cc)

no_song : (b : Bool) (own : Row) → None ≡ (if b then Some own else None) → (if b then Song own else NoSong) ≡ NoSong
no_song true own is = absurd (cc)
no_song false own is = refl

pub returns-in-Some-clause-found : goal.returns-in-Some-clause-found
returns-in-Some-clause-found c = rw c.in-Ok.is (ap Ok (song (is_within_limits (row_of c.args.uri c.in-Ok.info c.args.stamp)) c.in-Some.row
    (row_of c.args.uri c.in-Ok.info c.args.stamp) (sym c.in-Some.is ∙ c.in_ok-row-in-Ok.ensures)))

pub returns-in-None-clause-found : goal.returns-in-None-clause-found
returns-in-None-clause-found c = rw c.in-Ok.is (ap Ok (no_song (is_within_limits (row_of c.args.uri c.in-Ok.info c.args.stamp)) (row_of
    c.args.uri c.in-Ok.info c.args.stamp) (sym c.in-None.is ∙ c.in_ok-row-in-Ok.ensures)))
