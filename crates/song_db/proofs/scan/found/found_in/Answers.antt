use Rattle.std.proofs.Common.{◌≡◌, ◌∙◌, ℕ, Bool, true, false, List, Option, Some, Ok, Err, refl, ap}
use Rattle.std.specs.Prelude.{if◌then◌else◌, Result, IfOk, IfErr, option_map}
use Rattle.std.specs.Result.{result_ok}
use Rattle.song_files.specs.declared.folder.FileStamp.{FileStamp}
use Rattle.wave_pcm.specs.Reading.{IsVerdict}
use Rattle.song_head.specs.SongReading.{song_reading}
use Rattle.wave_pcm.specs.declared.info.WaveInfo.{WaveInfo}
use Rattle.wave_pcm.specs.declared.refusal.WaveError.{WaveError}
use Rattle.wave_pcm.specs.declared.refusal.WaveError.TheVariants.{NoMemory, NotWave, NoFormat, Unsupported, NoData, ReadFault, TooManyTurns}
use Rattle.std.proofs.lemmas.Result.{IfOk-at_ok}
use Rattle.song_db.specs.declared.refusal.SongDbError.{SongDbError}
use Rattle.song_db.specs.declared.scan.found.Found.{Found}
use Rattle.song_db.specs.declared.scan.found.Found.TheVariants.{Song, NoSong}
use Rattle.song_db.specs.Found.{found_of, IsKnown, IsOf, IsSongIn}
use Rattle.song_db.specs.Scan.{has_row}
use Rattle.song_db.specs.Music.{song_in}
use Rattle.song_db.specs.declared.rules.LibraryRules.{LibraryRules}
use Rattle.song_db.specs.Row.{row_of, is_within_limits, kept_stamp}
use Rattle.song_db.proofs.scan.found.found_in.Goals as goal

of_uri : (uri : List ℕ) (stamp : Option FileStamp) (head : Result WaveInfo WaveError) → IfOk (found_of uri stamp head) (IsOf uri)
of_uri uri stamp (Ok info) = by_cases (is_within_limits (row_of uri info stamp))
  where
    by_cases : (b : Bool) → IsOf uri (if b then Song (row_of uri info stamp) else NoSong)
    by_cases true = refl
    by_cases false = tt
of_uri uri stamp (Err NoMemory) = tt
of_uri uri stamp (Err ReadFault) = refl
of_uri uri stamp (Err NotWave) = tt
of_uri uri stamp (Err NoFormat) = tt
of_uri uri stamp (Err (Unsupported tag bits channels)) = tt
of_uri uri stamp (Err NoData) = tt
of_uri uri stamp (Err TooManyTurns) = tt

refused : (rules : LibraryRules) (stamp : Option FileStamp) (uri bytes : List ℕ) (e : WaveError) → song_reading bytes rules.reading ≡ Err e
    → has_row (song_in rules stamp uri bytes) ≡ false
refused rules stamp uri bytes e read = ap (λ reading. has_row (option_map (λ info. row_of uri info (kept_stamp rules stamp)) (result_ok reading))) read

song_of : (rules : LibraryRules) (stamp : Option FileStamp) (uri bytes : List ℕ) (head : Result WaveInfo WaveError)
    → kept_stamp rules stamp ≡ stamp → IfOk head (λ info. song_reading bytes rules.reading ≡ Ok info)
    → IfErr head (λ e. IsVerdict e → song_reading bytes rules.reading ≡ Err e)
    → IfOk (found_of uri stamp head) (IsSongIn (song_in rules stamp uri bytes))
song_of rules stamp uri bytes (Ok info) kept read verdict = by_cases (is_within_limits (row_of uri info stamp)) refl
  where
    is_row : song_in rules stamp uri bytes ≡ Some (row_of uri info stamp)
    is_row = ap (λ reading. option_map (λ info. row_of uri info (kept_stamp rules stamp)) (result_ok reading)) read
        ∙ ap (λ s. Some (row_of uri info s)) kept

    by_cases : (b : Bool) → is_within_limits (row_of uri info stamp) ≡ b
        → IsSongIn (song_in rules stamp uri bytes) (if b then Song (row_of uri info stamp) else NoSong)
    by_cases true told = (is_row, told)
    by_cases false told = ap has_row is_row ∙ told
song_of rules stamp uri bytes (Err NoMemory) kept read verdict = tt
song_of rules stamp uri bytes (Err ReadFault) kept read verdict = tt
song_of rules stamp uri bytes (Err NotWave) kept read verdict = refused rules stamp uri bytes NotWave (verdict tt)
song_of rules stamp uri bytes (Err NoFormat) kept read verdict = refused rules stamp uri bytes NoFormat (verdict tt)
song_of rules stamp uri bytes (Err (Unsupported tag bits channels)) kept read verdict =
    refused rules stamp uri bytes (Unsupported tag bits channels) (verdict tt)
song_of rules stamp uri bytes (Err NoData) kept read verdict = refused rules stamp uri bytes NoData (verdict tt)
song_of rules stamp uri bytes (Err TooManyTurns) kept read verdict = refused rules stamp uri bytes TooManyTurns (verdict tt)

-- what holds of an answer holds of what is the answer, if any is
same_answer : (r answer : Result Found SongDbError) (P : Found → Type 0) → IfOk r (λ found. answer ≡ Ok found) → IfOk answer P → IfOk r P
same_answer (Ok found) answer P is holds = IfOk-at_ok P is holds
same_answer (Err e) answer P is holds = tt

pub returns-in-Ok-Some-clause-of : goal.returns-in-Ok-Some-clause-of
returns-in-Ok-Some-clause-of g c = same_answer c.found_of.result (found_of c.args.uri c.args.stamp c.read_song-head.result) (IsOf c.args.uri)
    c.found_of.ensures.found (of_uri c.args.uri c.args.stamp c.read_song-head.result)

pub returns-in-Ok-Some-clause-song : goal.returns-in-Ok-Some-clause-song
returns-in-Ok-Some-clause-song g c = λ source is told kept.
    let same : source ≡ c.in-Ok-Some.source = cc in
    rw same (same_answer c.found_of.result (found_of c.args.uri c.args.stamp c.read_song-head.result) (IsSongIn (song_in c.args.rules
    c.args.stamp c.args.uri (g.S.Source.bytes c.in-Ok-Some.source))) c.found_of.ensures.found
    (song_of c.args.rules c.args.stamp c.args.uri (g.S.Source.bytes c.in-Ok-Some.source) c.read_song-head.result kept
    (c.read_song-head.ensures.head (rw same at told)) (c.read_song-head.ensures.refused (rw same at told))))

known_of : (uri : List ℕ) (stamp : Option FileStamp) (head : Result WaveInfo WaveError) → (head ≡ Err ReadFault → ⊥) → IfOk (found_of uri stamp head) IsKnown
known_of uri stamp (Ok info) steady = by_cases (is_within_limits (row_of uri info stamp))
  where
    by_cases : (b : Bool) → IsKnown (if b then Song (row_of uri info stamp) else NoSong)
    by_cases true = tt
    by_cases false = tt
known_of uri stamp (Err NoMemory) steady = tt
known_of uri stamp (Err ReadFault) steady = absurd (steady refl)
known_of uri stamp (Err NotWave) steady = tt
known_of uri stamp (Err NoFormat) steady = tt
known_of uri stamp (Err (Unsupported tag bits channels)) steady = tt
known_of uri stamp (Err NoData) steady = tt
known_of uri stamp (Err TooManyTurns) steady = tt

pub returns-in-Ok-Some-clause-known : goal.returns-in-Ok-Some-clause-known
returns-in-Ok-Some-clause-known g c = λ source is told steady.
    let same : source ≡ c.in-Ok-Some.source = cc in
    same_answer c.found_of.result (found_of c.args.uri c.args.stamp c.read_song-head.result) IsKnown c.found_of.ensures.found
    (known_of c.args.uri c.args.stamp c.read_song-head.result (c.read_song-head.ensures.steady (rw same at told) (rw same at steady)))
