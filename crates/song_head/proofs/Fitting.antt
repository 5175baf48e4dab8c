-- The texts that a song's reading tells take no more bytes than they may.
use Rattle.std.proofs.Common.{◌≡◌, ℕ, ◌+◌, ◌-◌, ◌≤◌, Bool, true, false, nat_le, List, [], ◌∷◌, length, take, Some, None, Ok, Err, cond, refl, sym, ap, ◌∙◌, arith}
use Rattle.std.specs.Prelude.{IfOk, Option, Result}
use Rattle.std.proofs.lemmas.Bool.Decides.{nat_tests}
use Rattle.std.proofs.lemmas.List.Sums.{sum_by-cons}
use Rattle.id3_tags.specs.declared.tag.Id3Tag.{Id3Tag}
use Rattle.song_files.specs.Tags.{TagText}
use Rattle.wave_pcm.specs.Reading.{wave_reading, id3_chunk}
use Rattle.wave_pcm.specs.declared.info.WaveInfo.{WaveInfo}
use Rattle.wave_pcm.specs.declared.refusal.WaveError.{WaveError}
use Rattle.id3_tags.specs.Texts.{FrameText}
use Rattle.song_files.specs.Limits.{MAX_TAGS}
use Rattle.song_files.specs.TagSet.{tags_in}
use Rattle.song_head.specs.FrameValues.{manner_of}
use Rattle.song_head.specs.SongReading.{MAX_TEXT_BYTES, fewer, fitting, id3_at, reading_with, song_reading, song_texts, text_bytes}
use Rattle.song_head.specs.SongReading.{texts_of_tags, with_id3, with_own}
use Rattle.song_head.specs.declared.manner.Manner.{Manner}
use Rattle.song_head.specs.declared.manner.Manner.TheVariants.{First}
use Rattle.song_head.specs.declared.rules.ReadingRules.{ReadingRules}

fits : (left : ℕ) (tags : List TagText) → text_bytes (fitting left tags) ≤ left
fits left [] = omega arith
fits left (t ∷ tags) = by_room (nat_le (3 + length t.text) left) refl (fits (left - (3 + length t.text)) tags)
  where
    by_room : (b : Bool) → nat_le (3 + length t.text) left ≡ b
        → text_bytes (fitting (left - (3 + length t.text)) tags) ≤ left - (3 + length t.text)
        → text_bytes (cond b (t ∷ fitting (left - (3 + length t.text)) tags) []) ≤ left
    by_room true room rest =
        let within : 3 + length t.text ≤ left = grind (arith, nat_tests) in
        omega (arith, sum_by-cons (λ (t : TagText). 3 + length t.text) t (fitting (left - (3 + length t.text)) tags))
    by_room false past rest = omega arith

fewer_fit : (several : Bool) (tags : List TagText) → several ≡ true → text_bytes (fewer several tags) ≤ MAX_TEXT_BYTES
fewer_fit several tags is = rw is (fits MAX_TEXT_BYTES tags)

texts_fit : (rules : ReadingRules) (manner : Manner) (own : List TagText) (frames : List FrameText) → rules.several ≡ true
    → text_bytes (song_texts rules manner own frames) ≤ MAX_TEXT_BYTES
texts_fit rules manner own frames several =
    fewer_fit rules.several (take MAX_TAGS (texts_of_tags manner own frames (tags_in rules.tags))) several

own_fits : (rules : ReadingRules) (info : WaveInfo) → rules.several ≡ true → text_bytes (with_own rules info).tags ≤ MAX_TEXT_BYTES
own_fits rules info several = by_cases rules.several several
  where
    by_cases : (b : Bool) → b ≡ true
        → text_bytes (cond b (record info { tags = song_texts rules First info.tags [] }) info).tags ≤ MAX_TEXT_BYTES
    by_cases true is = texts_fit rules First info.tags [] several
    by_cases false is = absurd (cc)

info_fits : (rules : ReadingRules) (tag : Option Id3Tag) (info : WaveInfo) → rules.several ≡ true
    → text_bytes (with_id3 rules tag info).tags ≤ MAX_TEXT_BYTES
info_fits rules None info several = own_fits rules info several
info_fits rules (Some tag) info several =
    texts_fit rules (manner_of rules.several tag.version tag.texts) info.tags tag.texts several

read_fits : (rules : ReadingRules) (tag : Option Id3Tag) (read : Result WaveInfo WaveError) → rules.several ≡ true
    → IfOk (reading_with (with_id3 rules tag) read) (λ info. text_bytes info.tags ≤ MAX_TEXT_BYTES)
read_fits rules tag (Ok info) several = info_fits rules tag info several
read_fits rules tag (Err e) several = tt

pub reading_fits : (file : List ℕ) (rules : ReadingRules) → rules.id3 ≡ true → rules.several ≡ true
    → IfOk (song_reading file rules) (λ info. text_bytes info.tags ≤ MAX_TEXT_BYTES)
reading_fits file rules id3 several =
    rw id3 (read_fits rules (id3_at file (id3_chunk file)) (wave_reading file rules.tags) several)
