-- The rates and channels of heads that are read.
use Rattle.std.proofs.Common.{◌≡◌, ◌≤◌, ℕ, List, length, Bool, true, false, refl, subst, Ok, Err, arith}
use Rattle.std.specs.Prelude.{Result, Option, Some, None, nat_lt, if◌then◌else◌}
use Rattle.std.proofs.lemmas.Bool.Decides.{nat_tests}
use Rattle.song_files.specs.declared.tag_set.TagSet.{TagSet}
use Rattle.wave_pcm.specs.Format.{is_supported, u16_at, u32_at, format_by, format_from}
use Rattle.wave_pcm.specs.Parts.{Part, file_parts, is_format}
use Rattle.wave_pcm.specs.Reading.{◌>>=◌, is_wave, wave_reading, reading_of, format_of, format_at, data_of, texts_in, info_of, is_long, is_key, MAX_CHUNKS}
use Rattle.wave_pcm.specs.declared.format.Format.{Format}
use Rattle.wave_pcm.specs.declared.info.WaveInfo.{WaveInfo}
use Rattle.wave_pcm.specs.declared.refusal.WaveError.{WaveError}
use Rattle.wave_pcm.specs.declared.refusal.WaveError.TheVariants.{NotWave, NoFormat, Unsupported}
use Rattle.std.specs.List.{find}
use Rattle.std.proofs.Common.{take}

pub record IsSupported (rate channels : ℕ) : Type 0 where
  pub some_rate : 1 ≤ rate
  pub rate_within : rate ≤ 192000
  pub some_channels : 1 ≤ channels
  pub channels_within : channels ≤ 2

passes : {A : Type 0} (b : Bool) (x : Result A WaveError) (e : WaveError) (y : A) → (if b then x else Err e) ≡ Ok y → x ≡ Ok y
passes true x e y same = same
passes false x e y same = absurd (cc)

passes_not : {A : Type 0} (b : Bool) (x : Result A WaveError) (e : WaveError) (y : A) → (if b then Err e else x) ≡ Ok y → x ≡ Ok y
passes_not false x e y same = same
passes_not true x e y same = absurd (cc)

then_ok : {A B : Type 0} (r : Result A WaveError) (f : A → Result B WaveError) (y : B) → (r >>= f) ≡ Ok y
    → (x : A) × (r ≡ Ok x) × (f x ≡ Ok y)
then_ok (Ok x) f y same = (x, refl, same)
then_ok (Err e) f y same = absurd (cc)

judged_ok : (b : Bool) (made format : Format) (e : WaveError) → (if b then Ok made else Err e) ≡ Ok format → (b ≡ true) × (made ≡ format)
judged_ok true made format e same = (refl, cc)
judged_ok false made format e same = absurd (cc)

supported : (tag channels rate align bits : ℕ) → is_supported tag channels rate align bits ≡ true → IsSupported rate channels
supported tag channels rate align bits yes' = record {
  some_rate = grind (arith, nat_tests);
  rate_within = grind (arith, nat_tests);
  some_channels = grind (arith, nat_tests);
  channels_within = grind (arith, nat_tests);
}

format_supported : (long : Bool) (found : Option Part) (format : Format) → format_at long found ≡ Ok format
    → IsSupported format.rate format.channels
format_supported true None format same = absurd (cc)
format_supported false None format same = absurd (cc)
format_supported long (Some p) format same =
    let chosen : format_from p.body ≡ Ok format = passes (is_format p.kind) (format_from p.body) NoFormat format same in
    let read : format_by p.body ≡ Ok format = passes_not (nat_lt (length p.body) 16) (format_by p.body) NoFormat format chosen in
    let tag = u16_at 0 p.body in
    let channels = u16_at 2 p.body in
    let rate = u32_at 4 p.body in
    let align = u16_at 12 p.body in
    let bits = u16_at 14 p.body in
    let judged : (is_supported tag channels rate align bits ≡ true) × (record { rate = rate; channels = channels } ≡ format) =
    judged_ok (is_supported tag channels rate align bits) (record { rate = rate; channels = channels }) format (Unsupported tag bits channels) read in
    subst (λ (f : Format). IsSupported f.rate f.channels) judged.1 (supported tag channels rate align bits judged.0)

parts_supported : (parts : List Part) (wanted : TagSet) (info : WaveInfo) → reading_of parts wanted ≡ Ok info → IsSupported info.rate info.channels
unfolding reading_of
parts_supported parts wanted info same =
    let first = then_ok (format_of parts) (λ format. data_of parts >>= (λ sound. Ok (info_of format sound (texts_in parts wanted)))) info same in
    let second = then_ok (data_of parts) (λ sound. Ok (info_of first.0 sound (texts_in parts wanted))) info first.2 in
    let is : info_of first.0 second.0 (texts_in parts wanted) ≡ info = cc (second.2) in
    subst (λ (i : WaveInfo). IsSupported i.rate i.channels) is
    (format_supported (is_long parts) (find is_key (take MAX_CHUNKS parts)) first.0 first.1)

-- a head that is read is of one or two channels, at up to 192,000 frames a second
pub reading_supported : (file : List ℕ) (wanted : TagSet) (info : WaveInfo) → wave_reading file wanted ≡ Ok info → IsSupported info.rate info.channels
unfolding wave_reading
reading_supported file wanted info same =
    parts_supported (file_parts file) wanted info (passes (is_wave file) (reading_of (file_parts file) wanted) NotWave info same)
