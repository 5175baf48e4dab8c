-- A WAVE file is no FLAC file.
use Rattle.std.proofs.Common.{◌≡◌, ℕ, List, [], ◌∷◌, ◌++◌, length, take, drop, Bool, true, false, ap, ◌∙◌, sym, refl, None, codes}
use Rattle.std.specs.Prelude.{nat_le, nat_lt, slice_index, ◌==◌, ◌&&◌, if◌then◌else◌}
use Rattle.std.specs.Str.{bytes_eq}
use Rattle.std.proofs.lemmas.List.{take-take}
use Rattle.std.proofs.lemmas.Slice.Eq.{bytes_eq-Decides}
use Rattle.std.proofs.Common.{lit≤}
use Rattle.wave_pcm.specs.Reading.{is_wave}
use Rattle.flac.specs.Id3.{is_synchsafe, synchsafe, footer_len, tag_len, stream_start}
use Rattle.flac.specs.Reading.{has_marker_at}
use Rattle.flac.proofs.Heads.{not_flac}
use Rattle.flac.specs.declared.refusal.FlacError.TheVariants.{NotFlac}
use Rattle.as_wave.specs.FlacWave.{flac_wave}
use Rattle.as_wave.proofs.FlacPlans.{no_head}

first_of_and : (a b : Bool) → (a && b) ≡ true → a ≡ true
first_of_and true b yes' = refl
first_of_and false b yes' = yes'

-- the first bytes are those of `RIFF`
riff_front : (file : List ℕ) → is_wave file ≡ true → take 4 file ≡ codes "RIFF"
riff_front file yes' =
    (bytes_eq-Decides (take 4 file) (codes "RIFF")).0 (first_of_and (bytes_eq (take 4 file) (codes "RIFF")) (bytes_eq (take 4 (drop 8 file))
    (codes "WAVE")) yes')

and_false : (a : Bool) → (a && false) ≡ false
and_false true = refl
and_false false = refl

no_tag : (front : List ℕ) → take 3 front ≡ codes "RIF" → tag_len front ≡ 0
no_tag front same = tag_if (length front == 10) (bytes_eq (take 3 front) (codes "ID3")) (nat_lt (slice_index front 3) 255) (nat_lt (slice_index front 4)
    255) (is_synchsafe front) _ (ap (λ xs. bytes_eq xs (codes "ID3")) same)
  where
    tag_if : (a b c d e : Bool) (n : ℕ) → b ≡ false → (if a && b && c && d && e then n else 0) ≡ 0
    tag_if true true c d e n no' = absurd (cc)
    tag_if true false c d e n no' = refl
    tag_if false b c d e n no' = refl

starts_at_0 : (file : List ℕ) → take 4 file ≡ codes "RIFF" → 0 ≡ stream_start file
unfolding stream_start
starts_at_0 file same =
    sym (no_tag (take 10 file) (take-take 3 10 file (lit≤ tt) ∙ sym (take-take 3 4 file (lit≤ tt)) ∙ ap (take 3) same))

no_marker : (file : List ℕ) → take 4 file ≡ codes "RIFF" → has_marker_at file 0 ≡ false
no_marker file same = ap (λ xs. nat_le 4 (length file) && bytes_eq xs (codes "fLaC")) same ∙ and_false (nat_le 4 (length file))

pub no_flac : (file : List ℕ) → is_wave file ≡ true → flac_wave file ≡ None
no_flac file yes' =
    let front = riff_front file yes' in
    no_head file NotFlac (not_flac file 0 (starts_at_0 file front) (no_marker file front))
