-- The format by the first 16 bytes of its chunk.
use Rattle.std.proofs.Common.{◌≡◌, ◌+◌, ◌≤◌, ℕ, List, length, take, drop, ap, ◌∙◌, sym, refl, arith, lit≤, nat_lt}
use Rattle.std.proofs.Common.{true, false, slice_range, Bool, Ok, Err, IfErr, IfOk, [], ◌∷◌}
use Rattle.std.proofs.lemmas.List.{take-take, drop-take, length-take, length-drop}
use Rattle.std.proofs.lemmas.Bool.{le-ltb}
use Rattle.std.specs.Int.{w16, w32, from_le_bytes}
use Rattle.std.specs.Prelude.{Result, if◌then◌else◌}
use Rattle.wave_pcm.specs.Format.{u16_at, u32_at, judged, is_supported, format_by, format_from}
use Rattle.wave_pcm.specs.Reading.{Refuses}
use Rattle.wave_pcm.specs.declared.format.Format.{Format}
use Rattle.wave_pcm.specs.declared.refusal.WaveError.{WaveError}
use Rattle.wave_pcm.specs.declared.refusal.WaveError.TheVariants.{Unsupported, NoFormat}
use Rattle.wave_pcm.proofs.ChunkList.{le_bytes-take}
use Rattle.song_files.proofs.Ranges.{take-range, range_is}

le16-take : (xs : List ℕ) → from_le_bytes w16 (take 2 xs) ≡ from_le_bytes w16 xs
le16-take [] = refl
le16-take (a ∷ []) = refl
le16-take (a ∷ b ∷ xs) = refl

u16_at-take : (at m : ℕ) (body : List ℕ) → 2 ≤ m → u16_at at (take (at + m) body) ≡ u16_at at body
u16_at-take at m body room = ap (from_le_bytes w16) (drop-take at m body) ∙ sym (le16-take (take m (drop at body)))
    ∙ ap (from_le_bytes w16) (take-take 2 m (drop at body) room) ∙ le16-take (drop at body)

u32_at-take : (at m : ℕ) (body : List ℕ) → 4 ≤ m → u32_at at (take (at + m) body) ≡ u32_at at body
u32_at-take at m body room = ap (from_le_bytes w32) (drop-take at m body) ∙ sym (le_bytes-take (take m (drop at body)))
    ∙ ap (from_le_bytes w32) (take-take 4 m (drop at body) room) ∙ le_bytes-take (drop at body)

judged_same : (a b c d e a' b' c' d' e' : ℕ) → a ≡ a' → b ≡ b' → c ≡ c' → d ≡ d' → e ≡ e' → judged a b c d e ≡ judged a' b' c' d' e'
judged_same a b c d e a' b' c' d' e' p q r s t = rw (p, q, r, s, t) refl

format_by-take : (body : List ℕ) → format_by (take 16 body) ≡ format_by body
format_by-take body = judged_same _ _ _ _ _ _ _ _ _ _
    (u16_at-take 0 16 body (lit≤ tt)) (u16_at-take 2 14 body (lit≤ tt)) (u32_at-take 4 12 body (lit≤ tt)) (u16_at-take 12 4 body
    (lit≤ tt)) (u16_at-take 14 2 body (lit≤ tt))

-- what 16 bytes that are there say is what the chunk says
pub format_read : (file bytes : List ℕ) (first len : ℕ) → 16 ≤ len → first + len ≤ length file → bytes ≡ slice_range file first (first + 16)
    → format_from (slice_range file first (first + len)) ≡ format_by bytes
format_read file bytes first len room within read =
    let long : nat_lt (length (slice_range file first (first + len))) 16 ≡ false = le-ltb (length (slice_range file first (first +
    len))) 16 (rw range_is (omega (arith, length-take len (drop first file), length-drop first file))) in
    ap (λ b. if b then Err NoFormat else format_by (slice_range file first (first + len))) long
    ∙ sym (format_by-take (slice_range file first (first + len)))
    ∙ ap format_by (take-range file first 16 len room ∙ sym read)

abbrev chosen : Bool → Format → WaveError → Result Format WaveError
chosen b format e = if b then Ok format else Err e

refuses_by : (b : Bool) (format : Format) (reading : Result Format WaveError) (fault : Type 0) (tag bits channels : ℕ)
    → reading ≡ chosen b format (Unsupported tag bits channels)
    → IfErr (chosen b format (Unsupported tag bits channels)) (Refuses reading fault)
refuses_by true format reading fault tag bits channels same = tt
refuses_by false format reading fault tag bits channels same = same

-- the format, or that it isn't supported
pub format_refuses : (reading r : Result Format WaveError) (fault : Type 0) (bytes : List ℕ) → r ≡ format_by bytes
    → reading ≡ format_by bytes → IfErr r (Refuses reading fault)
format_refuses reading r fault bytes gives same =
    rw gives (refuses_by (is_supported (u16_at 0 bytes) (u16_at 2 bytes) (u32_at 4 bytes) (u16_at 12 bytes) (u16_at 14 bytes))
    (record { rate = u32_at 4 bytes; channels = u16_at 2 bytes }) reading fault (u16_at 0 bytes) (u16_at 14 bytes) (u16_at 2 bytes) same)

pub ok_of : {A : Type 0} (reading r : Result A WaveError) → reading ≡ r → IfOk r (λ x. reading ≡ Ok x)
ok_of reading (Ok x) same = same
ok_of reading (Err e) same = tt
