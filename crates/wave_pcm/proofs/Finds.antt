-- The first part that passes a test, by the heads.
use Rattle.std.proofs.Common.{◌≡◌, ◌≤◌, ℕ, List, [], ◌∷◌, Bool, true, false, cond, map, ap, ◌∙◌, sym, refl, Some, None, take, length, arith}
use Rattle.std.specs.Prelude.{Option, option_map, option_and_then, ◌||◌, nat_lt, Err, if◌then◌else◌}
use Rattle.std.specs.List.{find}
use Rattle.std.proofs.lemmas.List.{take-map, length-map}
use Rattle.wave_pcm.specs.Parts.{is_text, is_data, is_format, is_id3}
use Rattle.wave_pcm.specs.Format.{format_from}
use Rattle.wave_pcm.specs.declared.listing.TheConstants.{MAX_CHUNKS}
use Rattle.wave_pcm.specs.declared.refusal.WaveError.TheVariants.{NoFormat, TooManyTurns}
use Rattle.wave_pcm.specs.PartHead.{part_at, parts_at, EndsBy}
use Rattle.wave_pcm.specs.Reading.{text_in, format_of, format_at, is_key, data_of, data_at, id3_place, place_of}
use Rattle.wave_pcm.specs.Text.{tag_text}
use Rattle.wave_pcm.specs.declared.parts.PartHead.{PartHead}
use Rattle.wave_pcm.proofs.Readings.{part_long}
use Rattle.wave_pcm.specs.declared.info.ChunkPlace.{ChunkPlace}
use Rattle.song_files.specs.declared.tag.Tag.{Tag}

pub find-map : {X Y : Type 0} (f : X → Y) (q : Y → Bool) (xs : List X) → find q (map f xs) ≡ option_map f (find (λ x. q (f x)) xs)
find-map f q [] = refl
find-map f q (x ∷ xs) = elim (q (f x)) as (λ b. cond b (Some (f x)) (find q (map f xs)) ≡ option_map f (cond b (Some x) (find (λ y.
    q (f y)) xs))) [ true ↦ refl | false ↦ find-map f q xs ]

-- the text of a tag, by the head that was found
pub text_found : (file : List ℕ) (heads : List PartHead) (tag : Tag) (found : Option PartHead)
    → found ≡ find (λ h. is_text tag h.kind) heads
    → text_in (parts_at file heads) tag ≡ option_and_then (λ h. tag_text (part_at file h).body) found
text_found file heads tag found same =
    ap (option_and_then (λ p. tag_text p.body)) (find-map (part_at file) (λ p. is_text tag p.kind) heads
    ∙ ap (option_map (part_at file)) (sym same)) ∙ mapped file found
  where
    mapped : (file : List ℕ) (o : Option PartHead)
        → option_and_then (λ p. tag_text p.body) (option_map (part_at file) o) ≡ option_and_then (λ h. tag_text (part_at file h).body) o
    mapped file None = refl
    mapped file (Some h) = refl

-- the format, by the head that was found
pub key_found : (file : List ℕ) (heads : List PartHead) (found : Option PartHead)
    → found ≡ find (λ h. is_format h.kind || is_data h.kind) (take MAX_CHUNKS heads)
    → format_of (parts_at file heads) ≡ format_at (nat_lt MAX_CHUNKS (length heads)) (option_map (part_at file) found)
key_found file heads found same =
    ap (λ n. format_at (nat_lt MAX_CHUNKS n) (find is_key (take MAX_CHUNKS (parts_at file heads)))) (length-map heads (part_at file))
    ∙ ap (format_at (nat_lt MAX_CHUNKS (length heads)))
    (ap (find is_key) (take-map (part_at file) MAX_CHUNKS heads) ∙ find-map (part_at file) is_key (take MAX_CHUNKS heads)
    ∙ ap (option_map (part_at file)) (sym same))

pub format_found : (file : List ℕ) (heads : List PartHead) (head : PartHead)
    → Some head ≡ find (λ h. is_format h.kind || is_data h.kind) (take MAX_CHUNKS heads)
    → is_format head.kind ≡ true → format_of (parts_at file heads) ≡ format_from (part_at file head).body
format_found file heads head same yes' = key_found file heads (Some head) same
    ∙ ap (λ b. if b then format_from (part_at file head).body else Err NoFormat) yes'

pub data_stands_first : (file : List ℕ) (heads : List PartHead) (head : PartHead)
    → Some head ≡ find (λ h. is_format h.kind || is_data h.kind) (take MAX_CHUNKS heads)
    → is_format head.kind ≡ false → format_of (parts_at file heads) ≡ Err NoFormat
data_stands_first file heads head same no' = key_found file heads (Some head) same
    ∙ ap (λ b. if b then format_from (part_at file head).body else Err NoFormat) no'

pub no_key : (file : List ℕ) (heads : List PartHead) (long : Bool)
    → None ≡ find (λ h. is_format h.kind || is_data h.kind) (take MAX_CHUNKS heads)
    → nat_lt MAX_CHUNKS (length heads) ≡ long → format_of (parts_at file heads) ≡ (if long then Err TooManyTurns else Err NoFormat)
no_key file heads long same l = key_found file heads None same ∙ ap (λ b. format_at b None) l

-- the data, by the head that was found
pub data_found : (file : List ℕ) (heads : List PartHead) (found : Option PartHead) → found ≡ find (λ h. is_data h.kind) heads
    → nat_lt MAX_CHUNKS (length heads) ≡ false → data_of (parts_at file heads) ≡ data_at false (option_map (part_at file) found)
data_found file heads found same short =
    ap (λ n. data_at (nat_lt MAX_CHUNKS n) (find (λ p. is_data p.kind) (parts_at file heads))) (length-map heads (part_at file))
    ∙ ap (λ b. data_at b (find (λ p. is_data p.kind) (parts_at file heads))) short
    ∙ ap (data_at false) (find-map (part_at file) (λ p. is_data p.kind) heads ∙ ap (option_map (part_at file)) (sym same))

-- the place of the ID3v2 tag, by the head that was found
id3_by : (file : List ℕ) (heads : List PartHead) (found : Option PartHead) → found ≡ find (λ h. is_id3 h.kind) heads
    → id3_place (parts_at file heads) ≡ option_map place_of (option_map (part_at file) found)
id3_by file heads found same =
    ap (option_map place_of) (find-map (part_at file) (λ p. is_id3 p.kind) heads ∙ ap (option_map (part_at file)) (sym same))

pub id3_found : (file : List ℕ) (heads : List PartHead) (head : PartHead) (end : ℕ) → end ≤ length file → EndsBy end head
    → Some head ≡ find (λ h. is_id3 h.kind) heads
    → ◌≡◌ {A = Option ChunkPlace} (Some (record { first = head.first; len = head.len })) (id3_place (parts_at file heads))
id3_found file heads head end within ends same =
    ap (λ n. Some (record { first = head.first; len = n })) (sym (part_long file head (omega (arith, ends, within))))
    ∙ sym (id3_by file heads (Some head) same)

pub id3_none : (file : List ℕ) (heads : List PartHead) → None ≡ find (λ h. is_id3 h.kind) heads → None ≡ id3_place (parts_at file heads)
id3_none file heads same = sym (id3_by file heads None same)
