-- The chunks that count, by their heads, and what follows from each of them.
use Rattle.std.proofs.Common.{◌≡◌, ◌+◌, ◌≤◌, ◌<◌, ℕ, List, [], ◌∷◌, length, take, ap, ◌∙◌, sym, refl, arith, Some, None, Bool, true, false}
use Rattle.std.proofs.Common.{inl, inr, cond}
use Rattle.std.specs.Prelude.{Option, option_map, option_and_then, ◌||◌, ◌&&◌, nat_le, filter, if◌then◌else◌}
use Rattle.std.specs.List.{find}
use Rattle.std.proofs.lemmas.Bool.{cases_lt, le-leb, lt-leb}
use Rattle.std.proofs.lemmas.List.{length-map, take_all, length-take-le}
use Rattle.wave_pcm.specs.Chunks.{Chunk, chunks_in}
use Rattle.wave_pcm.specs.Reading.{MAX_CHUNKS, is_wave}
use Rattle.wave_pcm.proofs.Finds.{find-map}
use Rattle.wave_pcm.specs.ChunkHead.{chunk_at}
use Rattle.as_wave.specs.ChunkHead.{chunks_at, StandsBy}
use Rattle.as_wave.specs.Format.{sample_format}
use Rattle.as_wave.specs.StandsFor.{is_format_id, is_data_id, is_kept_id, is_key, format_in, data_in, kept_in, MAX_KEPT, wave_with, wave_by, file_chunks, converted}
use Rattle.wave_pcm.specs.declared.chunks.ChunkHead.{ChunkHead}
use Rattle.as_wave.specs.declared.format.SampleFormat.{SampleFormat}

abbrev pub is_key_head : ChunkHead → Bool
is_key_head h = is_format_id h.id || is_data_id h.id

abbrev format_of : Option Chunk → Option SampleFormat
format_of found = option_and_then (λ (c : Chunk). if is_format_id c.id then sample_format c.body else None) found

key_found : (file : List ℕ) (heads : List ChunkHead) (found : Option ChunkHead) → found ≡ find is_key_head heads
    → format_in (chunks_at file heads) ≡ format_of (option_map (chunk_at file) found)
key_found file heads found same = ap format_of (find-map (chunk_at file) is_key heads ∙ ap (option_map (chunk_at file)) (sym same))

pub format_found : (file : List ℕ) (heads : List ChunkHead) (head : ChunkHead) → Some head ≡ find is_key_head heads
    → is_format_id head.id ≡ true → format_in (chunks_at file heads) ≡ sample_format (chunk_at file head).body
format_found file heads head same yes' = key_found file heads (Some head) same
    ∙ ap (λ b. if b then sample_format (chunk_at file head).body else None) yes'

pub data_before : (file : List ℕ) (heads : List ChunkHead) (head : ChunkHead) → Some head ≡ find is_key_head heads
    → is_format_id head.id ≡ false → format_in (chunks_at file heads) ≡ None
data_before file heads head same no' = key_found file heads (Some head) same
    ∙ ap (λ b. if b then sample_format (chunk_at file head).body else None) no'

pub no_key : (file : List ℕ) (heads : List ChunkHead) → None ≡ find is_key_head heads → format_in (chunks_at file heads) ≡ None
no_key file heads same = key_found file heads None same

data_found : (file : List ℕ) (heads : List ChunkHead) (found : Option ChunkHead) → found ≡ find (λ h. is_data_id h.id) heads
    → data_in (chunks_at file heads) ≡ option_map (chunk_at file) found
data_found file heads found same = find-map (chunk_at file) (λ (c : Chunk). is_data_id c.id) heads ∙ ap (option_map (chunk_at file)) (sym same)

kept_is : (file : List ℕ) (heads : List ChunkHead)
    → kept_in (chunks_at file heads) ≡ chunks_at file (filter (λ (h : ChunkHead). is_kept_id h.id) heads)
kept_is file [] = refl
kept_is file (h ∷ heads) = elim (is_kept_id h.id) as (λ b. cond b (chunk_at file h ∷ kept_in (chunks_at file heads)) (kept_in
    (chunks_at file heads)) ≡ chunks_at file (cond b (h ∷ filter (λ (h : ChunkHead). is_kept_id h.id) heads) (filter (λ (h :
    ChunkHead). is_kept_id h.id) heads))) [
      | true ↦ ap (λ cs. chunk_at file h ∷ cs) (kept_is file heads)
      | false ↦ kept_is file heads
    ]

abbrev wave_from : Bool → Bool → Option SampleFormat → Option Chunk → List Chunk → Option (List ℕ)
wave_from few kept_few format sound kept =
    if few && kept_few then option_and_then (λ f. option_and_then (λ (c : Chunk). wave_with f c.body kept) sound) format else None

by_parts : (chunks : List Chunk) → wave_by chunks
    ≡ wave_from (nat_le (length chunks) MAX_CHUNKS) (nat_le (length (kept_in chunks)) MAX_KEPT) (format_in chunks) (data_in
    chunks) (kept_in chunks)
unfolding wave_by
by_parts chunks = refl

too_many : (chunks : List Chunk) → nat_le (length chunks) MAX_CHUNKS ≡ false → wave_by chunks ≡ None
too_many chunks many = by_parts chunks ∙ ap (λ b. wave_from b (nat_le (length (kept_in chunks)) MAX_KEPT) (format_in chunks) (data_in
    chunks) (kept_in chunks)) many

no_format : (few kept_few : Bool) (sound : Option Chunk) (kept : List Chunk) → wave_from few kept_few None sound kept ≡ None
no_format true true sound kept = refl
no_format true false sound kept = refl
no_format false kept_few sound kept = refl

no_data : (few kept_few : Bool) (format : SampleFormat) (kept : List Chunk) → wave_from few kept_few (Some format) None kept ≡ None
no_data true true format kept = refl
no_data true false format kept = refl
no_data false kept_few format kept = refl

not_few : (few : Bool) (format : Option SampleFormat) (sound : Option Chunk) (kept : List Chunk) → wave_from few false format sound kept ≡ None
not_few true format sound kept = refl
not_few false format sound kept = refl

pub many_heads : (file : List ℕ) (heads : List ChunkHead) → MAX_CHUNKS < length heads → wave_by (chunks_at file heads) ≡ None
many_heads file heads many = too_many (chunks_at file heads) (lt-leb (length (chunks_at file heads)) MAX_CHUNKS (rw length-map many))

pub without_format : (file : List ℕ) (heads : List ChunkHead) → None ≡ format_in (chunks_at file heads) → wave_by (chunks_at file heads) ≡ None
without_format file heads none =
    let cs = chunks_at file heads in
    by_parts cs ∙ ap (λ f. wave_from (nat_le (length cs) MAX_CHUNKS) (nat_le (length (kept_in cs)) MAX_KEPT) f (data_in cs) (kept_in cs)) (sym none)
    ∙ no_format (nat_le (length cs) MAX_CHUNKS) (nat_le (length (kept_in cs)) MAX_KEPT) (data_in cs) (kept_in cs)

pub without_data : (file : List ℕ) (heads : List ChunkHead) (format : SampleFormat) → Some format ≡ format_in (chunks_at file heads)
    → None ≡ find (λ (h : ChunkHead). is_data_id h.id) heads → wave_by (chunks_at file heads) ≡ None
without_data file heads format some none =
    let cs = chunks_at file heads in
    by_parts cs ∙ ap (λ f. wave_from (nat_le (length cs) MAX_CHUNKS) (nat_le (length (kept_in cs)) MAX_KEPT) f (data_in cs) (kept_in cs)) (sym some)
    ∙ ap (λ d. wave_from (nat_le (length cs) MAX_CHUNKS) (nat_le (length (kept_in cs)) MAX_KEPT) (Some format) d (kept_in cs)) (data_found file heads None none)
    ∙ no_data (nat_le (length cs) MAX_CHUNKS) (nat_le (length (kept_in cs)) MAX_KEPT) format (kept_in cs)

-- where there is no format there is no WAVE file
pub no_format_by : (cs : List Chunk) → format_in cs ≡ None → wave_by cs ≡ None
no_format_by cs none =
    by_parts cs ∙ ap (λ f. wave_from (nat_le (length cs) MAX_CHUNKS) (nat_le (length (kept_in cs)) MAX_KEPT) f (data_in cs) (kept_in cs)) none
    ∙ no_format (nat_le (length cs) MAX_CHUNKS) (nat_le (length (kept_in cs)) MAX_KEPT) (data_in cs) (kept_in cs)

length-kept : (file : List ℕ) (heads kept : List ChunkHead) → kept ≡ filter (λ (h : ChunkHead). is_kept_id h.id) heads
    → length (kept_in (chunks_at file heads)) ≡ length kept
length-kept file heads kept same = ap length (kept_is file heads ∙ ap (chunks_at file) (sym same)) ∙ length-map kept (chunk_at file)

pub many_kept : (file : List ℕ) (heads kept : List ChunkHead) → kept ≡ filter (λ (h : ChunkHead). is_kept_id h.id) heads
    → MAX_KEPT < length kept → wave_by (chunks_at file heads) ≡ None
many_kept file heads kept same many =
    let cs = chunks_at file heads in
    by_parts cs ∙ ap (λ b. wave_from (nat_le (length cs) MAX_CHUNKS) b (format_in cs) (data_in cs) (kept_in cs)) (lt-leb (length
    (kept_in cs)) MAX_KEPT (omega (arith, length-kept file heads kept same)))
    ∙ not_few (nat_le (length cs) MAX_CHUNKS) (format_in cs) (data_in cs) (kept_in cs)

pub all_found : (file : List ℕ) (heads kept : List ChunkHead) (format : SampleFormat) (sound : ChunkHead) → length heads ≤ MAX_CHUNKS
    → Some format ≡ format_in (chunks_at file heads) → Some sound ≡ find (λ (h : ChunkHead). is_data_id h.id) heads
    → kept ≡ filter (λ (h : ChunkHead). is_kept_id h.id) heads → length kept ≤ MAX_KEPT
    → wave_by (chunks_at file heads) ≡ wave_with format (chunk_at file sound).body (chunks_at file kept)
all_found file heads kept format sound few some found same kept_few =
    let cs = chunks_at file heads in
    by_parts cs
    ∙ ap (λ b. wave_from b (nat_le (length (kept_in cs)) MAX_KEPT) (format_in cs) (data_in cs) (kept_in cs)) (le-leb (length cs)
    MAX_CHUNKS (rw length-map few))
    ∙ ap (λ b. wave_from true b (format_in cs) (data_in cs) (kept_in cs)) (le-leb (length (kept_in cs)) MAX_KEPT (omega (
      arith,
      length-kept file heads kept same,
    )))
    ∙ ap (λ f. wave_from true true f (data_in cs) (kept_in cs)) (sym some)
    ∙ ap (λ d. wave_from true true (Some format) d (kept_in cs)) (data_found file heads (Some sound) found)
    ∙ ap (λ ks. wave_with format (chunk_at file sound).body ks) (kept_is file heads ∙ ap (chunks_at file) (sym same))

-- one chunk too many is enough
wave_by-take : (chunks : List Chunk) → wave_by (take (MAX_CHUNKS + 1) chunks) ≡ wave_by chunks
wave_by-take chunks = elim (cases_lt (length chunks) (MAX_CHUNKS + 1)) as (λ _. wave_by (take (MAX_CHUNKS + 1) chunks) ≡ wave_by chunks) [
  | inl few ↦ ap wave_by (take_all (MAX_CHUNKS + 1) chunks (omega arith))
  | inr many ↦ (let count : length (take (MAX_CHUNKS + 1) chunks) ≡ MAX_CHUNKS + 1 = length-take-le (MAX_CHUNKS + 1) chunks many in
      too_many (take (MAX_CHUNKS + 1) chunks) (lt-leb (length (take (MAX_CHUNKS + 1) chunks)) MAX_CHUNKS (omega arith))
      ∙ sym (too_many chunks (lt-leb (length chunks) MAX_CHUNKS (omega arith))))
]

pub not_wave : (file : List ℕ) → is_wave file ≡ false → converted file ≡ None
unfolding converted
not_wave file no' = ap (λ b. if b then wave_by (file_chunks file) else None) no'

-- the file, by the heads of its chunks
pub by_heads : (file : List ℕ) (heads : List ChunkHead) (end : ℕ) → is_wave file ≡ true → end ≡ length file
    → chunks_at file heads ≡ take (MAX_CHUNKS + 1) (chunks_in file 12 end) → converted file ≡ wave_by (chunks_at file heads)
unfolding converted
by_heads file heads end yes' all listed = ap (λ b. if b then wave_by (file_chunks file) else None) yes'
    ∙ ap (λ e. wave_by (chunks_in file 12 e)) (sym all) ∙ sym (wave_by-take (chunks_in file 12 end)) ∙ ap wave_by (sym listed)

-- what stands before a place stands before a later one
pub StandsBy-later : (end later : ℕ) (head : ChunkHead) → end ≤ later → StandsBy end head → StandsBy later head
StandsBy-later end later head order stands = record { id = stands.id; within = omega (arith, stands.within) }
