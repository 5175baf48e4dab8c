-- The list of chunks, by their heads.
use Rattle.std.proofs.Common.{◌≡◌, ◌+◌, ◌-◌, ◌≤◌, ℕ, List, [], ◌∷◌, ◌++◌, length, take, ap, ◌∙◌, sym, append_assoc}
use Rattle.std.proofs.lemmas.List.{map_push, append-nil, take_all, take_at, length-map}
use Rattle.wave_pcm.specs.Chunks.{Chunk}
use Rattle.wave_pcm.specs.ChunkHead.{chunk_at}
use Rattle.as_wave.specs.ChunkHead.{chunks_at}
use Rattle.wave_pcm.specs.declared.chunks.ChunkHead.{ChunkHead}

-- one more chunk
pub pushed : (n : ℕ) (file : List ℕ) (heads now : List ChunkHead) (head : ChunkHead) (before rest all : List Chunk)
    → take n (chunks_at file heads ++ before) ≡ all → before ≡ chunk_at file head ∷ rest → now ≡ heads ++ head ∷ []
    → take n (chunks_at file now ++ rest) ≡ all
pushed n file heads now head before rest all listed cut push =
    ap (λ hs. take n (chunks_at file hs ++ rest)) push
    ∙ ap (λ cs. take n (cs ++ rest)) (map_push (chunk_at file) heads head)
    ∙ ap (take n) (append_assoc (chunks_at file heads) (chunk_at file head ∷ []) rest)
    ∙ ap (λ cs. take n (chunks_at file heads ++ cs)) (sym cut) ∙ listed

-- no more chunks come
pub whole : (n : ℕ) (file : List ℕ) (heads : List ChunkHead) (rest all : List Chunk)
    → take n (chunks_at file heads ++ rest) ≡ all → rest ≡ [] → length heads ≤ n → chunks_at file heads ≡ all
whole n file heads rest all listed none few =
    sym (take_all n (chunks_at file heads) (rw length-map few)) ∙ ap (take n) (sym (append-nil (chunks_at file heads)))
    ∙ ap (λ cs. take n (chunks_at file heads ++ cs)) (sym none) ∙ listed

-- where there is no room for more
pub full : (n : ℕ) (file : List ℕ) (heads : List ChunkHead) (rest all : List Chunk)
    → take n (chunks_at file heads ++ rest) ≡ all → length heads ≡ n → chunks_at file heads ≡ all
full n file heads rest all listed many = sym (take_at (chunks_at file heads) rest n (rw length-map many)) ∙ listed
