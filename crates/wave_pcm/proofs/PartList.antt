-- The list of parts, one part at a time.
use Rattle.std.proofs.Common.{◌≡◌, ℕ, ◌+◌, ◌≤◌, List, [], ◌∷◌, ◌++◌, length, take, map, ap, ◌∙◌, sym, refl}
use Rattle.std.proofs.Common.{append_assoc, All, subst, zero, suc, drop, slice_range, Bool, true, false}
use Rattle.std.specs.Prelude.{if◌then◌else◌}
use Rattle.std.proofs.lemmas.List.Elements.{All-same, All-cons, All-nil, All-head, All-tail}
use Rattle.std.proofs.lemmas.List.{map_push, append-nil, take_all, take_at, length-map}
use Rattle.wave_pcm.specs.Parts.{Part, file_kind, is_text_list, text_part, parts_of, parts_in}
use Rattle.std.specs.List.{flat_map}
use Rattle.wave_pcm.specs.Chunks.{chunks_after, chunks_in}
use Rattle.wave_pcm.specs.ChunkHead.{chunk_at}
use Rattle.wave_pcm.specs.declared.chunks.ChunkHead.{ChunkHead}
use Rattle.wave_pcm.specs.declared.parts.Kind.{Kind}
use Rattle.song_files.proofs.Ranges.{drop-range}
use Rattle.wave_pcm.specs.PartHead.{part_at, parts_at}
use Rattle.wave_pcm.specs.declared.parts.PartHead.{PartHead}

-- after a push
pub listed_more : (n : ℕ) (file : List ℕ) (heads : List PartHead) (head : PartHead) (rest : List Part)
    → take n (parts_at file (heads ++ head ∷ []) ++ rest) ≡ take n (parts_at file heads ++ part_at file head ∷ rest)
listed_more n file heads head rest = ap (λ ps. take n (ps ++ rest)) (map_push (part_at file) heads head)
    ∙ ap (take n) (append_assoc (parts_at file heads) (part_at file head ∷ []) rest)

-- at the end of the parts
pub listed_end : (n : ℕ) (file : List ℕ) (heads : List PartHead) → length heads ≤ n
    → take n (parts_at file heads ++ []) ≡ parts_at file heads
listed_end n file heads few = ap (take n) (append-nil (parts_at file heads)) ∙ take_all n (parts_at file heads) (rw length-map few)

-- where there is no room for more
pub listed_full : (n : ℕ) (file : List ℕ) (heads : List PartHead) (rest : List Part) → length heads ≡ n
    → take n (parts_at file heads ++ rest) ≡ parts_at file heads
listed_full n file heads rest full = take_at (parts_at file heads) rest n (rw length-map full)

-- no more parts come
pub whole : (n : ℕ) (file : List ℕ) (heads : List PartHead) (rest all : List Part)
    → take n (parts_at file heads ++ rest) ≡ all → rest ≡ [] → length heads ≤ n → parts_at file heads ≡ all
whole n file heads rest all listed none few = sym (listed_end n file heads few)
    ∙ ap (λ ps. take n (parts_at file heads ++ ps)) (sym none) ∙ listed

-- one more part
pub pushed : (n : ℕ) (file : List ℕ) (heads now : List PartHead) (head : PartHead) (part : Part) (before rest all : List Part)
    → take n (parts_at file heads ++ before) ≡ all → before ≡ part ∷ rest → part_at file head ≡ part → now ≡ heads ++ head ∷ []
    → take n (parts_at file now ++ rest) ≡ all
pushed n file heads now head part before rest all listed cut same push =
    ap (λ hs. take n (parts_at file hs ++ rest)) push ∙ listed_more n file heads head rest
    ∙ ap (λ p. take n (parts_at file heads ++ p ∷ rest)) same ∙ ap (λ ps. take n (parts_at file heads ++ ps)) (sym cut) ∙ listed

-- each element of a list and one more
pub All_push : {X : Type 0} (P : X → Type 0) (xs ys : List X) (x : X) → ys ≡ xs ++ x ∷ [] → All P xs → P x → All P ys
All_push P [] ys x push each here = All-same P ys (x ∷ []) push (All-cons P x [] here (All-nil P))
All_push P (y ∷ xs) ys x push each here = All-same P ys (y ∷ (xs ++ x ∷ [])) push (All-cons P y (xs ++ x ∷ []) (All-head P y xs
    each) (All_push P xs (xs ++ x ∷ []) x refl (All-tail P y xs each) here))

-- after the push of a chunk that is no list of texts
pub alone : (n : ℕ) (file : List ℕ) (heads now : List PartHead) (head : PartHead) (parts : List Part)
    → now ≡ heads ++ head ∷ [] → parts ≡ part_at file head ∷ [] → length now ≤ n → parts_at file now ≡ take n (parts_at file heads ++ parts)
alone n file heads now head parts push one few = (whole n file now [] (take n (parts_at file heads ++ parts)) (pushed n file heads
    now head (part_at file head) parts [] (take n (parts_at file heads ++ parts)) refl one refl push) refl few)

-- the head of a chunk's part
abbrev pub part_head : Kind → ChunkHead → PartHead
part_head kind head = record { kind = kind; first = head.first; len = head.len }

abbrev texts_in : List ℕ → ChunkHead → List Part
texts_in file head = map text_part (chunks_after 0 (head.first + 4) (drop 4 (slice_range file head.first (head.first + head.len))))

parts_by : (file : List ℕ) (head : ChunkHead) (kind : Kind) (b : Bool) → kind ≡ file_kind head.id
    → is_text_list kind (slice_range file head.first (head.first + head.len)) ≡ b
    → parts_of (chunk_at file head) ≡ part_at file (part_head kind head) ∷ (if b then texts_in file head else [])
parts_by file head kind b same test =
    ap (λ k. part_at file (part_head k head) ∷ (if is_text_list k (slice_range file head.first (head.first + head.len)) then
    texts_in file head else [])) (sym same)
    ∙ ap (λ t. part_at file (part_head kind head) ∷ (if t then texts_in file head else [])) test

-- after a chunk that is no list of texts
pub chunk_alone : (n : ℕ) (file : List ℕ) (heads now : List PartHead) (head : ChunkHead) (kind : Kind)
    → kind ≡ file_kind head.id → is_text_list kind (slice_range file head.first (head.first + head.len)) ≡ false
    → now ≡ heads ++ part_head kind head ∷ [] → length now ≤ n
    → parts_at file now ≡ take n (parts_at file heads ++ parts_of (chunk_at file head))
chunk_alone n file heads now head kind same test push few =
    alone n file heads now (part_head kind head) (parts_of (chunk_at file head)) push (parts_by file head kind false same test) few

-- after a list of texts and the chunks inside it
pub chunk_and_texts : (n : ℕ) (file : List ℕ) (heads now last : List PartHead) (head : ChunkHead) (kind : Kind)
    → kind ≡ file_kind head.id → is_text_list kind (slice_range file head.first (head.first + head.len)) ≡ true → 4 ≤ head.len
    → now ≡ heads ++ part_head kind head ∷ []
    → parts_at file last ≡ take n (parts_at file now ++ map text_part (chunks_in file (head.first + 4) (head.first + head.len)))
    → parts_at file last ≡ take n (parts_at file heads ++ parts_of (chunk_at file head))
chunk_and_texts n file heads now last head kind same test room push listed =
    listed ∙ ap (λ bytes. take n (parts_at file now ++ map text_part (chunks_after 0 (head.first + 4) bytes))) (sym (drop-range
    file head.first 4 head.len room))
    ∙ pushed n file heads now (part_head kind head) (part_at file (part_head kind head)) (parts_of (chunk_at file head)) (texts_in
    file head) (take n (parts_at file heads ++ parts_of (chunk_at file head)))
    refl (parts_by file head kind true same test) refl push

-- the same list of parts of the same bytes
pub same_bytes : (n : ℕ) (was file : List ℕ) (now last : List PartHead) (start end : ℕ) → was ≡ file
    → parts_at was last ≡ take n (parts_at was now ++ map text_part (chunks_in was start end))
    → parts_at file last ≡ take n (parts_at file now ++ map text_part (chunks_in file start end))
same_bytes n was file now last start end same listed =
    let P : List ℕ → Type 0 = λ bytes. parts_at bytes last ≡ take n (parts_at bytes now ++ map text_part (chunks_in bytes start end)) in
    subst P same listed

pub take_twice : {X : Type 0} → (n : ℕ) (xs ys : List X) → take n (take n xs ++ ys) ≡ take n (xs ++ ys)
take_twice zero xs ys = refl
take_twice (suc n) [] ys = refl
take_twice (suc n) (x ∷ xs) ys = ap (λ l. x ∷ l) (take_twice n xs ys)

-- one more chunk of the file
pub chunk_listed : (n : ℕ) (was file : List ℕ) (heads now : List PartHead) (head : ChunkHead) (at end : ℕ) (all : List Part) → was ≡ file
    → parts_at was now ≡ take n (parts_at was heads ++ parts_of (chunk_at was head))
    → chunks_in file at end ≡ chunk_at file head ∷ chunks_in file head.next end
    → take n (parts_at file heads ++ parts_in file at end) ≡ all
    → take n (parts_at file now ++ parts_in file head.next end) ≡ all
chunk_listed n was file heads now head at end all same listed cut before =
    let P : List ℕ → Type 0 = λ bytes. parts_at bytes now ≡ take n (parts_at bytes heads ++ parts_of (chunk_at bytes head)) in
    let here : parts_at file now ≡ take n (parts_at file heads ++ parts_of (chunk_at file head)) = subst P same listed in
    ap (λ ps. take n (ps ++ parts_in file head.next end)) here
    ∙ take_twice n (parts_at file heads ++ parts_of (chunk_at file head)) (parts_in file head.next end)
    ∙ ap (take n) (append_assoc (parts_at file heads) (parts_of (chunk_at file head)) (parts_in file head.next end))
    ∙ ap (λ cs. take n (parts_at file heads ++ flat_map parts_of cs)) (sym cut)
    ∙ before
