-- The texts that stand in the chunks that are kept.
use Rattle.std.proofs.Common.{◌≡◌, ◌+◌, ℕ, zero, suc, List, [], ◌∷◌, ◌++◌, length, take, drop, map, refl, ap, ◌∙◌, sym, Some, None, Bool, true, false, cond, codes}
use Rattle.std.specs.Prelude.{Option, option_map, option_and_then, nat_lt, ◌&&◌, ◌||◌, if◌then◌else◌}
use Rattle.std.specs.List.{find, flat_map, cons_option}
use Rattle.std.specs.Str.{bytes_eq}
use Rattle.wave_pcm.specs.Chunks.{Chunk, chunk_of, chunks_after, size_in, padded}
use Rattle.wave_pcm.specs.Parts.{Part, text_part, parts_of, file_kind, text_kind, is_nested, is_info, is_text, is_text_list}
use Rattle.wave_pcm.specs.Reading.{text_in, texts_in, texts_for, found_text}
use Rattle.song_files.specs.TagSet.{tags_in}
use Rattle.song_files.specs.Tags.{TagText}
use Rattle.song_files.specs.declared.tag_set.TagSet.{TagSet}
use Rattle.wave_pcm.specs.Text.{tag_text}
use Rattle.wave_pcm.specs.declared.parts.Kind.TheVariants.{Format, Data, Nested, Id3, Other}
use Rattle.song_files.specs.declared.tag.Tag.{Tag}
use Rattle.as_wave.specs.StandsFor.{is_kept_id, kept_in}

-- chunks as they stand one behind the other from a place on
abbrev pub placed : ℕ → List Chunk → List Chunk
placed at [] = []
placed at (c ∷ cs) = record { id = c.id; first = at + 8; body = c.body } ∷ placed (at + (8 + padded (length c.body))) cs

abbrev either : Option (List ℕ) → Option (List ℕ) → Option (List ℕ)
either None o = o
either (Some x) o = Some x

-- the data of the first part of a tag
abbrev body_in : Tag → List Part → Option (List ℕ)
body_in tag [] = None
body_in tag (p ∷ ps) = if is_text tag p.kind then Some p.body else body_in tag ps

by_body : (tag : Tag) (ps : List Part) → text_in ps tag ≡ option_and_then tag_text (body_in tag ps)
by_body tag [] = refl
by_body tag (p ∷ ps) = elim (is_text tag p.kind) as (λ b. option_and_then (λ (q : Part). tag_text q.body) (cond b (Some p) (find (λ (q :
    Part). is_text tag q.kind) ps)) ≡ option_and_then tag_text (if b then Some p.body else body_in tag ps)) [
      | true ↦ refl
      | false ↦ by_body tag ps
    ]

body_in-append : (tag : Tag) (ps qs : List Part) → body_in tag (ps ++ qs) ≡ either (body_in tag ps) (body_in tag qs)
body_in-append tag [] qs = refl
body_in-append tag (p ∷ ps) qs = elim (is_text tag p.kind) as (λ b. (if b then Some p.body else body_in tag (ps ++ qs)) ≡ either (if b
    then Some p.body else body_in tag ps) (body_in tag qs)) [
      | true ↦ refl
      | false ↦ body_in-append tag ps qs
    ]

-- the place of a list doesn't count
nested_same : (tag : Tag) (skip at at' : ℕ) (bytes : List ℕ)
    → body_in tag (map text_part (chunks_after skip at bytes)) ≡ body_in tag (map text_part (chunks_after skip at' bytes))
unfolding chunks_after
nested_same tag skip at at' [] = refl
nested_same tag (suc skip) at at' (b ∷ bytes) = nested_same tag skip (at + 1) (at' + 1) bytes
nested_same tag zero at at' (b ∷ bytes) =
    let rest = nested_same tag (7 + padded (size_in (b ∷ bytes))) (at + 1) (at' + 1) bytes in
    elim (nat_lt (length bytes) 7) as (λ t. body_in tag (map text_part (if t then [] else chunk_of at (b ∷ bytes) ∷ chunks_after (7 +
    padded (size_in (b ∷ bytes))) (at + 1) bytes)) ≡ body_in tag (map text_part (if t then [] else chunk_of at' (b ∷ bytes) ∷
    chunks_after (7 + padded (size_in (b ∷ bytes))) (at' + 1) bytes))) [
      | true ↦ refl
      | false ↦ ap (λ o. if is_text tag (text_kind (take 4 (b ∷ bytes))) then Some (take (size_in (b ∷ bytes)) (drop 8 (b ∷ bytes))) else o) rest
    ]

no_text_by : (tag : Tag) (a b d e : Bool)
    → is_text tag (if a then Format else if b then Data else if d then Nested else if e then Id3 else Other) ≡ false
no_text_by tag true b d e = refl
no_text_by tag false true d e = refl
no_text_by tag false false true e = refl
no_text_by tag false false false true = refl
no_text_by tag false false false false = refl

abbrev nested_of : Bool → ℕ → List ℕ → List Part
nested_of t at body = if t then map text_part (chunks_after 0 at (drop 4 body)) else []

-- what stands in a chunk
inside : (tag : Tag) (c : Chunk) → body_in tag (parts_of c) ≡ body_in tag (nested_of (is_text_list (file_kind c.id) c.body) (c.first + 4) c.body)
inside tag c = ap (λ b. if b then Some c.body else body_in tag (nested_of (is_text_list (file_kind c.id) c.body) (c.first + 4) c.body))
    (no_text_by tag (bytes_eq c.id (codes "fmt ")) (bytes_eq c.id (codes "data")) (bytes_eq c.id (codes "LIST"))
    (bytes_eq c.id (codes "id3 ") || bytes_eq c.id (codes "ID3 ")))

place_free : (tag : Tag) (t : Bool) (at at' : ℕ) (body : List ℕ) → body_in tag (nested_of t at body) ≡ body_in tag (nested_of t at' body)
place_free tag true at at' body = nested_same tag 0 at at' (drop 4 body)
place_free tag false at at' body = refl

moved : (tag : Tag) (c : Chunk) (first : ℕ)
    → body_in tag (parts_of (record { id = c.id; first = first; body = c.body })) ≡ body_in tag (parts_of c)
moved tag c first = inside tag (record { id = c.id; first = first; body = c.body })
    ∙ place_free tag (is_text_list (file_kind c.id) c.body) (first + 4) (c.first + 4) c.body ∙ sym (inside tag c)

not_nested : (a b d e : Bool) → d ≡ false
    → is_nested (if a then Format else if b then Data else if d then Nested else if e then Id3 else Other) ≡ false
not_nested true b d e no' = refl
not_nested false true d e no' = refl
not_nested false false true e no' = no'
not_nested false false false true no' = refl
not_nested false false false false no' = refl

first_of_or : (a b : Bool) → (a || b) ≡ false → a ≡ false
first_of_or true b no' = no'
first_of_or false b no' = refl

none_inside : (tag : Tag) (c : Chunk) → is_kept_id c.id ≡ false → body_in tag (parts_of c) ≡ None
none_inside tag c no' =
    let list : bytes_eq c.id (codes "LIST") ≡ false = first_of_or (bytes_eq c.id (codes "LIST")) (bytes_eq c.id (codes "id3 ")) (first_of_or
    (bytes_eq c.id (codes "LIST") || bytes_eq c.id (codes "id3 ")) (bytes_eq c.id (codes "ID3 ")) no') in
    let nested : is_nested (file_kind c.id) ≡ false = not_nested (bytes_eq c.id (codes "fmt ")) (bytes_eq c.id (codes "data")) (bytes_eq c.id
    (codes "LIST")) (bytes_eq c.id (codes "id3 ") || bytes_eq c.id (codes "ID3 ")) list in
    inside tag c ∙ ap (λ b. body_in tag (nested_of (b && is_info c.body) (c.first + 4) c.body)) nested

kept_bodies : (tag : Tag) (at : ℕ) (cs : List Chunk)
    → body_in tag (flat_map parts_of (placed at (kept_in cs))) ≡ body_in tag (flat_map parts_of cs)
kept_bodies tag at [] = refl
kept_bodies tag at (c ∷ cs) = chosen (is_kept_id c.id) refl
    (kept_bodies tag (at + (8 + padded (length c.body))) cs) (kept_bodies tag at cs)
  where
    chosen : (b : Bool) → is_kept_id c.id ≡ b
        → body_in tag (flat_map parts_of (placed (at + (8 + padded (length c.body))) (kept_in cs))) ≡ body_in tag (flat_map parts_of cs)
        → body_in tag (flat_map parts_of (placed at (kept_in cs))) ≡ body_in tag (flat_map parts_of cs)
        → body_in tag (flat_map parts_of (placed at (cond b (c ∷ kept_in cs) (kept_in cs)))) ≡ body_in tag (parts_of c ++ flat_map parts_of cs)
    chosen true is next here = body_in-append tag (parts_of (record { id = c.id; first = at + 8; body = c.body })) (flat_map parts_of (placed (at + (8
        + padded (length c.body))) (kept_in cs)))
        ∙ ap (λ o. either o (body_in tag (flat_map parts_of (placed (at + (8 + padded (length c.body))) (kept_in cs))))) (moved tag c (at + 8))
        ∙ ap (either (body_in tag (parts_of c))) next
        ∙ sym (body_in-append tag (parts_of c) (flat_map parts_of cs))
    chosen false is next here = here ∙ sym (body_in-append tag (parts_of c) (flat_map parts_of cs)
        ∙ ap (λ o. either o (body_in tag (flat_map parts_of cs))) (none_inside tag c is))

text_kept : (tag : Tag) (at : ℕ) (cs : List Chunk) → text_in (flat_map parts_of (placed at (kept_in cs))) tag ≡ text_in (flat_map parts_of cs) tag
text_kept tag at cs = by_body tag (flat_map parts_of (placed at (kept_in cs))) ∙ ap (option_and_then tag_text) (kept_bodies tag at cs)
    ∙ sym (by_body tag (flat_map parts_of cs))

found_kept : (tag : Tag) (at : ℕ) (cs : List Chunk)
    → found_text (flat_map parts_of (placed at (kept_in cs))) tag ≡ found_text (flat_map parts_of cs) tag
found_kept tag at cs = ap (option_map (λ text. record { tag = tag; text = text })) (text_kept tag at cs)

texts_for_kept : (tags : List Tag) (at : ℕ) (cs : List Chunk)
    → texts_for (flat_map parts_of (placed at (kept_in cs))) tags ≡ texts_for (flat_map parts_of cs) tags
texts_for_kept [] at cs = refl
texts_for_kept (tag ∷ tags) at cs =
    ap (λ o. cons_option o (texts_for (flat_map parts_of (placed at (kept_in cs))) tags)) (found_kept tag at cs)
    ∙ ap (cons_option (found_text (flat_map parts_of cs) tag)) (texts_for_kept tags at cs)

pub texts_kept : (at : ℕ) (cs : List Chunk) (wanted : TagSet)
    → texts_in (flat_map parts_of (placed at (kept_in cs))) wanted ≡ texts_in (flat_map parts_of cs) wanted
texts_kept at cs wanted = texts_for_kept (tags_in wanted) at cs
