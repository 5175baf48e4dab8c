-- One more text in the buffer, and its place among the places.
use Rattle.std.proofs.Common.{◌≡◌, ℕ, ◌+◌, ◌<◌, ◌≤◌, Bool, true, false, List, [], ◌∷◌, ◌++◌, length, map, take, drop, get_or, nat_lt}
use Rattle.std.proofs.Common.{refl, sym, ap, ◌∙◌, subst, inl, inr, arith, slice_range}
use Rattle.std.specs.Prelude.{insert}
use Rattle.std.specs.List.{All, position_or_len}
use Rattle.std.specs.Str.{IsUtf8, IsCharBoundary}
use Rattle.std.proofs.lemmas.Bool.{cases_lt}
use Rattle.std.proofs.lemmas.List.{map-append, take-map, drop-map, get_or_append_left, take-append-le, take_all, drop_at, length-append}
use Rattle.std.proofs.lemmas.List.{length-map}
use Rattle.std.proofs.lemmas.List.Edits.{length-insert}
use Rattle.std.proofs.lemmas.List.Elements.{All-append, All-cons, All-take, All-drop, All-head, All-tail, All-weaker}
use Rattle.std.proofs.lemmas.List.Sums.{prefix_len-le-length}
use Rattle.std.proofs.lemmas.Slice.{between_is}
use Rattle.std.proofs.lemmas.Str.{IsCharBoundary-at_seam, IsCharBoundary-end}
use Rattle.song_files.specs.Limits.{MAX_TAGS}
use Rattle.song_files.specs.Tag.{number_of}
use Rattle.song_files.specs.Tags.{TagText, place_for, with_text}
use Rattle.song_files.specs.Text.{is_tag_text}
use Rattle.song_files.specs.Places.{text_at, texts_at, IsPlace, ArePlaces}
use Rattle.song_files.specs.declared.tag.Tag.{Tag}
use Rattle.song_files.specs.declared.tags.Place.{Place}
use Rattle.song_files.proofs.TagTexts.{AreTags-with_text}
use Rattle.song_files.proofs.Texts.{text_utf8, text_short}

-- where a buffer is cut between characters it is so with a text behind it
boundary_kept : (bytes more : List ℕ) (i : ℕ) → IsUtf8 more → IsCharBoundary bytes i → IsCharBoundary (bytes ++ more) i
boundary_kept bytes more i utf8 cut = elim (cases_lt i (length bytes)) as (λ _. IsCharBoundary (bytes ++ more) i) [
  | inl inside ↦ (
    omega (arith, length-append bytes more, cut.0),
    λ within high. let e : get_or (bytes ++ more) i 0 ≡ get_or bytes i 0 = get_or_append_left bytes more 0 i inside in
        rw e (cut.1 inside (rw e at high)),
  )
  | inr past ↦ (let e : length bytes ≡ i = omega (arith, cut.0) in
      subst (IsCharBoundary (bytes ++ more)) e (IsCharBoundary-at_seam (bytes ++ more) bytes more refl utf8))
]

range_kept : (bytes more : List ℕ) (a b : ℕ) → b ≤ length bytes → slice_range (bytes ++ more) a b ≡ slice_range bytes a b
range_kept bytes more a b within =
    between_is (bytes ++ more) a b ∙ ap (drop a) (take-append-le b bytes more within) ∙ sym (between_is bytes a b)

-- the texts that were there
texts_kept : (bytes more : List ℕ) (places : List Place) → All (IsPlace bytes) places
    → texts_at (bytes ++ more) places ≡ texts_at bytes places
texts_kept bytes more [] each = refl
texts_kept bytes more (p ∷ places) each =
    let here : IsPlace bytes p = All-head (IsPlace bytes) p places each in
    let own : text_at (bytes ++ more) p ≡ text_at bytes p =
    ap (λ (text : List ℕ). record { tag = p.tag; text = text }) (range_kept bytes more p.start (p.start + p.len) here.end.0) in
    let others : texts_at (bytes ++ more) places ≡ texts_at bytes places =
    texts_kept bytes more places (All-tail (IsPlace bytes) p places each) in
    cc

-- the text that came
text_new : (bytes text : List ℕ) (place : Place) → place.start ≡ length bytes → place.len ≡ length text
    → text_at (bytes ++ text) place ≡ record { tag = place.tag; text = text }
text_new bytes text place at long =
    ap (λ (t : List ℕ). record { tag = place.tag; text = t })
    (between_is (bytes ++ text) place.start (place.start + place.len)
    ∙ ap (drop place.start) (take_all (place.start + place.len) (bytes ++ text) (omega (arith, length-append bytes text)))
    ∙ drop_at bytes text place.start (sym at))

-- the place for a text is found by the places' tags

place_more : (bytes : List ℕ) (p : Place) (places : List Place) (tag : Tag) (b : Bool) → nat_lt (number_of tag) (number_of p.tag) ≡ b
    → place_for (texts_at bytes places) tag ≡ position_or_len (λ (q : Place). nat_lt (number_of tag) (number_of q.tag)) places
    → place_for (texts_at bytes (p ∷ places)) tag ≡ position_or_len (λ (q : Place). nat_lt (number_of tag) (number_of q.tag)) (p ∷ places)
place_more bytes p places tag true same rest = rw same refl
place_more bytes p places tag false differs rest = rw differs (ap (λ n. 1 + n) rest)

pub place_is : (bytes : List ℕ) (places : List Place) (tag : Tag)
    → place_for (texts_at bytes places) tag ≡ position_or_len (λ (q : Place). nat_lt (number_of tag) (number_of q.tag)) places
place_is bytes [] tag = refl
place_is bytes (p ∷ places) tag = place_more bytes p places tag (nat_lt (number_of tag) (number_of p.tag)) refl (place_is bytes places tag)

texts_inserted : (bytes : List ℕ) (places : List Place) (i : ℕ) (p : Place)
    → texts_at bytes (insert places i p) ≡ insert (texts_at bytes places) i (text_at bytes p)
texts_inserted bytes places i p =
    map-append (text_at bytes) (take i places) (p ∷ drop i places)
    ∙ ap (λ (l : List TagText). l ++ text_at bytes p ∷ map (text_at bytes) (drop i places)) (sym (take-map (text_at bytes) i places))
    ∙ ap (λ (l : List TagText). take i (map (text_at bytes) places) ++ text_at bytes p ∷ l) (sym (drop-map (text_at bytes) i places))

module _ (bytes text : List ℕ) (places : List Place) (place : Place) (i : ℕ) where
  -- what the buffer shows with one more text
  pub texts_added : All (IsPlace bytes) places → place.start ≡ length bytes → place.len ≡ length text
      → i ≡ position_or_len (λ (q : Place). nat_lt (number_of place.tag) (number_of q.tag)) places
      → texts_at (bytes ++ text) (insert places i place) ≡ with_text (texts_at bytes places) place.tag text
  texts_added each at long found =
      texts_inserted (bytes ++ text) places i place
      ∙ ap (λ (l : List TagText). insert l i (text_at (bytes ++ text) place)) (texts_kept bytes text places each)
      ∙ ap (λ (t : TagText). insert (texts_at bytes places) i t) (text_new bytes text place at long)
      ∙ ap (λ k. insert (texts_at bytes places) k (record { tag = place.tag; text = text })) (found ∙ sym (place_is bytes places place.tag))

  -- and its places
  pub places_added : ArePlaces bytes places → is_tag_text text ≡ true → length places < MAX_TAGS → place.start ≡ length bytes
      → place.len ≡ length text → i ≡ position_or_len (λ (q : Place). nat_lt (number_of place.tag) (number_of q.tag)) places
      → ArePlaces (bytes ++ text) (insert places i place)
  places_added are good few at long found =
      let utf8 : IsUtf8 text = text_utf8 text good in
      let short : (0 < length text) × (length text ≤ 512) = text_short text good in
      let kept : All (IsPlace (bytes ++ text)) places = All-weaker (IsPlace bytes) (IsPlace (bytes ++ text))
      (λ (p : Place) here. record {
        start = boundary_kept bytes text p.start utf8 here.start;
        end = boundary_kept bytes text (p.start + p.len) utf8 here.end;
      }) places are.within in
      let own : IsPlace (bytes ++ text) place = record {
        start = subst (IsCharBoundary (bytes ++ text)) (sym at) (IsCharBoundary-at_seam (bytes ++ text) bytes text refl utf8);
        end = (let e : length (bytes ++ text) ≡ place.start + place.len = omega (arith, length-append bytes text) in
            subst (IsCharBoundary (bytes ++ text)) e (IsCharBoundary-end (bytes ++ text)));
      } in
      let le : i ≤ length places = rw found (prefix_len-le-length _ places) in
      record {
        within = All-append (IsPlace (bytes ++ text)) (take i places) (place ∷ drop i places)
            (All-take (IsPlace (bytes ++ text)) i places kept)
            (All-cons (IsPlace (bytes ++ text)) place (drop i places) own (All-drop (IsPlace (bytes ++ text)) i places kept));
        short = omega (arith, length-append bytes text, length-insert places i place le, are.short, short);
        tags = rw (texts_added are.within at long found) (AreTags-with_text (texts_at bytes places) place.tag text are.tags good
            (omega (arith, length-map places (text_at bytes))));
      }
