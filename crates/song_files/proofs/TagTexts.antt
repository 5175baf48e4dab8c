-- The texts of tags.
use Rattle.std.proofs.Common.{◌≡◌, ℕ, ◌+◌, ◌<◌, ◌≤◌, Bool, true, false, List, [], ◌∷◌, ◌++◌, length, map, take, drop, get_or, nat_lt}
use Rattle.std.proofs.Common.{Some, refl, sym, ap, ◌∙◌, arith}
use Rattle.std.specs.Prelude.{slice_get, filter, insert}
use Rattle.std.specs.List.{All}
use Rattle.std.specs.List.Sorted.{IsNonDecreasingBy}
use Rattle.std.proofs.lemmas.Bool.Decides.{nat_tests}
use Rattle.std.proofs.lemmas.List.Edits.{length-insert, insert_end}
use Rattle.std.proofs.lemmas.List.Elements.{All-append, All-cons, All-take, All-drop, All-head, All-tail, filter-append}
use Rattle.std.proofs.lemmas.List.{append-nil, take-append-drop, length-drop, get_or-drop, map_push, take_more_same}
use Rattle.std.proofs.lemmas.Option.{slice_get_within, get_or_from_slice_get}
use Rattle.std.proofs.lemmas.List.Sorted.{IsNonDecreasingBy-insert}
use Rattle.std.proofs.lemmas.List.Sums.{fails_before_first, passes_at_first, position_or_len_is, prefix_len-le-length}
use Rattle.song_files.specs.Limits.{MAX_TAGS}
use Rattle.song_files.specs.Tag.{is_tag, number_of}
use Rattle.song_files.specs.Tags.{TagText, texts_of, first_text, place_for, with_text, AreTags}
use Rattle.song_files.specs.Text.{is_tag_text}
use Rattle.song_files.specs.declared.tag.Tag.{Tag}
use Rattle.song_files.proofs.TagNumbers.{is_tag_refl, is_tag_other}

first_more : (t : TagText) (tags : List TagText) (tag : Tag) (b : Bool) → is_tag t.tag tag ≡ b
    → slice_get (texts_of tags tag) 0 ≡ first_text tags tag → slice_get (texts_of (t ∷ tags) tag) 0 ≡ first_text (t ∷ tags) tag
first_more t tags tag true same rest = rw same refl
first_more t tags tag false differs rest = rw differs rest

-- the first text is that at place 0
pub first_text_is : (tags : List TagText) (tag : Tag) → slice_get (texts_of tags tag) 0 ≡ first_text tags tag
first_text_is [] tag = refl
first_text_is (t ∷ tags) tag = first_more t tags tag (is_tag t.tag tag) refl (first_text_is tags tag)

-- before the place for a text stand those of tags with the same or a lower number
pub before_place : (tags : List TagText) (tag : Tag) (k : ℕ) (d : TagText) → k < place_for tags tag
    → number_of (get_or tags k d).tag ≤ number_of tag
before_place tags tag k d under =
    let fails : nat_lt (number_of tag) (number_of (get_or tags k d).tag) ≡ false =
    fails_before_first (λ (t : TagText). nat_lt (number_of tag) (number_of t.tag)) tags k d under in
    grind (arith, nat_tests)

-- from it on, those of tags with a higher one
pub after_place : (tags : List TagText) (tag : Tag) (k : ℕ) (d : TagText) → IsNonDecreasingBy (λ (t : TagText). number_of t.tag) tags
    → place_for tags tag ≤ k → k < length tags → number_of tag < number_of (get_or tags k d).tag
after_place tags tag k d ordered past within =
    let some : place_for tags tag < length tags = omega arith in
    let passes : nat_lt (number_of tag) (number_of (get_or tags (place_for tags tag) d).tag) ≡ true =
    passes_at_first (λ (t : TagText). nat_lt (number_of tag) (number_of t.tag)) tags d some in
    let here : number_of tag < number_of (get_or tags (place_for tags tag) d).tag = grind (arith, nat_tests) in
    omega (arith, here, ordered (place_for tags tag) k d past within)

pub place_within : (tags : List TagText) (tag : Tag) → place_for tags tag ≤ length tags
place_within tags tag = prefix_len-le-length _ tags

All-insert : (P : TagText → Type 0) (tags : List TagText) (i : ℕ) (t : TagText) → All P tags → P t → All P (insert tags i t)
All-insert P tags i t each one =
    All-append P (take i tags) (t ∷ drop i tags) (All-take P i tags each) (All-cons P t (drop i tags) one (All-drop P i tags each))

-- one more text keeps what every song's tags are
pub AreTags-with_text : (tags : List TagText) (tag : Tag) (text : List ℕ) → AreTags tags → is_tag_text text ≡ true → length tags < MAX_TAGS
    → AreTags (with_text tags tag text)
AreTags-with_text tags tag text are good few = record {
  ordered = IsNonDecreasingBy-insert (λ (t : TagText). number_of t.tag) tags (place_for tags tag) (record { tag = tag; text = text })
      are.ordered (place_within tags tag) (λ k d under. before_place tags tag k d under)
      (λ k d past within. let l : number_of tag < number_of (get_or tags k d).tag =
      after_place tags tag k d are.ordered past within in omega arith);
  texts = All-insert (λ (t : TagText). is_tag_text t.text ≡ true) tags (place_for tags tag) (record {
    tag = tag;
    text =
        text;
  }) are.texts good;
  few = omega (arith, length-insert tags (place_for tags tag) (record { tag = tag; text = text }) (place_within tags tag));
}

-- where no text is of a tag of a higher number, one more stands at the end
pub with_text-last : (tags : List TagText) (tag : Tag) (text : List ℕ)
    → ((k : ℕ) (d : TagText) → k < length tags → number_of (get_or tags k d).tag ≤ number_of tag)
    → with_text tags tag text ≡ tags ++ (record { tag = tag; text = text }) ∷ []
with_text-last tags tag text each =
    let new : TagText = record { tag = tag; text = text } in
    let place : place_for tags tag ≡ length tags = position_or_len_is (λ (t : TagText). nat_lt (number_of tag) (number_of t.tag)) tags
    (length tags) new (omega arith)
    (λ k under. let le : number_of (get_or tags k new).tag ≤ number_of tag = each k new under in grind (arith, nat_tests))
    (λ past. absurd (omega arith)) in
    ap (λ i. insert tags i new) place ∙ insert_end tags new

no_texts : (tags : List TagText) (tag : Tag) → All (λ (t : TagText). is_tag t.tag tag ≡ false) tags
    → filter (λ (t : TagText). is_tag t.tag tag) tags ≡ []
no_texts [] tag none = refl
no_texts (t ∷ tags) tag none =
    rw (All-head (λ (t : TagText). is_tag t.tag tag ≡ false) t tags none)
    (no_texts tags tag (All-tail (λ (t : TagText). is_tag t.tag tag ≡ false) t tags none))

none_after : (tags : List TagText) (tag : Tag) → IsNonDecreasingBy (λ (t : TagText). number_of t.tag) tags
    → filter (λ (t : TagText). is_tag t.tag tag) (drop (place_for tags tag) tags) ≡ []
none_after tags tag ordered =
    let i : ℕ = place_for tags tag in
    no_texts (drop i tags) tag (λ k d within.
    let inside : i + k < length tags = omega (arith, length-drop i tags) in
    let higher : number_of tag < number_of (get_or tags (i + k) d).tag = after_place tags tag (i + k) d ordered (omega arith) inside in
    ap (λ (t : TagText). is_tag t.tag tag) (get_or-drop i tags k d)
    ∙ is_tag_other (get_or tags (i + k) d).tag tag (λ same. omega arith))

-- one more text is the last of its tag
pub texts_of-with_text_same : (tags : List TagText) (tag : Tag) (text : List ℕ) → IsNonDecreasingBy (λ (t : TagText). number_of t.tag) tags
    → texts_of (with_text tags tag text) tag ≡ texts_of tags tag ++ text ∷ []
texts_of-with_text_same tags tag text ordered =
    let i : ℕ = place_for tags tag in
    let p : TagText → Bool = λ t. is_tag t.tag tag in
    let new : TagText = record { tag = tag; text = text } in
    let whole : filter p tags ≡ filter p (take i tags) =
    ap (filter p) (sym (take-append-drop i tags)) ∙ filter-append p (take i tags) (drop i tags)
    ∙ ap (λ (l : List TagText). filter p (take i tags) ++ l) (none_after tags tag ordered) ∙ append-nil (filter p (take i tags)) in
    let last : filter p (new ∷ drop i tags) ≡ new ∷ [] =
    rw (is_tag_refl tag) (ap (λ (l : List TagText). new ∷ l) (none_after tags tag ordered)) in
    ap (map (λ (t : TagText). t.text))
    (filter-append p (take i tags) (new ∷ drop i tags) ∙ ap (λ (l : List TagText). filter p (take i tags) ++ l) last
    ∙ ap (λ (l : List TagText). l ++ new ∷ []) (sym whole))
    ∙ map_push (λ (t : TagText). t.text) (filter p tags) new

-- and nothing else is changed
pub texts_of-with_text_other : (tags : List TagText) (tag other : Tag) (text : List ℕ) → is_tag tag other ≡ false
    → texts_of (with_text tags tag text) other ≡ texts_of tags other
texts_of-with_text_other tags tag other text differs =
    let i : ℕ = place_for tags tag in
    let p : TagText → Bool = λ t. is_tag t.tag other in
    let new : TagText = record { tag = tag; text = text } in
    let passed : filter p (new ∷ drop i tags) ≡ filter p (drop i tags) = rw differs refl in
    ap (map (λ (t : TagText). t.text))
    (filter-append p (take i tags) (new ∷ drop i tags) ∙ ap (λ (l : List TagText). filter p (take i tags) ++ l) passed
    ∙ sym (filter-append p (take i tags) (drop i tags)) ∙ ap (filter p) (take-append-drop i tags))

-- one more text that stands in both lists
pub same_more : (tags others : List TagText) (i : ℕ) (t u : TagText) → slice_get tags i ≡ Some t → slice_get others i ≡ Some u → t ≡ u
    → take i tags ≡ take i others → take (i + 1) tags ≡ take (i + 1) others
same_more tags others i t u there here one front =
    take_more_same tags others i t (slice_get_within tags i t there) (slice_get_within others i u here) front
    (get_or_from_slice_get tags i t t there ∙ one ∙ sym (get_or_from_slice_get others i u t here))
