-- The six texts of a row's tags.
use Rattle.std.proofs.Common.{◌≡◌, ℕ, zero, suc, ◌+◌, ◌<◌, ◌≤◌, ◌++◌, ◌&&◌, Bool, true, false, List, [], ◌∷◌, length, Some, None}
use Rattle.std.proofs.Common.{refl, sym, ap, ◌∙◌, arith, nat_lt, nat_le}
use Rattle.std.specs.Prelude.{Option, option_and_then}
use Rattle.std.proofs.lemmas.Bool.Decides.{nat_tests}
use Rattle.std.proofs.lemmas.List.{append-nil, append_assoc}
use Rattle.song_files.specs.Tag.{is_tag, number_of, tag_at, all_tags, table}
use Rattle.song_files.specs.Tags.{TagText, first_text}
use Rattle.song_files.specs.declared.tag.Tag.{Tag}
use Rattle.song_files.specs.declared.tag.Tag.TheVariants.{Title, Artist, Album, Date, Genre, Comment}
use Rattle.song_files.proofs.TagNumbers.{is_tag_refl, is_tag_other, number_at, tag_at-number}
use Rattle.song_db.specs.Row.{is_plain_from, is_plain, six_texts, numbered, tags_from, from_six}

both : (a b : Bool) → (a && b) ≡ true → (a ≡ true) × (b ≡ true)
both true b h = (refl, h)
both false b h = absurd (cc)

-- the first texts of the tags with so many numbers, from one on
first_at : ℕ → List TagText → Option (List ℕ)
first_at number tags = option_and_then (first_text tags) (tag_at number)

texts_from : ℕ → ℕ → List TagText → List (Option (List ℕ))
texts_from number zero tags = []
texts_from number (suc k) tags = first_at number tags ∷ texts_from (number + 1) k tags

six_are : (tags : List TagText) → six_texts tags ≡ texts_from 0 6 tags
unfolding tag_at all_tags table first_at texts_from
six_are tags = refl

record Head (number : ℕ) (t : TagText) (tags : List TagText) : Type 0 where
  from : number ≤ number_of t.tag
  below : number_of t.tag < 6
  rest : is_plain_from (number_of t.tag + 1) tags ≡ true

head_of : (number : ℕ) (t : TagText) (tags : List TagText) → is_plain_from number (t ∷ tags) ≡ true → Head number t tags
head_of number t tags plain =
    let a = both (nat_le number (number_of t.tag)) _ plain in
    let b = both (nat_lt (number_of t.tag) 6) _ a.1 in
    record { from = grind (arith, nat_tests, a.0); below = grind (arith, nat_tests, b.0); rest = b.1 }

plain_with : (number : ℕ) (t : TagText) (tags : List TagText) → number ≤ number_of t.tag → number_of t.tag < 6
    → is_plain_from (number_of t.tag + 1) tags ≡ true → is_plain_from number (t ∷ tags) ≡ true
plain_with number t tags from below rest =
    let a : nat_le number (number_of t.tag) ≡ true = grind (arith, nat_tests) in
    let b : nat_lt (number_of t.tag) 6 ≡ true = grind (arith, nat_tests) in
    rw (a, b) rest

-- no text is of a tag with a lower number
none_before : (number : ℕ) (tags : List TagText) (tag : Tag) → is_plain_from number tags ≡ true → number_of tag < number
    → first_text tags tag ≡ None
none_before number [] tag plain under = refl
none_before number (t ∷ tags) tag plain under =
    let h = head_of number t tags plain in
    let other : is_tag t.tag tag ≡ false = is_tag_other t.tag tag (λ same. absurd (omega (arith, same, h.from, under))) in
    rw other (none_before (number_of t.tag + 1) tags tag h.rest (omega (arith, h.from, under)))

tag_here : (number : ℕ) → number < 6 → (tag : Tag) × (tag_at number ≡ Some tag)
unfolding tag_at all_tags table
tag_here zero under = (Title, refl)
tag_here (suc zero) under = (Artist, refl)
tag_here (suc (suc zero)) under = (Album, refl)
tag_here (suc (suc (suc zero))) under = (Date, refl)
tag_here (suc (suc (suc (suc zero)))) under = (Genre, refl)
tag_here (suc (suc (suc (suc (suc zero))))) under = (Comment, refl)
tag_here (suc (suc (suc (suc (suc (suc n)))))) under = absurd (omega arith)

-- a text of a tag with a lower number is passed by
passed : (number k : ℕ) (t : TagText) (tags : List TagText) → number + k ≡ 6 → number_of t.tag < number
    → texts_from number k (t ∷ tags) ≡ texts_from number k tags
unfolding texts_from first_at
passed number zero t tags most under = refl
passed number (suc k) t tags most under =
    let h = tag_here number (omega arith) in
    let n : number_of h.0 ≡ number = number_at number h.0 h.1 in
    let other : is_tag t.tag h.0 ≡ false = is_tag_other t.tag h.0 (λ same. absurd (omega (arith, same, n, under))) in
    let rest : texts_from (number + 1) k (t ∷ tags) ≡ texts_from (number + 1) k tags =
    passed (number + 1) k t tags (omega arith) (omega arith) in
    rw (h.1, other, rest) refl

tags_again : (number k : ℕ) (tags : List TagText) → number + k ≡ 6 → is_plain_from number tags ≡ true
    → tags_from number (texts_from number k tags) ≡ tags
unfolding texts_from first_at
tags_again number zero [] most plain = refl
tags_again number zero (t ∷ tags) most plain =
    let h = head_of number t tags plain in
    absurd (omega (arith, h.from, h.below, most))
tags_again number (suc k) [] most plain =
    let h = tag_here number (omega arith) in
    rw h.1 (tags_again (number + 1) k [] (omega arith) refl)
tags_again number (suc k) (t ∷ tags) most plain =
    let here = tag_here number (omega arith) in
    by_cases (nat_lt number (number_of t.tag)) refl here.0 here.1 (number_at number here.0 here.1) (head_of number t tags plain)
    (λ ts p. tags_again (number + 1) k ts (omega arith) p)
  where
    by_cases : (b : Bool) → nat_lt number (number_of t.tag) ≡ b → (tag : Tag) → tag_at number ≡ Some tag → number_of tag ≡ number
        → Head number t tags
        → ((ts : List TagText) → is_plain_from (number + 1) ts ≡ true → tags_from (number + 1) (texts_from (number + 1) k ts) ≡ ts)
        → tags_from number (texts_from number (suc k) (t ∷ tags)) ≡ t ∷ tags
    by_cases true higher tag at is h again =
        let above : number < number_of t.tag = grind (arith, nat_tests) in
        let none : first_text (t ∷ tags) tag ≡ None =
        none_before (number + 1) (t ∷ tags) tag (plain_with (number + 1) t tags (omega arith) h.below h.rest) (omega arith) in
        let rest : tags_from (number + 1) (texts_from (number + 1) k (t ∷ tags)) ≡ t ∷ tags =
        again (t ∷ tags) (plain_with (number + 1) t tags (omega arith) h.below h.rest) in
        rw (at, none) rest
    by_cases false lower tag at is h again =
        let same : number_of t.tag ≡ number = grind (arith, nat_tests, h.from) in
        let one : Some tag ≡ Some t.tag = sym at ∙ ap tag_at (sym same) ∙ tag_at-number t.tag in
        let equal : tag ≡ t.tag = cc in
        let own : first_text (t ∷ tags) tag ≡ Some t.text = rw (equal, is_tag_refl t.tag) refl in
        let skip : texts_from (number + 1) k (t ∷ tags) ≡ texts_from (number + 1) k tags =
        passed (number + 1) k t tags (omega arith) (omega arith) in
        let rest : tags_from (number + 1) (texts_from (number + 1) k tags) ≡ tags =
        again tags (ap (λ n. is_plain_from (n + 1) tags) (sym same) ∙ h.rest) in
        rw (at, own, at, skip, rest) (ap (λ (x : Tag). record { tag = x; text = t.text } ∷ tags) equal)

-- the tags of a row that has no others, by their six texts
pub from_six-six_texts : (tags : List TagText) → is_plain tags ≡ true → from_six (six_texts tags) ≡ tags
from_six-six_texts tags plain = ap (tags_from 0) (six_are tags) ∙ tags_again 0 6 tags refl plain

-- texts from a number on make tags of numbers from it on
pub tags_from-plain : (number : ℕ) (texts : List (Option (List ℕ))) → number + length texts ≤ 6
    → is_plain_from number (tags_from number texts) ≡ true
tags_from-plain number [] most = refl
tags_from-plain number (None ∷ texts) most = later number (tags_from (number + 1) texts) (tags_from-plain (number + 1) texts (omega arith))
  where
    later : (number : ℕ) (tags : List TagText) → is_plain_from (number + 1) tags ≡ true → is_plain_from number tags ≡ true
    later number [] plain = refl
    later number (t ∷ tags) plain =
        let h = head_of (number + 1) t tags plain in
        plain_with number t tags (omega (arith, h.from)) h.below h.rest
tags_from-plain number (Some text ∷ texts) most =
    let here = tag_here number (omega arith) in
    let is : number_of here.0 ≡ number = number_at number here.0 here.1 in
    rw here.1 (plain_with number (record { tag = here.0; text = text }) (tags_from (number + 1) texts) (omega (arith, is)) (omega (arith, is))
    (rw is (tags_from-plain (number + 1) texts (omega arith))))

pub from_six-plain : (texts : List (Option (List ℕ))) → length texts ≤ 6 → is_plain (from_six texts) ≡ true
from_six-plain texts few = tags_from-plain 0 texts (omega arith)

first_of_tag : (number : ℕ) (tag : Tag) (text : Option (List ℕ)) (texts : List (Option (List ℕ))) → tag_at number ≡ Some tag
    → number + 1 + length texts ≤ 6 → first_text (tags_from number (text ∷ texts)) tag ≡ text
first_of_tag number tag None texts at most =
    none_before (number + 1) (tags_from (number + 1) texts) tag (tags_from-plain (number + 1) texts most) (omega (arith, number_at number tag at))
first_of_tag number tag (Some text) texts at most = rw (at, is_tag_refl tag) refl

texts_later : (number k : ℕ) (text : Option (List ℕ)) (texts : List (Option (List ℕ))) → number + 1 + k ≡ 6
    → texts_from (number + 1) k (tags_from number (text ∷ texts)) ≡ texts_from (number + 1) k (tags_from (number + 1) texts)
texts_later number k None texts most = refl
texts_later number k (Some text) texts most =
    let here = tag_here number (omega arith) in
    let is : number_of here.0 ≡ number = number_at number here.0 here.1 in
    rw here.1 (passed (number + 1) k (record { tag = here.0; text = text }) (tags_from (number + 1) texts) most (omega (arith, is)))

texts_again : (number k : ℕ) (texts : List (Option (List ℕ))) → length texts ≡ k → number + k ≡ 6
    → texts_from number k (tags_from number texts) ≡ texts
unfolding texts_from first_at
texts_again number zero [] long most = refl
texts_again number zero (text ∷ texts) long most = absurd (omega arith)
texts_again number (suc k) [] long most = absurd (omega arith)
texts_again number (suc k) (text ∷ texts) long most =
    let here = tag_here number (omega arith) in
    let first : first_text (tags_from number (text ∷ texts)) here.0 ≡ text = first_of_tag number here.0 text texts here.1 (omega arith) in
    let rest : texts_from (number + 1) k (tags_from number (text ∷ texts)) ≡ texts =
    texts_later number k text texts (omega arith) ∙ texts_again (number + 1) k texts (omega arith) (omega arith) in
    rw (here.1, first, rest) refl

-- the six texts of what was made of six
pub six_texts-from_six : (texts : List (Option (List ℕ))) → length texts ≡ 6 → six_texts (from_six texts) ≡ texts
six_texts-from_six texts long = six_are (from_six texts) ∙ texts_again 0 6 texts long refl

-- one text more, which is of the tag with the next number
pub tags_from-push : (number : ℕ) (texts : List (Option (List ℕ))) (text : Option (List ℕ))
    → tags_from number (texts ++ text ∷ []) ≡ tags_from number texts ++ numbered (number + length texts) text
tags_from-push number [] text = append-nil (numbered number text) ∙ ap (λ n. numbered n text) (let same : number ≡ number + 0 = omega arith in same)
tags_from-push number (x ∷ texts) text =
    let same : (number + 1) + length texts ≡ number + suc (length texts) = omega arith in
    ap (λ l. numbered number x ++ l) (tags_from-push (number + 1) texts text ∙ ap (λ n. tags_from (number + 1) texts ++ numbered n text) same)
    ∙ sym (append_assoc (numbered number x) (tags_from (number + 1) texts) (numbered (number + suc (length texts)) text))

pub from_six-push : (texts : List (Option (List ℕ))) (text : Option (List ℕ))
    → from_six (texts ++ text ∷ []) ≡ from_six texts ++ numbered (length texts) text
from_six-push texts text =
    let same : 0 + length texts ≡ length texts = omega arith in
    tags_from-push 0 texts text ∙ ap (λ n. from_six texts ++ numbered n text) same
