-- The texts of a row, one after the other.
use Rattle.std.proofs.Common.{◌≡◌, ℕ, zero, suc, ◌+◌, ◌<◌, ◌≤◌, ◌++◌, get_or, Bool, true, false, ◌&&◌, ◌||◌, cond, List, [], ◌∷◌, drop, length, Some, add-one}
use Rattle.std.proofs.Common.{refl, sym, ap, ◌∙◌, arith, map}
use denote.Ref.{Bor}
use Rattle.std.specs.List.{list_any, list_all, filter, flat_map, slice_get, All}
use Rattle.std.specs.Str.{bytes_eq}
use Rattle.song_files.specs.Tag.{is_tag}
use Rattle.song_files.specs.Tags.{TagText, texts_of}
use Rattle.song_files.specs.Text.{is_tag_text}
use Rattle.song_files.specs.declared.tag.Tag.{Tag}
use Rattle.song_db.specs.Query.{with_texts}
use Rattle.song_db.specs.Row.{Row, is_good_tag}
use Rattle.song_db.specs.Valued.{has_text}
use Rattle.song_db.proofs.Gathered.{with_texts-append}

texts_suc : (tags : List TagText) (at : ℕ) (t : TagText) (tag : Tag) → slice_get tags at ≡ Some t
    → texts_of (drop at tags) tag ≡ cond (is_tag t.tag tag) (t.text ∷ texts_of (drop (suc at) tags) tag) (texts_of (drop (suc at) tags) tag)
texts_suc [] at t tag here = absurd (cc)
texts_suc (x ∷ xs) zero t tag here =
    let same : x ≡ t = cc in
    rw (← same) (by_cases (is_tag x.tag tag))
  where
    by_cases : (b : Bool) → map (λ (t : TagText). t.text) (cond b (x ∷ filter (λ (t : TagText). is_tag t.tag tag) xs) (filter (λ (t :
        TagText). is_tag t.tag tag) xs)) ≡ cond b (x.text ∷ texts_of xs tag) (texts_of xs tag)
    by_cases true = refl
    by_cases false = refl
texts_suc (x ∷ xs) (suc at) t tag here = texts_suc xs at t tag here

-- the texts of a tag from a place on
pub texts_next : (tags : List TagText) (at : ℕ) (t : TagText) (tag : Tag) → slice_get tags at ≡ Some t
    → texts_of (drop at tags) tag ≡ cond (is_tag t.tag tag) (t.text ∷ texts_of (drop (at + 1) tags) tag) (texts_of (drop (at + 1) tags) tag)
texts_next tags at t tag here = rw add-one (texts_suc tags at t tag here)

drop_all : (tags : List TagText) (at : ℕ) → length tags ≤ at → drop at tags ≡ []
drop_all [] zero past = refl
drop_all [] (suc at) past = refl
drop_all (x ∷ xs) zero past = absurd (omega arith)
drop_all (x ∷ xs) (suc at) past = drop_all xs at (omega arith)

pub no_texts_left : (tags : List TagText) (at : ℕ) (tag : Tag) → length tags ≤ at → texts_of (drop at tags) tag ≡ []
no_texts_left tags at tag past = ap (λ l. texts_of l tag) (drop_all tags at past)

text_at : (tags : List TagText) (at : ℕ) (t : TagText) (tag : Tag) (value : List ℕ) → slice_get tags at ≡ Some t
    → has_text (drop at tags) tag value ≡ ((is_tag t.tag tag && bytes_eq t.text value) || has_text (drop (at + 1) tags) tag value)
text_at tags at t tag value here = ap (list_any (λ text. bytes_eq text value)) (texts_next tags at t tag here) ∙ by_cases (is_tag t.tag tag)
  where
    by_cases : (b : Bool) → list_any (λ text. bytes_eq text value) (cond b (t.text ∷ texts_of (drop (at + 1) tags) tag) (texts_of
        (drop (at + 1) tags) tag)) ≡ ((b && bytes_eq t.text value) || has_text (drop (at + 1) tags) tag value)
    by_cases true = refl
    by_cases false = refl

-- a text is found, or passed by
pub text_found : (tags : List TagText) (at : ℕ) (t : TagText) (tag : Tag) (value : List ℕ) → slice_get tags at ≡ Some t
    → has_text (drop at tags) tag value ≡ has_text tags tag value → (is_tag t.tag tag && bytes_eq t.text value) ≡ true
    → true ≡ has_text tags tag value
text_found tags at t tag value here so_far is =
    let yes : has_text (drop at tags) tag value ≡ true = text_at tags at t tag value here ∙ rw is refl in
    sym yes ∙ so_far

pub text_passed : (tags : List TagText) (at : ℕ) (t : TagText) (tag : Tag) (value : List ℕ) → slice_get tags at ≡ Some t
    → has_text (drop at tags) tag value ≡ has_text tags tag value → (is_tag t.tag tag && bytes_eq t.text value) ≡ false
    → has_text (drop (at + 1) tags) tag value ≡ has_text tags tag value
text_passed tags at t tag value here so_far is =
    let same : has_text (drop at tags) tag value ≡ has_text (drop (at + 1) tags) tag value = text_at tags at t tag value here ∙ rw is refl in
    sym same ∙ so_far

pub text_missing : (tags : List TagText) (at : ℕ) (tag : Tag) (value : List ℕ) → length tags ≤ at
    → has_text (drop at tags) tag value ≡ has_text tags tag value → false ≡ has_text tags tag value
text_missing tags at tag value past so_far =
    let none : has_text (drop at tags) tag value ≡ false = ap (list_any (λ text. bytes_eq text value)) (no_texts_left tags at tag past) in
    sym none ∙ so_far

-- a text is taken, or passed by
pub text_taken : (tags : List TagText) (at : ℕ) (t : TagText) (tag : Tag) (known more all : List (List ℕ)) → slice_get tags at ≡ Some t
    → is_tag t.tag tag ≡ true → more ≡ with_texts known (t.text ∷ []) → with_texts known (texts_of (drop at tags) tag) ≡ all
    → with_texts more (texts_of (drop (at + 1) tags) tag) ≡ all
text_taken tags at t tag known more all here own is so_far =
    let rest : texts_of (drop at tags) tag ≡ t.text ∷ texts_of (drop (at + 1) tags) tag = texts_next tags at t tag here ∙ rw own refl in
    rw is (sym (ap (with_texts known) rest) ∙ so_far)

pub text_left : (tags : List TagText) (at : ℕ) (t : TagText) (tag : Tag) (known all : List (List ℕ)) → slice_get tags at ≡ Some t
    → is_tag t.tag tag ≡ false → with_texts known (texts_of (drop at tags) tag) ≡ all
    → with_texts known (texts_of (drop (at + 1) tags) tag) ≡ all
text_left tags at t tag known all here other so_far =
    let rest : texts_of (drop at tags) tag ≡ texts_of (drop (at + 1) tags) tag = texts_next tags at t tag here ∙ rw other refl in
    sym (ap (with_texts known) rest) ∙ so_far

pub texts_taken : (tags : List TagText) (at : ℕ) (tag : Tag) (known all : List (List ℕ)) → length tags ≤ at
    → with_texts known (texts_of (drop at tags) tag) ≡ all → known ≡ all
texts_taken tags at tag known all past so_far =
    let none : with_texts known (texts_of (drop at tags) tag) ≡ known = ap (with_texts known) (no_texts_left tags at tag past) in
    sym none ∙ so_far

-- good texts
pub all_good : (tags : List TagText) → All (λ (t : TagText). is_tag_text t.text ≡ true) tags → list_all is_good_tag tags ≡ true
all_good [] each = refl
all_good (x ∷ xs) each = rw (each 0 x (omega arith)) (all_good xs (λ k d below. each (suc k) d (omega arith)))

-- ---- what one more row tells

told_suc : (told : Row → List (List ℕ)) (rows : List Row) (i : ℕ) (row : Row) → i < length rows → row ≡ get_or rows i row
    → flat_map told (drop i rows) ≡ told row ++ flat_map told (drop (suc i) rows)
told_suc told [] i row within is = absurd (omega arith)
told_suc told (x ∷ xs) zero row within is = ap (λ (r : Row). told r ++ flat_map told xs) (sym is)
told_suc told (x ∷ xs) (suc i) row within is = told_suc told xs i row (omega arith) is

pub values_more : (told : Row → List (List ℕ)) (rows : List Row) (i : ℕ) (row : Row) (known more all : List (List ℕ)) → i < length rows
    → row ≡ get_or rows i row → more ≡ with_texts known (told row) → with_texts known (flat_map told (drop i rows)) ≡ all
    → with_texts more (flat_map told (drop (i + 1) rows)) ≡ all
values_more told rows i row known more all within is taken so_far =
    rw (add-one, taken) (sym (with_texts-append known (told row) (flat_map told (drop (suc i) rows)))
    ∙ sym (ap (with_texts known) (told_suc told rows i row within is)) ∙ so_far)

lent_suc : (told : Row → List (List ℕ)) (rows : List (Bor Row)) (i : ℕ) (row : Bor Row) → i < length rows → row ≡ get_or rows i row
    → flat_map told (map (λ (r : Bor Row). r.now) (drop i rows))
    ≡ told row.now ++ flat_map told (map (λ (r : Bor Row). r.now) (drop (suc i) rows))
lent_suc told [] i row within is = absurd (omega arith)
lent_suc told (x ∷ xs) zero row within is =
    ap (λ (r : Bor Row). told r.now ++ flat_map told (map (λ (r : Bor Row). r.now) xs)) (sym is)
lent_suc told (x ∷ xs) (suc i) row within is = lent_suc told xs i row (omega arith) is

pub lent_more : (told : Row → List (List ℕ)) (rows : List (Bor Row)) (i : ℕ) (row : Bor Row) (known more all : List (List ℕ))
    → i < length rows → row ≡ get_or rows i row → more ≡ with_texts known (told row.now)
    → with_texts known (flat_map told (map (λ (r : Bor Row). r.now) (drop i rows))) ≡ all
    → with_texts more (flat_map told (map (λ (r : Bor Row). r.now) (drop (i + 1) rows))) ≡ all
lent_more told rows i row known more all within is taken so_far =
    rw (add-one, taken) (sym (with_texts-append known (told row.now) (flat_map told (map (λ (r : Bor Row). r.now) (drop (suc i) rows))))
    ∙ sym (ap (with_texts known) (lent_suc told rows i row within is)) ∙ so_far)
