-- The texts that a test looks at, one after the other.
use Rattle.std.proofs.Common.{◌≡◌, ℕ, zero, suc, ◌+◌, ◌<◌, ◌≤◌, Bool, true, false, ◌&&◌, ◌||◌, nat_eq, List, [], ◌∷◌, length, map, drop}
use Rattle.std.proofs.Common.{Some, slice_get, refl, sym, ap, ◌∙◌, add-one, arith}
use Rattle.std.proofs.lemmas.Bool.{false≢true, ne_eqb}
use Rattle.std.specs.Prelude.{is_none}
use Rattle.std.specs.List.{list_any}
use Rattle.song_files.specs.Tag.{is_tag}
use Rattle.song_files.specs.Tags.{TagText, texts_of, first_text}
use Rattle.song_files.specs.declared.tag.Tag.{Tag}
use Rattle.filter_expr.specs.declared.case.Case.{Case}
use Rattle.filter_expr.specs.declared.subject.Comparison.{Comparison}
use Rattle.filter_expr.specs.declared.subject.Subject.{Subject}
use Rattle.filter_expr.specs.declared.subject.Subject.TheVariants.{OfTag, Any, AnyText, File}
use Rattle.filter_expr.specs.Fallback.{told_tag}
use Rattle.regular_expr.specs.Patterns.{is_found}
use Rattle.filter_expr.specs.Looked.{is_of, is_found_of, is_like_of, told_subject}
use Rattle.filter_expr.specs.Meaning.{Song, is_like, is_absent, passes, passes_like, texts_for}

any_suc : (p : TagText → Bool) (tags : List TagText) (at : ℕ) (t : TagText) → slice_get tags at ≡ Some t
    → list_any p (drop at tags) ≡ (p t || list_any p (drop (suc at) tags))
any_suc p [] at t here = absurd (cc)
any_suc p (x ∷ tags) zero t here =
    let same : x ≡ t = cc in
    ap (λ (u : TagText). p u || list_any p tags) same
any_suc p (x ∷ tags) (suc at) t here = any_suc p tags at t here

drop_all : (tags : List TagText) (at : ℕ) → length tags ≤ at → drop at tags ≡ []
drop_all [] zero past = refl
drop_all [] (suc at) past = refl
drop_all (x ∷ tags) zero past = absurd (omega arith)
drop_all (x ∷ tags) (suc at) past = drop_all tags at (omega arith)

-- a text is found, or passed by, or none is left
pub one_found : (p : TagText → Bool) (tags : List TagText) (at : ℕ) (t : TagText) → slice_get tags at ≡ Some t
    → list_any p (drop at tags) ≡ list_any p tags → p t ≡ true → true ≡ list_any p tags
one_found p tags at t here so_far is =
    let yes : list_any p (drop at tags) ≡ true = any_suc p tags at t here ∙ rw is refl in
    sym yes ∙ so_far

pub one_passed : (p : TagText → Bool) (tags : List TagText) (at : ℕ) (t : TagText) → slice_get tags at ≡ Some t
    → list_any p (drop at tags) ≡ list_any p tags → p t ≡ false → list_any p (drop (at + 1) tags) ≡ list_any p tags
one_passed p tags at t here so_far is =
    let same : list_any p (drop at tags) ≡ list_any p (drop (suc at) tags) = any_suc p tags at t here ∙ rw is refl in
    rw add-one (sym same ∙ so_far)

pub none_left : (p : TagText → Bool) (tags : List TagText) (at : ℕ) → length tags ≤ at
    → list_any p (drop at tags) ≡ list_any p tags → false ≡ list_any p tags
none_left p tags at past so_far = sym (ap (list_any p) (drop_all tags at past)) ∙ so_far

-- the texts of a tag are those of the tags that the test looks at
of_tag : (q : List ℕ → Bool) (tag : Tag) (tags : List TagText)
    → list_any q (texts_of tags tag) ≡ list_any (λ (t : TagText). is_tag t.tag tag && q t.text) tags
of_tag q tag [] = refl
of_tag q tag (t ∷ tags) = by_cases (is_tag t.tag tag) refl (of_tag q tag tags)
  where
    by_cases : (b : Bool) → is_tag t.tag tag ≡ b
        → list_any q (texts_of tags tag) ≡ list_any (λ (t : TagText). is_tag t.tag tag && q t.text) tags
        → list_any q (texts_of (t ∷ tags) tag) ≡ list_any (λ (t : TagText). is_tag t.tag tag && q t.text) (t ∷ tags)
    by_cases true e later = rw e (ap (λ (b : Bool). q t.text || b) later)
    by_cases false e later = rw e later

of_all : (q : List ℕ → Bool) (tags : List TagText)
    → list_any q (map (λ (t : TagText). t.text) tags) ≡ list_any (λ (t : TagText). true && q t.text) tags
of_all q [] = refl
of_all q (t ∷ tags) = ap (λ (b : Bool). q t.text || b) (of_all q tags)

looked_by : (q : List ℕ → Bool) (subject : Subject) (song : Song) → (subject ≡ File → ⊥)
    → list_any q (texts_for subject song) ≡ list_any (λ (t : TagText). is_of (told_subject song.tags subject) t.tag && q t.text) song.tags
looked_by q (OfTag tag) song other = of_tag q (told_tag song.tags tag) song.tags
looked_by q Any song other = of_all q song.tags
looked_by q AnyText song other = of_all q song.tags
looked_by q File song other = absurd (other refl)

pub looked_at : (case : Case) (subject : Subject) (comparison : Comparison) (value : List ℕ) (song : Song) → (subject ≡ File → ⊥)
    → list_any (is_like case comparison value) (texts_for subject song)
    ≡ list_any (is_like_of case (told_subject song.tags subject) comparison value) song.tags
looked_at case subject comparison value song other = looked_by (is_like case comparison value) subject song other

-- the same by a pattern
pub matched_at : (fold : Bool) (subject : Subject) (source : List ℕ) (song : Song) → (subject ≡ File → ⊥)
    → list_any (is_found fold source) (texts_for subject song)
    ≡ list_any (is_found_of fold (told_subject song.tags subject) source) song.tags
matched_at fold subject source song other = looked_by (is_found fold source) subject song other

-- a value that isn't empty
pub passes_some : (case : Case) (subject : Subject) (comparison : Comparison) (value : List ℕ) (texts : List (List ℕ)) → 0 < length value
    → passes case subject comparison value texts ≡ list_any (is_like case comparison value) texts
passes_some case subject comparison [] texts some = absurd (omega arith)
passes_some case subject comparison (v ∷ value) texts some = refl

-- a pattern whose text isn't empty
pub matches_some : (fold : Bool) (subject : Subject) (source : List ℕ) (texts : List (List ℕ)) → 0 < length source
    → passes_like fold subject source texts ≡ list_any (is_found fold source) texts
matches_some fold subject [] texts some = absurd (omega arith)
matches_some fold subject (v ∷ source) texts some = refl

-- where there is no text of a tag, or of any
pub tag_absent : (tags : List TagText) (tag : Tag) → is_none (first_text tags tag) ≡ is_absent (texts_of tags tag)
tag_absent [] tag = refl
tag_absent (t ∷ tags) tag = by_cases (is_tag t.tag tag) refl (tag_absent tags tag)
  where
    by_cases : (b : Bool) → is_tag t.tag tag ≡ b → is_none (first_text tags tag) ≡ is_absent (texts_of tags tag)
        → is_none (first_text (t ∷ tags) tag) ≡ is_absent (texts_of (t ∷ tags) tag)
    by_cases true e later = rw e refl
    by_cases false e later = rw e later

pub all_absent : (tags : List TagText) → nat_eq (length tags) 0 ≡ is_absent (map (λ (t : TagText). t.text) tags)
all_absent [] = refl
all_absent (t ∷ tags) = ne_eqb (suc (length tags)) 0 (λ e. omega (arith, e))

-- what a test of emptiness says of the value behind a text
pub some_value : (value text : List ℕ) (empty : Bool) → text ≡ value → empty ≡ nat_eq (length text) 0 → empty ≡ false → 0 < length value
some_value [] text empty same is off = absurd (false≢true (sym off ∙ is ∙ ap (λ (s : List ℕ). nat_eq (length s) 0) same))
some_value (v ∷ value) text empty same is off = omega arith

pub not_of : (a b : Bool) → a ≡ false → (a && b) ≡ false
not_of a b e = rw e refl

pub not_like : (a b : Bool) → b ≡ false → (a && b) ≡ false
not_like true b e = e
not_like false b e = refl
