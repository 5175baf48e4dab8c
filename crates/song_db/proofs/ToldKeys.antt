-- Songs as numbers, which are compared part by part.
use Rattle.std.proofs.Common.{◌≡◌, ◌≢◌, ℕ, suc, ◌<◌, Bool, true, false, List, [], ◌∷◌, ◌++◌, length, get_or, nat_eq, map, chars}
use Rattle.std.proofs.Common.{Some, None, Bor, refl, sym, ap, ◌∙◌, arith}
use Rattle.std.specs.Prelude.{Option, MatchOption}
use Rattle.std.specs.Str.{bytes_eq}
use Rattle.std.specs.Ordering.{nat_cmp, ordering_then}
use Rattle.std.specs.declared.cmp.Ordering.{Ordering}
use Rattle.std.specs.declared.cmp.Ordering.TheVariants.{Less, Equal, Greater}
use Rattle.std.specs.Cmp.Lexicographic.{nat_list_cmp_total}
use Rattle.std.proofs.lemmas.Cmp.{tied_itself}
use Rattle.std.proofs.lemmas.Bool.{ne_eqb}
use Rattle.std.proofs.lemmas.Bool.Decides.{nat_tests}
use Rattle.song_files.specs.Tags.{first_text}
use Rattle.song_files.specs.declared.tag.Tag.TheVariants.{Album, Disc, Track}
use Rattle.song_db.specs.Letters.{letter, text_cmp, text_key}
use Rattle.song_db.specs.Row.{Row}
use Rattle.song_db.specs.Told.{album_key, number_key, part_key, path_key, song_key, told_key}
use Rattle.song_db.specs.Uri.{parts}
use Rattle.std.specs.Ordering.{is_eq}
use Rattle.std.proofs.lemmas.Map.Text.{is_eq-slice_cmp}
use Rattle.std.proofs.lemmas.Slice.Eq.{bytes_eq-Decides}
use Rattle.song_db.proofs.Below.{HasFirst, has_first}
use Rattle.song_db.proofs.LetterKeys.{keys_cmp, key_cmp}
use Rattle.song_db.proofs.LetterSteps.{not_tied, are_tied}
use Rattle.song_db.proofs.Rising.{texts}

-- ---- the parts of a path

abbrev pub NoSlash : List ℕ → Type 0
NoSlash path = (i : ℕ) → i < length path → get_or path i 0 ≢ 47

pub parts_whole : (path : List ℕ) → NoSlash path → parts path ≡ path ∷ []
parts_whole [] lacks = refl
parts_whole (x ∷ path) lacks =
    let other : nat_eq x 47 ≡ false = ne_eqb x 47 (lacks 0 (omega arith)) in
    rw (other, parts_whole path (λ i under. lacks (suc i) (omega arith))) refl

pub parts_cut : (part rest : List ℕ) → NoSlash part → parts (part ++ 47 ∷ rest) ≡ part ∷ parts rest
parts_cut [] rest lacks = refl
parts_cut (x ∷ part) rest lacks =
    let other : nat_eq x 47 ≡ false = ne_eqb x 47 (lacks 0 (omega arith)) in
    rw (other, parts_cut part rest (λ i under. lacks (suc i) (omega arith))) refl

pub split : (path : List ℕ) (r : Option (Bor (List ℕ) × Bor (List ℕ)))
    → MatchOption r (NoSlash path) (λ x. (path ≡ x.0.now ++ (47 ∷ x.1.now)) × NoSlash x.0.now)
    → MatchOption r (parts path ≡ path ∷ []) (λ x. parts path ≡ x.0.now ∷ parts x.1.now)
split path None lacks = parts_whole path lacks
split path (Some x) cut = ap parts cut.0 ∙ parts_cut x.0.now x.1.now cut.1

-- ---- songs of one folder

albums_cmp : (a b : Option (List ℕ)) (r s : List ℕ)
    → texts (album_key a ++ r) (album_key b ++ s) ≡ ordering_then (texts (album_key a) (album_key b)) (texts r s)
albums_cmp None None r s = refl
albums_cmp None (Some b) r s = refl
albums_cmp (Some a) None r s = refl
albums_cmp (Some a) (Some b) r s =
    keys_cmp a b r s ∙ ap (λ o. ordering_then o (texts r s)) (sym (key_cmp a b))

pub album_cmp : (a b : List ℕ) → text_cmp a b ≡ texts (album_key (Some a)) (album_key (Some b))
album_cmp a b = sym (key_cmp a b)

pub songs_cmp : (a b : Row) (a_name b_name : List ℕ) → texts (song_key a a_name) (song_key b b_name)
    ≡ ordering_then (texts (album_key (first_text a.tags Album)) (album_key (first_text b.tags Album)))
    (ordering_then (nat_cmp (number_key Disc a) (number_key Disc b)) (ordering_then (nat_cmp (number_key Track a) (number_key Track b))
    (text_cmp a_name b_name)))
songs_cmp a b a_name b_name =
    albums_cmp (first_text a.tags Album) (first_text b.tags Album) (numbers a a_name) (numbers b b_name)
    ∙ ap (λ o. ordering_then (texts (album_key (first_text a.tags Album)) (album_key (first_text b.tags Album)))
    (ordering_then (nat_cmp (number_key Disc a) (number_key Disc b)) (ordering_then (nat_cmp (number_key Track a) (number_key Track b)) o)))
    (key_cmp a_name b_name)
  where
    numbers : Row → List ℕ → List ℕ
    numbers row name = number_key Disc row ∷ number_key Track row ∷ text_key name

-- the albums decide; where they are the same, the discs; then the tracks, and then the names
pub albums_decide : (a b : Row) (a_name b_name : List ℕ) (o : Ordering)
    → o ≡ texts (album_key (first_text a.tags Album)) (album_key (first_text b.tags Album)) → is_eq o ≡ false
    → o ≡ texts (song_key a a_name) (song_key b b_name)
albums_decide a b a_name b_name o same differ = not_tied o (texts (album_key (first_text a.tags Album)) (album_key (first_text b.tags Album)))
    (ordering_then (nat_cmp (number_key Disc a) (number_key Disc b)) (ordering_then (nat_cmp (number_key Track a) (number_key Track b))
    (text_cmp a_name b_name))) (texts (song_key a a_name) (song_key b b_name)) same differ (sym (songs_cmp a b a_name b_name))

albums_tied : (a b : Row) (a_name b_name : List ℕ) (o : Ordering)
    → o ≡ texts (album_key (first_text a.tags Album)) (album_key (first_text b.tags Album)) → is_eq o ≡ true
    → ordering_then (nat_cmp (number_key Disc a) (number_key Disc b)) (ordering_then (nat_cmp (number_key Track a) (number_key Track b))
    (text_cmp a_name b_name)) ≡ texts (song_key a a_name) (song_key b b_name)
albums_tied a b a_name b_name o same equal = are_tied o (texts (album_key (first_text a.tags Album)) (album_key (first_text b.tags Album)))
    (ordering_then (nat_cmp (number_key Disc a) (number_key Disc b)) (ordering_then (nat_cmp (number_key Track a) (number_key Track b))
    (text_cmp a_name b_name))) (texts (song_key a a_name) (song_key b b_name)) same equal (sym (songs_cmp a b a_name b_name))

pub discs_decide : (a b : Row) (a_name b_name : List ℕ) (o d : Ordering)
    → o ≡ texts (album_key (first_text a.tags Album)) (album_key (first_text b.tags Album)) → is_eq o ≡ true
    → d ≡ nat_cmp (number_key Disc a) (number_key Disc b) → is_eq d ≡ false → d ≡ texts (song_key a a_name) (song_key b b_name)
discs_decide a b a_name b_name o d albums equal same differ = not_tied d (nat_cmp (number_key Disc a) (number_key Disc b))
    (ordering_then (nat_cmp (number_key Track a) (number_key Track b)) (text_cmp a_name b_name))
    (texts (song_key a a_name) (song_key b b_name)) same differ (albums_tied a b a_name b_name o albums equal)

discs_tied : (a b : Row) (a_name b_name : List ℕ) (o d : Ordering)
    → o ≡ texts (album_key (first_text a.tags Album)) (album_key (first_text b.tags Album)) → is_eq o ≡ true
    → d ≡ nat_cmp (number_key Disc a) (number_key Disc b) → is_eq d ≡ true
    → ordering_then (nat_cmp (number_key Track a) (number_key Track b)) (text_cmp a_name b_name)
    ≡ texts (song_key a a_name) (song_key b b_name)
discs_tied a b a_name b_name o d albums equal same tied = are_tied d (nat_cmp (number_key Disc a) (number_key Disc b))
    (ordering_then (nat_cmp (number_key Track a) (number_key Track b)) (text_cmp a_name b_name))
    (texts (song_key a a_name) (song_key b b_name)) same tied (albums_tied a b a_name b_name o albums equal)

pub tracks_decide : (a b : Row) (a_name b_name : List ℕ) (o d t : Ordering)
    → o ≡ texts (album_key (first_text a.tags Album)) (album_key (first_text b.tags Album)) → is_eq o ≡ true
    → d ≡ nat_cmp (number_key Disc a) (number_key Disc b) → is_eq d ≡ true
    → t ≡ nat_cmp (number_key Track a) (number_key Track b) → is_eq t ≡ false → t ≡ texts (song_key a a_name) (song_key b b_name)
tracks_decide a b a_name b_name o d t albums equal discs tied same differ = not_tied t (nat_cmp (number_key Track a) (number_key Track b))
    (text_cmp a_name b_name) (texts (song_key a a_name) (song_key b b_name)) same differ
    (discs_tied a b a_name b_name o d albums equal discs tied)

pub names_decide : (a b : Row) (a_name b_name : List ℕ) (o d t : Ordering)
    → o ≡ texts (album_key (first_text a.tags Album)) (album_key (first_text b.tags Album)) → is_eq o ≡ true
    → d ≡ nat_cmp (number_key Disc a) (number_key Disc b) → is_eq d ≡ true
    → t ≡ nat_cmp (number_key Track a) (number_key Track b) → is_eq t ≡ true
    → text_cmp a_name b_name ≡ texts (song_key a a_name) (song_key b b_name)
names_decide a b a_name b_name o d t albums equal discs tied same last = are_tied t (nat_cmp (number_key Track a) (number_key Track b))
    (text_cmp a_name b_name) (texts (song_key a a_name) (song_key b b_name)) same last
    (discs_tied a b a_name b_name o d albums equal discs tied)

-- ---- paths

-- a folder, and what stands behind its slash
pub path_more : (row : Row) (folder path : List ℕ) → path_key row (folder ∷ parts path) ≡ part_key folder ++ path_key row (parts path)
path_more row folder path = let first = has_first path in rw first.is refl

-- both stand in folders
pub folders_cmp : (a b : Row) (left right left_rest right_rest : List ℕ)
    → texts (path_key a (left ∷ parts left_rest)) (path_key b (right ∷ parts right_rest))
    ≡ ordering_then (text_cmp left right) (texts (path_key a (parts left_rest)) (path_key b (parts right_rest)))
folders_cmp a b left right left_rest right_rest =
    ap (λ (l : List ℕ). texts l (path_key b (right ∷ parts right_rest))) (path_more a left left_rest)
    ∙ ap (texts (part_key left ++ path_key a (parts left_rest))) (path_more b right right_rest)
    ∙ keys_cmp left right (path_key a (parts left_rest)) (path_key b (parts right_rest))

-- one stands in a folder, the other doesn't
pub song_first : (a b : Row) (name right right_rest : List ℕ)
    → texts (path_key a (name ∷ [])) (path_key b (right ∷ parts right_rest)) ≡ Less
song_first a b name right right_rest = ap (texts (path_key a (name ∷ []))) (path_more b right right_rest)

pub folder_last : (a b : Row) (left left_rest name : List ℕ)
    → texts (path_key a (left ∷ parts left_rest)) (path_key b (name ∷ [])) ≡ Greater
folder_last a b left left_rest name = ap (λ (l : List ℕ). texts l (path_key b (name ∷ []))) (path_more a left left_rest)

-- the folders decide, or leave it to what stands behind their slashes
pub folders_decide : (a b : Row) (left right left_rest right_rest : List ℕ) (o w : Ordering) → o ≡ text_cmp left right → is_eq o ≡ false
    → texts (path_key a (left ∷ parts left_rest)) (path_key b (right ∷ parts right_rest)) ≡ w → o ≡ w
folders_decide a b left right left_rest right_rest o w same differ is = not_tied o (text_cmp left right)
    (texts (path_key a (parts left_rest)) (path_key b (parts right_rest))) w same differ
    (sym (folders_cmp a b left right left_rest right_rest) ∙ is)

pub folders_tied : (a b : Row) (left right left_rest right_rest : List ℕ) (o w : Ordering) → o ≡ text_cmp left right → is_eq o ≡ true
    → texts (path_key a (left ∷ parts left_rest)) (path_key b (right ∷ parts right_rest)) ≡ w
    → texts (path_key a (parts left_rest)) (path_key b (parts right_rest)) ≡ w
folders_tied a b left right left_rest right_rest o w same equal is = are_tied o (text_cmp left right)
    (texts (path_key a (parts left_rest)) (path_key b (parts right_rest))) w same equal
    (sym (folders_cmp a b left right left_rest right_rest) ∙ is)

-- ---- no two songs have the same numbers

then_both : (o p : Ordering) → ordering_then o p ≡ Equal → (o ≡ Equal) × (p ≡ Equal)
then_both Less p h = absurd (cc)
then_both Equal p h = (refl, h)
then_both Greater p h = absurd (cc)

fourth : (o p q r : Ordering) → ordering_then o (ordering_then p (ordering_then q r)) ≡ Equal → r ≡ Equal
fourth o p q r h =
    (then_both q r (then_both p (ordering_then q r) (then_both o (ordering_then p (ordering_then q r)) h).1).1).1

same_bytes : (a b : List ℕ) → texts a b ≡ Equal → a ≡ b
same_bytes a b h = (bytes_eq-Decides a b).0 (sym (is_eq-slice_cmp a b) ∙ ap is_eq h)

pub same_texts : (a b : List ℕ) → text_cmp a b ≡ Equal → a ≡ b
same_texts a b h = same_bytes a b (then_both _ (texts a b) h).1

pub text_itself : (a : List ℕ) → text_cmp a a ≡ Equal
text_itself a = ap (λ o. ordering_then o (texts a a)) (tied_itself nat_list_cmp_total (map letter (chars a)))
    ∙ tied_itself nat_list_cmp_total a

pub texts_same : (a b : List ℕ) → bytes_eq a b ≡ true → Equal ≡ text_cmp a b
texts_same a b same = sym (ap (text_cmp a) (sym ((bytes_eq-Decides a b).0 same)) ∙ text_itself a)

pub same_paths : (a b : Row) (first : List ℕ) (ps : List (List ℕ)) (other : List ℕ) (qs : List (List ℕ))
    → texts (path_key a (first ∷ ps)) (path_key b (other ∷ qs)) ≡ Equal → first ∷ ps ≡ other ∷ qs
same_paths a b first [] other [] h =
    let names = fourth (texts (album_key (first_text a.tags Album)) (album_key (first_text b.tags Album)))
    (nat_cmp (number_key Disc a) (number_key Disc b)) (nat_cmp (number_key Track a) (number_key Track b)) (text_cmp first other)
    (sym (songs_cmp a b first other) ∙ h) in
    ap (λ n. n ∷ []) (same_texts first other names)
same_paths a b first [] other (q ∷ qs) h = let apart : Less ≡ Equal = h in absurd (cc)
same_paths a b first (p ∷ ps) other [] h = let apart : Greater ≡ Equal = h in absurd (cc)
same_paths a b first (p ∷ ps) other (q ∷ qs) h =
    let both = then_both (text_cmp first other) (texts (path_key a (p ∷ ps)) (path_key b (q ∷ qs)))
    (sym (keys_cmp first other (path_key a (p ∷ ps)) (path_key b (q ∷ qs))) ∙ h) in
    let rest : p ∷ ps ≡ q ∷ qs = same_paths a b p ps q qs both.1 in
    ap (λ f. f ∷ p ∷ ps) (same_texts first other both.0) ∙ ap (λ l. other ∷ l) rest

same_tail : {X : Type 0} (x y : X) (xs ys : List X) → x ∷ xs ≡ y ∷ ys → (x ≡ y) × (xs ≡ ys)
same_tail x y xs ys h = (cc, cc)

pub same_parts : (a b : List ℕ) → parts a ≡ parts b → a ≡ b
same_parts [] [] h = refl
same_parts [] (y ∷ ys) h = by_slash (nat_eq y 47) refl (has_first ys)
  where
    by_slash : (s : Bool) → nat_eq y 47 ≡ s → HasFirst ys → [] ≡ y ∷ ys
    by_slash true is first = let longer : [] ∷ [] ≡ [] ∷ parts ys = rw is at h in absurd (let f = first.is in cc)
    by_slash false is first = let longer : [] ∷ [] ≡ (y ∷ first.first) ∷ first.others = rw (is, first.is) at h in absurd (cc)
same_parts (x ∷ xs) [] h = by_slash (nat_eq x 47) refl (has_first xs)
  where
    by_slash : (s : Bool) → nat_eq x 47 ≡ s → HasFirst xs → x ∷ xs ≡ []
    by_slash true is first = let longer : [] ∷ parts xs ≡ [] ∷ [] = rw is at h in absurd (let f = first.is in cc)
    by_slash false is first = let longer : (x ∷ first.first) ∷ first.others ≡ [] ∷ [] = rw (is, first.is) at h in absurd (cc)
same_parts (x ∷ xs) (y ∷ ys) h = by_slash (nat_eq x 47) refl (nat_eq y 47) refl (has_first xs) (has_first ys) (same_parts xs ys)
  where
    by_slash : (s : Bool) → nat_eq x 47 ≡ s → (t : Bool) → nat_eq y 47 ≡ t → HasFirst xs → HasFirst ys → (parts xs ≡ parts ys → xs ≡ ys)
        → x ∷ xs ≡ y ∷ ys
    by_slash true is true at front back rest =
        let both : [] ∷ parts xs ≡ [] ∷ parts ys = rw (is, at) at h in
        let same : x ≡ y = grind (arith, nat_tests) in
        ap (λ c. c ∷ xs) same ∙ ap (λ l. y ∷ l) (rest (same_tail [] [] (parts xs) (parts ys) both).1)
    by_slash true is false at front back rest =
        let both : [] ∷ parts xs ≡ (y ∷ back.first) ∷ back.others = rw (is, at, back.is) at h in absurd (cc)
    by_slash false is true at front back rest =
        let both : (x ∷ front.first) ∷ front.others ≡ [] ∷ parts ys = rw (is, front.is, at) at h in absurd (cc)
    by_slash false is false at front back rest =
        let both : (x ∷ front.first) ∷ front.others ≡ (y ∷ back.first) ∷ back.others = rw (is, front.is, at, back.is) at h in
        let heads : x ∷ front.first ≡ y ∷ back.first = (same_tail _ _ front.others back.others both).0 in
        let tails : front.others ≡ back.others = (same_tail _ _ front.others back.others both).1 in
        let letters = same_tail x y front.first back.first heads in
        let inner : parts xs ≡ parts ys = front.is ∙ ap (λ f. f ∷ front.others) letters.1 ∙ ap (λ l. back.first ∷ l) tails ∙ sym back.is in
        ap (λ c. c ∷ xs) letters.0 ∙ ap (λ l. y ∷ l) (rest inner)

-- songs with the same numbers have the same URI
pub same_uri : (a b : Row) → texts (told_key a) (told_key b) ≡ Equal → a.uri ≡ b.uri
unfolding told_key
same_uri a b h =
    let front = has_first a.uri in
    let back = has_first b.uri in
    let keys : texts (path_key a (front.first ∷ front.others)) (path_key b (back.first ∷ back.others)) ≡ Equal = rw (front.is, back.is) at h in
    same_parts a.uri b.uri (front.is ∙ same_paths a b front.first front.others back.first back.others keys ∙ sym back.is)
