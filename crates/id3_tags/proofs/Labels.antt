-- The texts of a frame, one value at a time.
use Rattle.std.proofs.Common.{◌≡◌, ℕ, ◌+◌, ◌<◌, ◌≤◌, List, [], ◌∷◌, ◌++◌, length, take, drop, map, get_or, true, false, sym, ap}
use Rattle.std.proofs.Common.{◌∙◌, refl, arith}
use Rattle.std.specs.Prelude.{◌==◌, if◌then◌else◌, remove}
use Rattle.std.proofs.lemmas.List.{append_assoc, append-nil, take_all, take_at, drop_more, length_push, drop_all}
use Rattle.id3_tags.proofs.Takes.{take_twice}
use Rattle.id3_tags.specs.Texts.{FrameText, labelled, described, is_described, texts_of, language_in, strings_of}

pub labelled_cons : (id language description v : List ℕ) (values : List (List ℕ))
    → labelled id language description (v ∷ values) ≡ labelled id language description (v ∷ []) ++ labelled id language description values
labelled_cons id language description v values =
    elim (length v == 0) as (λ b. (if b then labelled id language description values
    else record { id = id; language = language; description = description; value = v } ∷ labelled id language description values)
    ≡ (if b then [] else record { id = id; language = language; description = description; value = v } ∷ []) ++ labelled id language
    description values) [ true ↦ refl | false ↦ refl ]

-- a value that isn't taken
pub no_value : (texts : List FrameText) (id language description v : List ℕ) → length texts ≤ 256 → (length v == 0) ≡ true
    → texts ≡ take 256 (texts ++ labelled id language description (v ∷ []))
no_value texts id language description v few empty = rw empty (sym (ap (take 256) (append-nil texts) ∙ take_all 256 texts few))

-- where there is no room
pub no_room : (texts more : List FrameText) → length texts ≡ 256 → texts ≡ take 256 (texts ++ more)
no_room texts more full = sym (take_at texts more 256 full)

pub one_value : (texts now : List FrameText) (id language description v : List ℕ) → length texts < 256 → (length v == 0) ≡ false
    → now ≡ texts ++ record { id = id; language = language; description = description; value = v } ∷ []
    → now ≡ take 256 (texts ++ labelled id language description (v ∷ []))
one_value texts now id language description v few some push =
    let short : length now ≤ 256
    = omega (arith, ap length push, length_push texts (record { id = id; language = language; description = description; value = v })) in
    rw some (sym (take_all 256 now short) ∙ ap (take 256) push)

-- one more value of those that are left
pub value_more : {X : Type 0} (f : X → List ℕ) (xs : List X) (i : ℕ) (d : X)
    (texts now all : List FrameText) (id language description v : List ℕ)
    → i < length xs → f (get_or xs i d) ≡ v
    → now ≡ take 256 (texts ++ labelled id language description (v ∷ []))
    → take 256 (texts ++ labelled id language description (map f (drop i xs))) ≡ all
    → take 256 (now ++ labelled id language description (map f (drop (i + 1) xs))) ≡ all
value_more f xs i d texts now all id language description v within is add before =
    ap (λ l. take 256 (l ++ labelled id language description (map f (drop (i + 1) xs)))) add
    ∙ take_twice 256 (texts ++ labelled id language description (v ∷ [])) _
    ∙ ap (take 256) (append_assoc texts _ _)
    ∙ ap (λ l. take 256 (texts ++ l)) (sym (labelled_cons id language description v (map f (drop (i + 1) xs))))
    ∙ ap (λ w. take 256 (texts ++ labelled id language description (w ∷ map f (drop (i + 1) xs)))) (sym is)
    ∙ ap (λ l. take 256 (texts ++ labelled id language description (map f l))) (sym (drop_more xs i d within))
    ∙ before

-- no value is left
pub values_all : {X : Type 0} (f : X → List ℕ) (xs : List X) (i : ℕ) (texts all : List FrameText) (id language description : List ℕ)
    → length xs ≤ i → length texts ≤ 256 → take 256 (texts ++ labelled id language description (map f (drop i xs))) ≡ all → texts ≡ all
values_all f xs i texts all id language description end few before =
    sym (take_all 256 texts few) ∙ ap (take 256) (sym (append-nil texts))
    ∙ ap (λ l. take 256 (texts ++ labelled id language description (map f l))) (sym (drop_all i xs end)) ∙ before

-- the first string is the description of the others
pub described_by : {X : Type 0} (f : X → List ℕ) (strings rest : List X) (d : X) (id language : List ℕ) (all : List (List ℕ))
    → 0 < length strings → rest ≡ remove strings 0 → d ≡ get_or strings 0 d → map f strings ≡ all
    → labelled id language (f d) (map f rest) ≡ described id language all
described_by f [] rest d id language all some left is same = absurd (omega arith)
described_by f (x ∷ xs) rest d id language all some left is same =
    ap (λ l. labelled id language (f d) (map f l)) left ∙ ap (λ y. labelled id language (f y) (map f xs)) is
    ∙ ap (described id language) same

pub texts_described : (id bytes : List ℕ) → is_described id ≡ true
    → texts_of id bytes ≡ described id (language_in id (drop 1 bytes)) (strings_of id bytes)
texts_described id bytes is = rw is refl
