-- What stands in brackets.
use Rattle.std.proofs.Common.{◌≡◌, ℕ, zero, suc, ◌+◌, ◌<◌, ◌≤◌, Bool, true, false, nat_eq, List, [], ◌∷◌, ◌++◌, length, map, take, drop, get_or}
use Rattle.std.proofs.Common.{Some, None, cond, refl, sym, ap, ◌∙◌, arith, add-one, append_assoc}
use Rattle.std.specs.Prelude.{filter}
use Rattle.std.proofs.lemmas.List.{append-nil, at_drop_more, at_drop_all, take_more, take_all}
use Rattle.song_files.specs.Text.{is_tag_text}
use Rattle.song_files.specs.declared.tag.Tag.TheVariants.{Genre}
use Rattle.song_head.specs.FrameValues.{cut, told_as}
use Rattle.song_files.specs.Tags.{TagText}
use Rattle.song_head.specs.Added.{with_texts}
use Rattle.song_head.specs.Genres.{genre_name, genres_from, before_bracket}
use Rattle.song_head.proofs.Texts.{with_more}

-- the texts that are told of genres
abbrev pub texts_of : List (List ℕ) → List (List ℕ)
texts_of genres = filter is_tag_text (map (told_as Genre) (map (λ text. cut (genre_name text)) genres))

abbrev pub genres_told : List ℕ → List (List ℕ)
genres_told text = texts_of (genres_from None text)

-- a bracket that isn't closed
pub not_closed : (inner text : List ℕ) → length (before_bracket text) ≡ length text → genres_from (Some inner) text ≡ (inner ++ before_bracket text) ∷ []
not_closed inner [] all = ap (λ (l : List ℕ). l ∷ []) (sym (append-nil inner))
not_closed inner (b ∷ text) all = by_cases (nat_eq b 41) refl (λ rest. not_closed (inner ++ b ∷ []) text rest)
  where
    by_cases : (c : Bool) → nat_eq b 41 ≡ c
        → (length (before_bracket text) ≡ length text → genres_from (Some (inner ++ b ∷ [])) text ≡ ((inner ++ b ∷ []) ++ before_bracket text) ∷ [])
        → genres_from (Some inner) (b ∷ text) ≡ (inner ++ before_bracket (b ∷ text)) ∷ []
    by_cases true is rest =
        let none : before_bracket (b ∷ text) ≡ [] = rw is refl in
        absurd (omega (arith, all, ap length none))
    by_cases false is rest =
        let more : before_bracket (b ∷ text) ≡ b ∷ before_bracket text = rw is refl in
        let here : genres_from (Some inner) (b ∷ text) ≡ genres_from (Some (inner ++ b ∷ [])) text = rw is refl in
        here ∙ rest (omega (arith, all, ap length more))
        ∙ ap (λ (l : List ℕ). l ∷ []) (append_assoc inner (b ∷ []) (before_bracket text) ∙ ap (λ (l : List ℕ). inner ++ l) (sym more))

-- and one that is
pub closed : (inner text : List ℕ) → length (before_bracket text) < length text
    → genres_from (Some inner) text ≡ (inner ++ before_bracket text) ∷ genres_from None (drop (length (before_bracket text) + 1) text)
closed inner [] less = absurd (omega (arith, less))
closed inner (b ∷ text) less = by_cases (nat_eq b 41) refl (λ rest. closed (inner ++ b ∷ []) text rest)
  where
    by_cases : (c : Bool) → nat_eq b 41 ≡ c
        → (length (before_bracket text) < length text → genres_from (Some (inner ++ b ∷ [])) text
        ≡ ((inner ++ b ∷ []) ++ before_bracket text) ∷ genres_from None (drop (length (before_bracket text) + 1) text))
        → genres_from (Some inner) (b ∷ text)
        ≡ (inner ++ before_bracket (b ∷ text)) ∷ genres_from None (drop (length (before_bracket (b ∷ text)) + 1) (b ∷ text))
    by_cases true is rest =
        let none : before_bracket (b ∷ text) ≡ [] = rw is refl in
        let here : genres_from (Some inner) (b ∷ text) ≡ inner ∷ genres_from None text = rw is refl in
        here ∙ rw none (ap (λ (l : List ℕ). l ∷ genres_from None text) (sym (append-nil inner)))
    by_cases false is rest =
        let more : before_bracket (b ∷ text) ≡ b ∷ before_bracket text = rw is refl in
        let here : genres_from (Some inner) (b ∷ text) ≡ genres_from (Some (inner ++ b ∷ [])) text = rw is refl in
        let less_here : length (before_bracket text) < length text = omega (arith, less, ap length more) in
        let sum : length (b ∷ before_bracket text) + 1 ≡ suc (length (before_bracket text) + 1) = omega arith in
        here ∙ rest less_here
        ∙ rw (more, sum) (ap (λ (l : List ℕ). l ∷ genres_from None (drop (length (before_bracket text) + 1) text))
        (append_assoc inner (b ∷ []) (before_bracket text)))

texts_more : (genre : List ℕ) (genres : List (List ℕ)) → texts_of (genre ∷ genres) ≡ texts_of (genre ∷ []) ++ texts_of genres
texts_more genre genres = by_cases (is_tag_text (told_as Genre (cut (genre_name genre))))
  where
    text : List ℕ
    text = told_as Genre (cut (genre_name genre))

    by_cases : (b : Bool) → cond b (text ∷ texts_of genres) (texts_of genres) ≡ cond b (text ∷ []) [] ++ texts_of genres
    by_cases true = refl
    by_cases false = refl

-- the first genre of a text is added
pub genre_added : (tags after : List TagText) (genre text behind : List ℕ) (all : List TagText)
    → genres_from None text ≡ genre ∷ genres_from None behind → after ≡ with_texts tags Genre (texts_of (genre ∷ []))
    → with_texts tags Genre (genres_told text) ≡ all → with_texts after Genre (genres_told behind) ≡ all
genre_added tags after genre text behind all is added so_far =
    ap (λ (l : List TagText). with_texts l Genre (genres_told behind)) added
    ∙ sym (with_more tags Genre (texts_of (genre ∷ [])) (genres_told behind))
    ∙ sym (ap (with_texts tags Genre) (ap texts_of is ∙ texts_more genre (genres_from None behind))) ∙ so_far
