-- What makes words no filter stands in one word, whatever stands behind it.
use Rattle.std.proofs.Common.{◌≡◌, ◌⊎◌, inl, inr, ℕ, zero, suc, ◌+◌, ◌≤◌, Bool, true, false, List, [], ◌∷◌, ◌++◌, length, drop, Option}
use Rattle.std.proofs.Common.{Some, None}
use Rattle.std.proofs.Common.{Result, Ok, Err, refl, sym, ap, ◌∙◌, subst, arith, length-append}
use Rattle.std.specs.Prelude.{codes}
use Rattle.std.specs.Str.{is_utf8, str_eq_ignore_ascii_case}
use Rattle.profile.specs.declared.profile.Profile.{Profile}
use Rattle.profile.specs.declared.profile.Profile.TheVariants.{Named, Wide}
use Rattle.song_files.specs.declared.tag.Tag.{Tag}
use Rattle.filter_expr.specs.declared.subject.Subject.TheVariants.{OfTag, File}
use Rattle.filter_expr.specs.Names.{tag_named, is_file_name, any_of, key_named}
use Rattle.filter_expr.specs.Parts.{Fault, opening, begins_so}
use Rattle.filter_expr.specs.Parts.Fault.{Bad, Unknown, Deep}
use Rattle.filter_expr.specs.Reading.{whole}
use Rattle.filter_expr.specs.Times.{time_in}
use Rattle.filter_expr.specs.Tree.{Tree}
use Rattle.filter_expr.specs.Tree.Tree.{Test, Base, Since, And}
use Rattle.filter_expr.specs.Words.{Refusal, ◌>>=◌, in_word, read_in_word, alone, paired, pair_of, half_pair, pair_at}
use Rattle.filter_expr.specs.Words.{more_pairs, pairs_of, named_filter_of, part_of, part_length, more_parts, wide_filter_of, filter_of}
use Rattle.filter_expr.specs.Words.Refusal.{BadFilter, UnknownTag}
use Rattle.command_text.specs.BadFilters.{IsInWord, IsRefusedSo}
use Rattle.command_text.specs.Counts.{Word}

-- ---- pairs, the first word of which has a number

record Stays (read : List Word → Result Tree Refusal) (n : ℕ) (words : List Word) (refusal : Refusal) : Type 0 where
  front : List Word
  word : Word
  behind : List Word
  parts : words ≡ front ++ word ∷ behind
  place : IsInWord refusal (n + length front)
  stays : (more : List Word) → read (front ++ word ∷ more) ≡ Err refusal

abbrev IsRefused : (List Word → Result Tree Refusal) → ℕ → List Word → Refusal → Type 0
IsRefused read n words refusal = (refusal ≡ BadFilter (n + length words) 0) ⊎ Stays read n words refusal

-- it reads a pair, and then those behind it
record ReadsPairs (profile : Profile) (read : List Word → Result Tree Refusal) (grow : Tree → Tree) (n : ℕ) : Type 0 where
  half : (name : Word) → read (name ∷ []) ≡ half_pair profile n name
  pair : (name value : Word) (words : List Word)
      → read (name ∷ value ∷ words) ≡ pair_of profile n name value >>= λ tree. more_pairs profile (n + 2) (grow tree) words

by_option : {K P : Type 0} (o : Option K) → (o ≡ None → P) → ((key : K) → o ≡ Some key → P) → P
by_option None none some = none refl
by_option (Some key) none some = some key refl

-- no tag has this name
record IsUnknown (profile : Profile) (n : ℕ) (name : Word) : Type 0 where
  half : half_pair profile n name ≡ Err (UnknownTag name)
  pair : (value : Word) → pair_of profile n name value ≡ Err (UnknownTag name)

half_cases : (profile : Profile) (n : ℕ) (name : Word) → IsUnknown profile n name ⊎ (half_pair profile n name ≡ Err (BadFilter (n + 1) 0))
unfolding half_pair pair_of
half_cases profile n name = by_option (key_named profile name)
    (λ none. inl (record { half = rw none refl; pair = λ value. rw none refl }))
    (λ key known. inr (rw known refl))

-- a pair is of no tag, or its value is bad, or it says something
abbrev PairCases : Profile → ℕ → Word → Word → Type 0
PairCases profile n name value =
    IsUnknown profile n name
    ⊎ ((pair_of profile n name value ≡ Err (BadFilter (n + 1) 0)) ⊎ ((tree : Tree) × (pair_of profile n name value ≡ Ok tree)))

-- a value that isn't UTF-8 is as bad as none
bad_cases : (profile : Profile) (n : ℕ) (name value : Word) → is_utf8 value ≡ false → PairCases profile n name value
unfolding half_pair pair_of
bad_cases profile n name value bad = by_half (half_cases profile n name)
  where
    as_half : pair_of profile n name value ≡ half_pair profile n name
    as_half = rw bad refl

    by_half : IsUnknown profile n name ⊎ (half_pair profile n name ≡ Err (BadFilter (n + 1) 0)) → PairCases profile n name value
    by_half (inl none) = inl none
    by_half (inr known) = inr (inl (as_half ∙ known))

-- what the wide profile alone names
of_wide : (n : ℕ) (name value : Word) → is_utf8 value ≡ true → tag_named Wide name ≡ None
    → str_eq_ignore_ascii_case name (codes "any") ≡ false → is_file_name Wide name ≡ false
    → str_eq_ignore_ascii_case name (codes "base") ≡ false
    → (since : Bool) → str_eq_ignore_ascii_case name (codes "modified-since") ≡ since
    → (format : Bool) → str_eq_ignore_ascii_case name (codes "audioformat") ≡ format
    → (time : Option ℕ) → time_in value ≡ time → PairCases Wide n name value
unfolding half_pair pair_of key_named
of_wide n name value g e a f b true s format m (Some time) t = inr (inr (Since time, rw (e, a, f, b, s, g, t) refl))
of_wide n name value g e a f b true s format m None t = inr (inl (rw (e, a, f, b, s, g, t) refl))
of_wide n name value g e a f b false s true m time t = inr (inl (rw (e, a, f, b, s, m, g) refl))
of_wide n name value g e a f b false s false m time t =
    inl (record { half = rw (e, a, f, b, s, m) refl; pair = λ other. rw (e, a, f, b, s, m) refl })

of_profile : (profile : Profile) (n : ℕ) (name value : Word) → is_utf8 value ≡ true → tag_named profile name ≡ None
    → str_eq_ignore_ascii_case name (codes "any") ≡ false → is_file_name profile name ≡ false
    → str_eq_ignore_ascii_case name (codes "base") ≡ false → PairCases profile n name value
unfolding half_pair pair_of key_named
of_profile Named n name value g e a f b =
    inl (record { half = rw (e, a, f, b) refl; pair = λ other. rw (e, a, f, b) refl })
of_profile Wide n name value g e a f b =
    of_wide n name value g e a f b (str_eq_ignore_ascii_case name (codes "modified-since")) refl
    (str_eq_ignore_ascii_case name (codes "audioformat")) refl (time_in value) refl

-- the names beside those of tags, one after the other
of_other : (profile : Profile) (n : ℕ) (name value : Word) → is_utf8 value ≡ true → tag_named profile name ≡ None
    → (any : Bool) → str_eq_ignore_ascii_case name (codes "any") ≡ any
    → (file : Bool) → is_file_name profile name ≡ file
    → (base : Bool) → str_eq_ignore_ascii_case name (codes "base") ≡ base → PairCases profile n name value
unfolding half_pair pair_of key_named
of_other profile n name value g e true a file f base b = inr (inr (Test (any_of profile) (paired profile) value, rw (e, a, g) refl))
of_other profile n name value g e false a true f base b = inr (inr (Test File (paired profile) value, rw (e, a, f, g) refl))
of_other profile n name value g e false a false f true b = inr (inr (Base value, rw (e, a, f, b, g) refl))
of_other profile n name value g e false a false f false b = of_profile profile n name value g e a f b

good_cases : (profile : Profile) (n : ℕ) (name value : Word) → is_utf8 value ≡ true → (found : Option Tag) → tag_named profile name ≡ found
    → PairCases profile n name value
unfolding pair_of key_named
good_cases profile n name value g (Some tag) e = inr (inr (Test (OfTag tag) (paired profile) value, rw (e, g) refl))
good_cases profile n name value g None e =
    of_other profile n name value g e (str_eq_ignore_ascii_case name (codes "any")) refl (is_file_name profile name) refl
    (str_eq_ignore_ascii_case name (codes "base")) refl

pair_cases : (profile : Profile) (n : ℕ) (name value : Word) → PairCases profile n name value
pair_cases profile n name value = by_value (is_utf8 value) refl
  where
    by_value : (good : Bool) → is_utf8 value ≡ good → PairCases profile n name value
    by_value true g = good_cases profile n name value g (tag_named profile name) refl
    by_value false g = bad_cases profile n name value g

-- a tag that is none is refused, whatever stands behind it
unknown_stays : (profile : Profile) (read : List Word → Result Tree Refusal) (grow : Tree → Tree) (n : ℕ)
    → ReadsPairs profile read grow n → (name : Word)
    → IsUnknown profile n name → (more : List Word) → read (name ∷ more) ≡ Err (UnknownTag name)
unknown_stays profile read grow n reads name none [] = reads.half name ∙ none.half
unknown_stays profile read grow n reads name none (value ∷ words) =
    reads.pair name value words ∙ ap (λ r. r >>= λ tree. more_pairs profile (n + 2) (grow tree) words) (none.pair value)

unknown : (profile : Profile) (read : List Word → Result Tree Refusal) (grow : Tree → Tree) (n : ℕ) → ReadsPairs profile read grow n
    → (name : Word)
    (words : List Word) (refusal : Refusal) → IsUnknown profile n name → read (name ∷ words) ≡ Err refusal
    → IsRefused read n (name ∷ words) refusal
unknown profile read grow n reads name words refusal none is =
    let told : ◌≡◌ {A = Result Tree Refusal} (Err (UnknownTag name)) (Err refusal) =
    sym (unknown_stays profile read grow n reads name none words) ∙ is in
    let same : UnknownTag name ≡ refusal = cc in
    subst (IsRefused read n (name ∷ words)) same (inr (record {
      front = [];
      word = name;
      behind = words;
      parts = refl;
      place = tt;
      stays = unknown_stays profile read grow n reads name none;
    }))

half_refused : (profile : Profile) (read : List Word → Result Tree Refusal) (grow : Tree → Tree) (n : ℕ)
    → ReadsPairs profile read grow n → (name : Word)
    (refusal : Refusal) → read (name ∷ []) ≡ Err refusal → IsRefused read n (name ∷ []) refusal
half_refused profile read grow n reads name refusal is = by_cases (half_cases profile n name)
  where
    by_cases : IsUnknown profile n name ⊎ (half_pair profile n name ≡ Err (BadFilter (n + 1) 0)) → IsRefused read n (name ∷ []) refusal
    by_cases (inl none) = unknown profile read grow n reads name [] refusal none is
    by_cases (inr known) =
        let told : ◌≡◌ {A = Result Tree Refusal} (Err refusal) (Err (BadFilter (n + 1) 0)) = sym is ∙ reads.half name ∙ known in
        let same : refusal ≡ BadFilter (n + 1) 0 = cc in
        inl same

pair_refused : (profile : Profile) (read : List Word → Result Tree Refusal) (grow : Tree → Tree) (n : ℕ)
    → ReadsPairs profile read grow n → (name value : Word)
    (words : List Word) (refusal : Refusal) → ((tree : Tree) → more_pairs profile (n + 2) tree words ≡ Err refusal
    → IsRefused (more_pairs profile (n + 2) tree) (n + 2) words refusal) → read (name ∷ value ∷ words) ≡ Err refusal
    → IsRefused read n (name ∷ value ∷ words) refusal
pair_refused profile read grow n reads name value words refusal next is = by_cases (pair_cases profile n name value)
  where
    -- what is read behind the pair
    goes_on : (r : Result Tree Refusal) → pair_of profile n name value ≡ r → (ws : List Word)
        → read (name ∷ value ∷ ws) ≡ (r >>= λ tree. more_pairs profile (n + 2) (grow tree) ws)
    goes_on r pair ws = reads.pair name value ws ∙ ap (λ x. x >>= λ tree. more_pairs profile (n + 2) (grow tree) ws) pair

    by_rest : (tree : Tree) → pair_of profile n name value ≡ Ok tree
        → IsRefused (more_pairs profile (n + 2) (grow tree)) (n + 2) words refusal
        → IsRefused read n (name ∷ value ∷ words) refusal
    by_rest tree pair (inl early) =
        let long : n + 2 + length words ≡ n + length (name ∷ value ∷ words) = omega arith in
        inl (early ∙ ap (λ m. BadFilter m 0) long)
    by_rest tree pair (inr rest) =
        let long : n + 2 + length rest.front ≡ n + length (name ∷ value ∷ rest.front) = omega arith in
        inr (record {
          front = name ∷ value ∷ rest.front;
          word = rest.word;
          behind = rest.behind;
          parts = ap (λ (ws : List Word). name ∷ value ∷ ws) rest.parts;
          place = subst (IsInWord refusal) long rest.place;
          stays = λ more. goes_on (Ok tree) pair (rest.front ++ rest.word ∷ more) ∙ rest.stays more;
        })

    by_cases : IsUnknown profile n name
        ⊎ ((pair_of profile n name value ≡ Err (BadFilter (n + 1) 0)) ⊎ ((tree : Tree) × (pair_of profile n name value ≡ Ok tree)))
        → IsRefused read n (name ∷ value ∷ words) refusal
    by_cases (inl none) = unknown profile read grow n reads name (value ∷ words) refusal none is
    by_cases (inr (inl bad)) =
        let stays : (more : List Word) → read (name ∷ value ∷ more) ≡ Err (BadFilter (n + 1) 0) =
        goes_on (Err (BadFilter (n + 1) 0)) bad in
        let told : ◌≡◌ {A = Result Tree Refusal} (Err (BadFilter (n + 1) 0)) (Err refusal) = sym (stays words) ∙ is in
        let same : BadFilter (n + 1) 0 ≡ refusal = cc in
        subst (IsRefused read n (name ∷ value ∷ words)) same (inr (record {
          front = name ∷ [];
          word = value;
          behind = words;
          parts = refl;
          place = refl;
          stays = stays;
        }))
    by_cases (inr (inr good)) =
        by_rest good.0 good.1 (next (grow good.0) (sym (goes_on (Ok good.0) good.1 words) ∙ is))

more_reads : (profile : Profile) (n : ℕ) (tree : Tree) → ReadsPairs profile (more_pairs profile n tree) (λ pair. And tree pair) n
unfolding more_pairs
more_reads profile n tree = record { half = λ name. refl; pair = λ name value words. refl }

none_refused : (profile : Profile) (n : ℕ) (tree : Tree) (refusal : Refusal) → more_pairs profile n tree [] ≡ Err refusal → ⊥
unfolding more_pairs
none_refused profile n tree refusal is = cc

more_refused : (profile : Profile) (words : List Word) (n : ℕ) (tree : Tree) (refusal : Refusal)
    → more_pairs profile n tree words ≡ Err refusal
    → IsRefused (more_pairs profile n tree) n words refusal
more_refused profile [] n tree refusal is = absurd (none_refused profile n tree refusal is)
more_refused profile (name ∷ []) n tree refusal is =
    half_refused profile (more_pairs profile n tree) (λ pair. And tree pair) n (more_reads profile n tree) name refusal is
more_refused profile (name ∷ value ∷ words) n tree refusal is =
    pair_refused profile (more_pairs profile n tree) (λ pair. And tree pair) n (more_reads profile n tree) name
    value words refusal (λ next. more_refused profile words (n + 2) next refusal) is

pairs_half : (profile : Profile) (name : Word) → pairs_of profile (name ∷ []) ≡ half_pair profile 0 name
unfolding pairs_of
pairs_half profile name = by_cases (half_cases profile 0 name)
  where
    by_cases : IsUnknown profile 0 name ⊎ (half_pair profile 0 name ≡ Err (BadFilter 1 0))
        → (half_pair profile 0 name >>= λ pair. more_pairs profile 2 pair []) ≡ half_pair profile 0 name
    by_cases (inl none) = rw none.half refl
    by_cases (inr known) = rw known refl

pairs_read : (profile : Profile) → ReadsPairs profile (pairs_of profile) (λ pair. pair) 0
unfolding pairs_of
pairs_read profile = record { half = pairs_half profile; pair = λ name value words. refl }

pairs_refused : (profile : Profile) (word : Word) (words : List Word) (refusal : Refusal) → pairs_of profile (word ∷ words) ≡ Err refusal
    → IsRefused (pairs_of profile) 0 (word ∷ words) refusal
pairs_refused profile name [] refusal is = half_refused profile (pairs_of profile) (λ pair. pair) 0 (pairs_read profile) name refusal is
pairs_refused profile name (value ∷ words) refusal is =
    pair_refused profile (pairs_of profile) (λ pair. pair) 0 (pairs_read profile) name value words refusal
    (λ next. more_refused profile words 2 next refusal) is

-- ---- a filter's words in the named subset

bare_is : (word : Word) (words : List Word) → begins_so opening word ≡ false
    → filter_of Named (word ∷ words) ≡ pairs_of Named (word ∷ words)
unfolding filter_of named_filter_of
bare_is word words bare = rw bare refl

-- the same words in front are read as pairs again
again : (word : Word) (words front : List Word) (other : Word) (behind more : List Word)
    → begins_so opening word ≡ false
    → (word ∷ words) ≡ front ++ other ∷ behind → filter_of Named (front ++ other ∷ more) ≡ pairs_of Named (front ++ other ∷ more)
again word words [] other behind more bare parts =
    let same : word ≡ other = cc in
    bare_is other more (ap (begins_so opening) (sym same) ∙ bare)
again word words (first ∷ front) other behind more bare parts =
    let same : word ≡ first = cc in
    bare_is first (front ++ other ∷ more) (ap (begins_so opening) (sym same) ∙ bare)

expression_is : (word : Word) (words : List Word) → begins_so opening word ≡ true
    → filter_of Named (word ∷ words) ≡ read_in_word 0 word (whole Named word) >>= alone words
unfolding filter_of named_filter_of
expression_is word words is = rw is refl

in_first : (n : ℕ) (word : Word) (fault : Fault) → IsInWord (in_word n word fault) n
in_first n word (Bad left) = refl
in_first n word (Unknown name) = tt
in_first n word (Deep left) = refl

expression_refused : (word : Word) (words : List Word) (refusal : Refusal) → begins_so opening word ≡ true
    → filter_of Named (word ∷ words) ≡ Err refusal → IsRefusedSo Named (word ∷ words) refusal
expression_refused word words refusal is told = by_whole (whole Named word) refl
  where
    by_words : (ws : List Word) (tree : Tree) → whole Named word ≡ Ok tree → filter_of Named (word ∷ ws) ≡ Err refusal
        → IsRefusedSo Named (word ∷ ws) refusal
    by_words [] tree read told =
        let good : filter_of Named (word ∷ []) ≡ Ok tree = expression_is word [] is ∙ ap (λ r. read_in_word 0 word r >>= alone
        []) read in
        absurd (cc)
    by_words (other ∷ ws) tree read told =
        let stays : (more : List Word) → filter_of Named (word ∷ other ∷ more) ≡ Err (BadFilter 1 0) = λ more.
        expression_is word (other ∷ more) is ∙ ap (λ r. read_in_word 0 word r >>= alone (other ∷ more)) read in
        let same_told : ◌≡◌ {A = Result Tree Refusal} (Err (BadFilter 1 0)) (Err refusal) = sym (stays ws) ∙ told in
        let same : BadFilter 1 0 ≡ refusal = cc in
        subst (IsRefusedSo Named (word ∷ other ∷ ws)) same (inr (record {
          front = word ∷ [];
          word = other;
          behind = ws;
          whole = refl;
          place = refl;
          stays = stays;
        }))

    by_whole : (r : Result Tree Fault) → whole Named word ≡ r → IsRefusedSo Named (word ∷ words) refusal
    by_whole (Ok tree) read = by_words words tree read told
    by_whole (Err fault) read =
        let stays : (more : List Word) → filter_of Named (word ∷ more) ≡ Err (in_word 0 word fault) = λ more.
        expression_is word more is ∙ ap (λ r. read_in_word 0 word r >>= alone more) read in
        let same_told : ◌≡◌ {A = Result Tree Refusal} (Err (in_word 0 word fault)) (Err refusal) = sym (stays words) ∙ told in
        let same : in_word 0 word fault ≡ refusal = cc in
        subst (IsRefusedSo Named (word ∷ words)) same (inr (record {
          front = [];
          word = word;
          behind = words;
          whole = refl;
          place = in_first 0 word fault;
          stays = stays;
        }))

bare_refused : (word : Word) (words : List Word) (refusal : Refusal) → begins_so opening word ≡ false
    → IsRefused (pairs_of Named) 0 (word ∷ words) refusal → IsRefusedSo Named (word ∷ words) refusal
bare_refused word words refusal bare (inl early) =
    let long : 0 + length (word ∷ words) ≡ length (word ∷ words) = omega arith in
    inl (early ∙ ap (λ m. BadFilter m 0) long)
bare_refused word words refusal bare (inr fault) =
    let long : 0 + length fault.front ≡ length fault.front = omega arith in
    inr (record {
      front = fault.front;
      word = fault.word;
      behind = fault.behind;
      whole = fault.parts;
      place = subst (IsInWord refusal) long fault.place;
      stays = λ more. again word words fault.front fault.word fault.behind more bare fault.parts ∙ fault.stays more;
    })

nothing_told : (refusal : Refusal) → filter_of Named [] ≡ Err refusal → refusal ≡ BadFilter 0 0
unfolding filter_of named_filter_of
nothing_told refusal is = cc

named_refused : (words : List Word) (refusal : Refusal) → filter_of Named words ≡ Err refusal → IsRefusedSo Named words refusal
named_refused [] refusal is = inl (nothing_told refusal is)
named_refused (word ∷ words) refusal is = by_first (begins_so opening word) refl
  where
    by_first : (b : Bool) → begins_so opening word ≡ b → IsRefusedSo Named (word ∷ words) refusal
    by_first true expression = expression_refused word words refusal expression is
    by_first false bare =
        bare_refused word words refusal bare (pairs_refused Named word words refusal (sym (bare_is word words bare) ∙ is))

-- ---- a filter's words in the wide profile

-- what is read so many parts behind, the first word of which has a number
record StaysBehind (read : ℕ → List Word → Result Tree Refusal) (n : ℕ) (words : List Word) (refusal : Refusal) : Type 0 where
  front : List Word
  word : Word
  behind : List Word
  parts : words ≡ front ++ word ∷ behind
  place : IsInWord refusal (n + length front)
  stays : (most : ℕ) (more : List Word) → length front ≤ most → read most (front ++ word ∷ more) ≡ Err refusal

abbrev IsRefusedBehind : (ℕ → List Word → Result Tree Refusal) → ℕ → List Word → Refusal → Type 0
IsRefusedBehind read n words refusal = (refusal ≡ BadFilter (n + length words) 0) ⊎ StaysBehind read n words refusal

-- it reads a part, and then at most so many behind it
abbrev ReadsParts : (ℕ → List Word → Result Tree Refusal) → (Tree → Tree) → ℕ → Type 0
ReadsParts read grow n = (most : ℕ) (word : Word) (words : List Word)
    → read most (word ∷ words) ≡ part_of n (word ∷ words)
    >>= λ part. more_parts most (n + part_length (word ∷ words)) (grow part) (drop (part_length (word ∷ words)) (word ∷ words))

-- those behind, each of which reads one more
abbrev Behind : ℕ → Tree → ℕ → List Word → Result Tree Refusal
Behind n tree most words = more_parts (suc most) n tree words

-- what is read behind a part is refused as it is there
abbrev NextRefused : (Tree → Tree) → ℕ → List Word → Refusal → Type 0
NextRefused grow n words refusal =
    (most : ℕ) (tree : Tree) → more_parts most n (grow tree) words ≡ Err refusal → IsRefusedBehind (Behind n (grow tree)) n words refusal

none_more : (n : ℕ) (tree : Tree) (words : List Word) (refusal : Refusal) → more_parts 0 n tree words ≡ Err refusal → ⊥
unfolding more_parts
none_more n tree words refusal is = cc

step_is : (read : ℕ → List Word → Result Tree Refusal) (grow : Tree → Tree) (n : ℕ) → ReadsParts read grow n → (most : ℕ) (word : Word)
    (words : List Word) (r : Result Tree Refusal) → part_of n (word ∷ words) ≡ r
    → read most (word ∷ words)
    ≡ (r >>= λ part. more_parts most (n + part_length (word ∷ words)) (grow part) (drop (part_length (word ∷ words)) (word ∷ words)))
step_is read grow n reads most word words r is = reads most word words
    ∙ ap (λ (p : Result Tree Refusal). p >>= λ part. more_parts most (n + part_length (word ∷ words)) (grow part)
    (drop (part_length (word ∷ words)) (word ∷ words))) is

-- an expression in front
open_is : (n : ℕ) (word : Word) (words : List Word) → begins_so opening word ≡ true
    → part_of n (word ∷ words) ≡ read_in_word n word (whole Wide word)
open_is n word words is = rw is refl

open_length : (word : Word) (words : List Word) → begins_so opening word ≡ true → part_length (word ∷ words) ≡ 1
open_length word words is = rw is refl

bare_part : (n : ℕ) (word : Word) (words : List Word) → begins_so opening word ≡ false
    → part_of n (word ∷ words) ≡ pair_at Wide n (word ∷ words)
bare_part n word words bare = rw bare refl

bare_length : (word : Word) (words : List Word) → begins_so opening word ≡ false → part_length (word ∷ words) ≡ 2
bare_length word words bare = rw bare refl

open_refused : (read : ℕ → List Word → Result Tree Refusal) (grow : Tree → Tree) (n : ℕ) → ReadsParts read grow n → (word : Word)
    (words : List Word) (refusal : Refusal) (most : ℕ) → begins_so opening word ≡ true → NextRefused grow (n + 1) words refusal
    → read most (word ∷ words) ≡ Err refusal → IsRefusedBehind read n (word ∷ words) refusal
open_refused read grow n reads word words refusal most is next told = by_whole (whole Wide word) refl
  where
    goes_on : (r : Result Tree Fault) → whole Wide word ≡ r → (m : ℕ) (ws : List Word)
        → read m (word ∷ ws) ≡ (read_in_word n word r >>= λ part. more_parts m (n + 1) (grow part) ws)
    goes_on r e m ws =
        step_is read grow n reads m word ws (read_in_word n word r) (open_is n word ws is ∙ ap (read_in_word n word) e)
        ∙ ap (λ (k : ℕ). read_in_word n word r >>= λ part. more_parts m (n + k) (grow part) (drop k (word ∷ ws))) (open_length word ws is)

    by_rest : (tree : Tree) → whole Wide word ≡ Ok tree → IsRefusedBehind (Behind (n + 1) (grow tree)) (n + 1) words refusal
        → IsRefusedBehind read n (word ∷ words) refusal
    by_rest tree e (inl early) =
        let long : n + 1 + length words ≡ n + length (word ∷ words) = omega arith in
        inl (early ∙ ap (λ (m : ℕ). BadFilter m 0) long)
    by_rest tree e (inr rest) =
        let long : n + 1 + length rest.front ≡ n + length (word ∷ rest.front) = omega arith in
        inr (record {
          front = word ∷ rest.front;
          word = rest.word;
          behind = rest.behind;
          parts = ap (λ (ws : List Word). word ∷ ws) rest.parts;
          place = subst (IsInWord refusal) long rest.place;
          stays = still;
        })
      where
        still : (m : ℕ) (more : List Word) → length (word ∷ rest.front) ≤ m → read m ((word ∷ rest.front) ++ rest.word ∷ more) ≡ Err refusal
        still zero more le = absurd (omega arith)
        still (suc m) more le = goes_on (Ok tree) e (suc m) (rest.front ++ rest.word ∷ more) ∙ rest.stays m more (omega arith)

    by_whole : (r : Result Tree Fault) → whole Wide word ≡ r → IsRefusedBehind read n (word ∷ words) refusal
    by_whole (Ok tree) e = by_rest tree e (next most tree (sym (goes_on (Ok tree) e most words) ∙ told))
    by_whole (Err fault) e =
        let same_told : ◌≡◌ {A = Result Tree Refusal} (Err (in_word n word fault)) (Err refusal) =
        sym (goes_on (Err fault) e most words) ∙ told in
        let same : in_word n word fault ≡ refusal = cc in
        let none : n + 0 ≡ n = omega arith in
        subst (IsRefusedBehind read n (word ∷ words)) same (inr (record {
          front = [];
          word = word;
          behind = words;
          parts = refl;
          place = subst (IsInWord (in_word n word fault)) (sym none) (in_first n word fault);
          stays = λ m more le. goes_on (Err fault) e m more;
        }))

-- a pair in front, of which no tag has the name
unknown_behind : (read : ℕ → List Word → Result Tree Refusal) (grow : Tree → Tree) (n : ℕ) → ReadsParts read grow n → (name : Word)
    → begins_so opening name ≡ false → IsUnknown Wide n name → (most : ℕ) (more : List Word)
    → read most (name ∷ more) ≡ Err (UnknownTag name)
unknown_behind read grow n reads name bare none most [] =
    step_is read grow n reads most name [] (Err (UnknownTag name)) (bare_part n name [] bare ∙ none.half)
unknown_behind read grow n reads name bare none most (value ∷ words) =
    step_is read grow n reads most name (value ∷ words) (Err (UnknownTag name)) (bare_part n name (value ∷ words) bare ∙ none.pair value)

unknown_refused : (read : ℕ → List Word → Result Tree Refusal) (grow : Tree → Tree) (n : ℕ) → ReadsParts read grow n → (name : Word)
    (words : List Word) (refusal : Refusal) (most : ℕ) → begins_so opening name ≡ false → IsUnknown Wide n name
    → read most (name ∷ words) ≡ Err refusal → IsRefusedBehind read n (name ∷ words) refusal
unknown_refused read grow n reads name words refusal most bare none told =
    let same_told : ◌≡◌ {A = Result Tree Refusal} (Err (UnknownTag name)) (Err refusal) =
    sym (unknown_behind read grow n reads name bare none most words) ∙ told in
    let same : UnknownTag name ≡ refusal = cc in
    subst (IsRefusedBehind read n (name ∷ words)) same (inr (record {
      front = [];
      word = name;
      behind = words;
      parts = refl;
      place = tt;
      stays = λ m more le. unknown_behind read grow n reads name bare none m more;
    }))

alone_refused : (read : ℕ → List Word → Result Tree Refusal) (grow : Tree → Tree) (n : ℕ) → ReadsParts read grow n → (name : Word)
    (refusal : Refusal) (most : ℕ) → begins_so opening name ≡ false → read most (name ∷ []) ≡ Err refusal
    → IsRefusedBehind read n (name ∷ []) refusal
alone_refused read grow n reads name refusal most bare told = by_cases (half_cases Wide n name)
  where
    by_cases : IsUnknown Wide n name ⊎ (half_pair Wide n name ≡ Err (BadFilter (n + 1) 0)) → IsRefusedBehind read n (name ∷ []) refusal
    by_cases (inl none) = unknown_refused read grow n reads name [] refusal most bare none told
    by_cases (inr known) =
        let same_told : ◌≡◌ {A = Result Tree Refusal} (Err refusal) (Err (BadFilter (n + 1) 0)) =
        sym told ∙ step_is read grow n reads most name [] (Err (BadFilter (n + 1) 0)) (bare_part n name [] bare ∙ known) in
        let same : refusal ≡ BadFilter (n + 1) 0 = cc in
        inl same

two_refused : (read : ℕ → List Word → Result Tree Refusal) (grow : Tree → Tree) (n : ℕ) → ReadsParts read grow n → (name value : Word)
    (words : List Word) (refusal : Refusal) (most : ℕ) → begins_so opening name ≡ false → NextRefused grow (n + 2) words refusal
    → read most (name ∷ value ∷ words) ≡ Err refusal → IsRefusedBehind read n (name ∷ value ∷ words) refusal
two_refused read grow n reads name value words refusal most bare next told = by_cases (pair_cases Wide n name value)
  where
    goes_on : (r : Result Tree Refusal) → pair_of Wide n name value ≡ r → (m : ℕ) (ws : List Word)
        → read m (name ∷ value ∷ ws) ≡ (r >>= λ part. more_parts m (n + 2) (grow part) ws)
    goes_on r e m ws =
        step_is read grow n reads m name (value ∷ ws) r (bare_part n name (value ∷ ws) bare ∙ e)
        ∙ ap (λ (k : ℕ). r >>= λ part. more_parts m (n + k) (grow part) (drop k (name ∷ value ∷ ws))) (bare_length name (value ∷ ws) bare)

    by_rest : (tree : Tree) → pair_of Wide n name value ≡ Ok tree → IsRefusedBehind (Behind (n + 2) (grow tree)) (n + 2) words refusal
        → IsRefusedBehind read n (name ∷ value ∷ words) refusal
    by_rest tree e (inl early) =
        let long : n + 2 + length words ≡ n + length (name ∷ value ∷ words) = omega arith in
        inl (early ∙ ap (λ (m : ℕ). BadFilter m 0) long)
    by_rest tree e (inr rest) =
        let long : n + 2 + length rest.front ≡ n + length (name ∷ value ∷ rest.front) = omega arith in
        inr (record {
          front = name ∷ value ∷ rest.front;
          word = rest.word;
          behind = rest.behind;
          parts = ap (λ (ws : List Word). name ∷ value ∷ ws) rest.parts;
          place = subst (IsInWord refusal) long rest.place;
          stays = still;
        })
      where
        still : (m : ℕ) (more : List Word) → length (name ∷ value ∷ rest.front) ≤ m
            → read m ((name ∷ value ∷ rest.front) ++ rest.word ∷ more) ≡ Err refusal
        still zero more le = absurd (omega arith)
        still (suc m) more le = goes_on (Ok tree) e (suc m) (rest.front ++ rest.word ∷ more) ∙ rest.stays m more (omega arith)

    by_cases : IsUnknown Wide n name
        ⊎ ((pair_of Wide n name value ≡ Err (BadFilter (n + 1) 0)) ⊎ ((tree : Tree) × (pair_of Wide n name value ≡ Ok tree)))
        → IsRefusedBehind read n (name ∷ value ∷ words) refusal
    by_cases (inl none) = unknown_refused read grow n reads name (value ∷ words) refusal most bare none told
    by_cases (inr (inl bad)) =
        let same_told : ◌≡◌ {A = Result Tree Refusal} (Err (BadFilter (n + 1) 0)) (Err refusal) =
        sym (goes_on (Err (BadFilter (n + 1) 0)) bad most words) ∙ told in
        let same : BadFilter (n + 1) 0 ≡ refusal = cc in
        subst (IsRefusedBehind read n (name ∷ value ∷ words)) same (inr (record {
          front = name ∷ [];
          word = value;
          behind = words;
          parts = refl;
          place = refl;
          stays = λ m more le. goes_on (Err (BadFilter (n + 1) 0)) bad m more;
        }))
    by_cases (inr (inr good)) =
        by_rest good.0 good.1 (next most good.0 (sym (goes_on (Ok good.0) good.1 most words) ∙ told))

part_refused : (read : ℕ → List Word → Result Tree Refusal) (grow : Tree → Tree) (n : ℕ) → ReadsParts read grow n → (word : Word)
    (words : List Word) (refusal : Refusal) (most : ℕ) → NextRefused grow (n + 1) words refusal
    → ((value : Word) (ws : List Word) → words ≡ value ∷ ws → NextRefused grow (n + 2) ws refusal)
    → read most (word ∷ words) ≡ Err refusal → IsRefusedBehind read n (word ∷ words) refusal
part_refused read grow n reads word words refusal most one two told = by_first (begins_so opening word) refl
  where
    by_words : (ws : List Word) → words ≡ ws → begins_so opening word ≡ false → read most (word ∷ ws) ≡ Err refusal
        → IsRefusedBehind read n (word ∷ ws) refusal
    by_words [] e bare told = alone_refused read grow n reads word refusal most bare told
    by_words (value ∷ ws) e bare told = two_refused read grow n reads word value ws refusal most bare (two value ws e) told

    by_first : (b : Bool) → begins_so opening word ≡ b → IsRefusedBehind read n (word ∷ words) refusal
    by_first true is = open_refused read grow n reads word words refusal most is one told
    by_first false bare = by_words words refl bare told

behind_reads : (n : ℕ) (tree : Tree) → ReadsParts (Behind n tree) (λ part. And tree part) n
unfolding more_parts
behind_reads n tree = λ most word words. refl

nothing_behind : (n : ℕ) (tree : Tree) (most : ℕ) (refusal : Refusal) → more_parts most n tree [] ≡ Err refusal → ⊥
unfolding more_parts
nothing_behind n tree zero refusal is = cc
nothing_behind n tree (suc most) refusal is = cc

parts_refused : (words : List Word) (n : ℕ) (grow : Tree → Tree) (refusal : Refusal) → NextRefused grow n words refusal
parts_refused words n grow refusal zero tree is = absurd (none_more n (grow tree) words refusal is)
parts_refused [] n grow refusal (suc most) tree is = absurd (nothing_behind n (grow tree) (suc most) refusal is)
parts_refused (word ∷ []) n grow refusal (suc most) tree is =
    part_refused (Behind n (grow tree)) (λ part. And (grow tree) part) n (behind_reads n (grow tree)) word [] refusal most
    (parts_refused [] (n + 1) (λ part. And (grow tree) part) refusal)
    (λ value ws e. absurd (cc)) is
parts_refused (word ∷ value ∷ words) n grow refusal (suc most) tree is =
    part_refused (Behind n (grow tree)) (λ part. And (grow tree) part) n (behind_reads n (grow tree)) word (value ∷ words) refusal most
    (parts_refused (value ∷ words) (n + 1) (λ part. And (grow tree) part) refusal)
    (λ other ws e. let same : words ≡ ws = cc in
    subst (λ (rest : List Word). NextRefused (λ part. And (grow tree) part) (n + 2) rest refusal) same
    (parts_refused words (n + 2) (λ part. And (grow tree) part) refusal)) is

-- what the words say where at most so many parts stand behind the first one
abbrev Reading : ℕ → List Word → Result Tree Refusal
Reading most words = part_of 0 words >>= λ part. more_parts most (part_length words) part (drop (part_length words) words)

reading_reads : ReadsParts Reading (λ part. part) 0
reading_reads most word words =
    let none : part_length (word ∷ words) ≡ 0 + part_length (word ∷ words) = omega arith in
    ap (λ (k : ℕ). part_of 0 (word ∷ words) >>= λ part. more_parts most k part (drop (part_length (word ∷ words)) (word ∷ words))) none

wide_is : (words : List Word) → filter_of Wide words ≡ Reading (length words) words
unfolding filter_of wide_filter_of
wide_is words = refl

wide_refused : (words : List Word) (refusal : Refusal) → filter_of Wide words ≡ Err refusal → IsRefusedSo Wide words refusal
wide_refused [] refusal is =
    let told : ◌≡◌ {A = Result Tree Refusal} (Err refusal) (Err (BadFilter 0 0)) = sym is ∙ wide_is [] in
    let same : refusal ≡ BadFilter 0 0 = cc in
    inl same
wide_refused (word ∷ words) refusal is =
    from (part_refused Reading (λ part. part) 0 reading_reads word words refusal (length (word ∷ words))
    (parts_refused words 1 (λ part. part) refusal)
    (λ value ws e. parts_refused ws 2 (λ part. part) refusal) (sym (wide_is (word ∷ words)) ∙ is))
  where
    from : IsRefusedBehind Reading 0 (word ∷ words) refusal → IsRefusedSo Wide (word ∷ words) refusal
    from (inl early) =
        let long : 0 + length (word ∷ words) ≡ length (word ∷ words) = omega arith in
        inl (early ∙ ap (λ (m : ℕ). BadFilter m 0) long)
    from (inr fault) =
        let long : 0 + length fault.front ≡ length fault.front = omega arith in
        inr (record {
          front = fault.front;
          word = fault.word;
          behind = fault.behind;
          whole = fault.parts;
          place = subst (IsInWord refusal) long fault.place;
          stays = λ more. wide_is (fault.front ++ fault.word ∷ more)
              ∙ fault.stays (length (fault.front ++ fault.word ∷ more)) more (omega (arith, length-append fault.front (fault.word ∷ more)));
        })

pub refused_so : (profile : Profile) (words : List Word) (refusal : Refusal) → filter_of profile words ≡ Err refusal
    → IsRefusedSo profile words refusal
refused_so Named words refusal is = named_refused words refusal is
refused_so Wide words refusal is = wide_refused words refusal is
