-- Words part as a search exactly where their count is right, so each list of words has one answer.
use Rattle.std.proofs.Common.{◌≡◌, ◌⊎◌, ◌↔◌, inl, inr, ℕ, ◌+◌, ◌≤◌, Bool, true, false, not, ◌&&◌, ◌==◌, nat_le, List, [], ◌∷◌, ◌++◌, length}
use Rattle.std.proofs.Common.{take, drop, Option, Some, None, Result, Err, refl, sym, ap, ◌∙◌, subst, append_assoc, arith}
use Rattle.std.specs.Prelude.{codes, ◌%◌}
use Rattle.std.proofs.lemmas.Bool.{and_from, and_parts, le-leb}
use Rattle.profile.specs.declared.profile.Profile.{Profile}
use Rattle.profile.specs.declared.profile.Profile.TheVariants.{Named, Wide}
use Rattle.filter_expr.specs.declared.case.Case.{Case}
use Rattle.filter_expr.specs.Parts.{opening, begins_so}
use Rattle.command_text.specs.declared.command.finding.FindingCommand.{FindingCommand}
use Rattle.command_text.specs.declared.refusal.CommandRefusal.{CommandRefusal}
use Rattle.command_text.specs.declared.refusal.CommandRefusal.TheVariants.{WrongCount}
use Rattle.command_text.specs.Counts.{Word}
use Rattle.command_text.specs.Finding.{is_even, is_begun, named_search_count, has_search_count, filter_length, find_of, find_add_of}
use Rattle.command_text.specs.Search.{Parts, words_of, behind_window, behind_sort, behind_filter, ArePairs, IsExpression, IsPairs, IsOne}
use Rattle.command_text.specs.Search.{IsMixed}
use Rattle.command_text.specs.Search.{ArePartedSo, found_by, added_by, AreTwoByTwo, AreSearch, IsAnswer}
use Rattle.command_text.proofs.SearchParts.{drop_front, filter_counted, behind_is, parts_of, parted_so, find_is, add_is}

-- ---- the count of words

even_two : (n : ℕ) → is_even (2 + n) ≡ is_even n
even_two n = let same : (2 + n) % 2 ≡ n % 2 = omega arith in ap (λ (m : ℕ). m == 0) same

two_more : (word other : Word) (words : List Word) → is_even (length (word ∷ other ∷ words)) ≡ is_even (length words)
two_more word other words =
    let long : length (word ∷ other ∷ words) ≡ 2 + length words = omega arith in
    ap is_even long ∙ even_two (length words)

pub is_two_by_two : (words : List Word) → is_even (length words) ≡ true → AreTwoByTwo words
is_two_by_two [] h = tt
is_two_by_two (word ∷ []) h = absurd (cc)
is_two_by_two (word ∷ other ∷ words) h = is_two_by_two words (sym (two_more word other words) ∙ h)

pub counts_even : (words : List Word) → AreTwoByTwo words → is_even (length words) ≡ true
counts_even [] even = refl
counts_even (word ∷ []) even = absurd even
counts_even (word ∷ other ∷ words) even = two_more word other words ∙ counts_even words even

one_more : (first : Word) (words : List Word) → is_even (length (first ∷ words)) ≡ not (is_even (length words))
one_more first [] = refl
one_more first (word ∷ []) = refl
one_more first (word ∷ other ∷ words) =
    two_more first word (other ∷ words) ∙ one_more other words ∙ ap not (sym (two_more word other words))

even_append : (front behind : List Word) → AreTwoByTwo front → AreTwoByTwo behind → AreTwoByTwo (front ++ behind)
even_append [] behind front even = even
even_append (word ∷ []) behind front even = absurd front
even_append (word ∷ other ∷ words) behind front even = even_append words behind front even

even_behind : (front behind : List Word) → AreTwoByTwo front → AreTwoByTwo (front ++ behind) → AreTwoByTwo behind
even_behind [] behind front even = even
even_behind (word ∷ []) behind front even = absurd front
even_behind (word ∷ other ∷ words) behind front even = even_behind words behind front even

even_part : (name : Word) (given : Option Word) → AreTwoByTwo (words_of name given)
even_part name None = tt
even_part name (Some value) = tt

even_pairs : (adds : Bool) (words : List Word) → ArePairs adds words → AreTwoByTwo words
even_pairs adds [] are = tt
even_pairs adds (word ∷ []) are = are
even_pairs adds (tag ∷ value ∷ words) are = even_pairs adds words are.1

even_parts : (p : Parts) → AreTwoByTwo p.rest → AreTwoByTwo (behind_filter p)
even_parts p even = even_append (words_of (codes "sort") p.sort) (behind_sort p) (even_part (codes "sort") p.sort)
    (even_append (words_of (codes "window") p.window) (behind_window p) (even_part (codes "window") p.window) (even_append (words_of
    (codes "position") p.position) p.rest (even_part (codes "position") p.position) even))

even_rest : (p : Parts) → AreTwoByTwo (behind_filter p) → AreTwoByTwo p.rest
even_rest p even = even_behind (words_of (codes "position") p.position) p.rest (even_part (codes "position") p.position)
    (even_behind (words_of (codes "window") p.window) (behind_window p) (even_part (codes "window") p.window) (even_behind (words_of
    (codes "sort") p.sort) (behind_sort p) (even_part (codes "sort") p.sort) even))

counts_expression : (word : Word) (behind : List Word) → begins_so opening word ≡ true → AreTwoByTwo behind
    → named_search_count (word ∷ behind) ≡ true
counts_expression word behind is even = rw (is, one_more word behind, counts_even behind even) refl

counts_pairs : (tag value : Word) (words : List Word) → begins_so opening tag ≡ false → AreTwoByTwo words
    → named_search_count (tag ∷ value ∷ words) ≡ true
counts_pairs tag value words bare even =
    let two : 2 ≤ length (tag ∷ value ∷ words) = omega arith in
    rw bare (and_from _ _ (le-leb 2 (length (tag ∷ value ∷ words)) two) (two_more tag value words ∙ counts_even words even))

named_right : (adds : Bool) (filter behind : List Word) → IsExpression filter ⊎ IsPairs adds filter behind → AreTwoByTwo behind
    → named_search_count (filter ++ behind) ≡ true
named_right adds filter behind (inl one) even =
    ap (λ (ws : List Word). named_search_count (ws ++ behind)) one.1 ∙ counts_expression one.0 behind one.2 even
named_right adds filter behind (inr more) even =
    ap (λ (ws : List Word). named_search_count (ws ++ behind)) more.whole
    ∙ counts_pairs more.tag more.value (more.pairs ++ behind) more.bare
    (even_append more.pairs behind (even_pairs adds more.pairs more.are_pairs) even)

begins : (first more : List Word) → IsOne first → is_begun (first ++ more) ≡ true
begins first more (inl one) = ap (λ (ws : List Word). is_begun (ws ++ more)) one.1 ∙ rw one.2 refl
begins first more (inr two) =
    let long : 2 ≤ length (two.0 ∷ two.1 ∷ more) = omega arith in
    ap (λ (ws : List Word). is_begun (ws ++ more)) two.2 ∙ rw two.3 (le-leb 2 (length (two.0 ∷ two.1 ∷ more)) long)

wide_right : (adds : Bool) (filter behind : List Word) → IsMixed adds filter behind → AreTwoByTwo behind
    → has_search_count Wide adds (filter ++ behind) ≡ true
wide_right adds filter behind is even =
    let n : filter_length Wide adds (filter ++ behind) ≡ length filter = filter_counted Wide adds filter behind is in
    let rest : drop (filter_length Wide adds (filter ++ behind)) (filter ++ behind) ≡ behind =
    ap (λ (m : ℕ). drop m (filter ++ behind)) n ∙ drop_front filter behind in
    let front : is_begun (filter ++ behind) ≡ true =
    ap (λ (ws : List Word). is_begun (ws ++ behind)) is.whole ∙ ap is_begun (append_assoc is.first is.more behind)
    ∙ begins is.first (is.more ++ behind) is.one in
    and_from (is_begun (filter ++ behind)) (is_even (length (drop (filter_length Wide adds (filter ++ behind)) (filter ++ behind)))) front
    (ap (λ (ws : List Word). is_even (length ws)) rest ∙ counts_even behind even)

counts_right : (profile : Profile) (adds : Bool) (words : List Word) (p : Parts) → AreSearch profile adds words p
    → has_search_count profile adds words ≡ true
counts_right Named adds words p found =
    ap named_search_count found.parted.whole
    ∙ named_right adds p.filter (behind_filter p) found.parted.filter (even_parts p found.even)
counts_right Wide adds words p found =
    ap (has_search_count Wide adds) found.parted.whole
    ∙ wide_right adds p.filter (behind_filter p) found.parted.filter (even_parts p found.even)

not_true : (b : Bool) → not b ≡ true → b ≡ false
not_true true h = absurd (cc)
not_true false h = refl

not_false : (b : Bool) → not b ≡ false → b ≡ true
not_false true h = refl
not_false false h = absurd (cc)

odd_behind : (word : Word) (behind : List Word) → begins_so opening word ≡ true → named_search_count (word ∷ behind) ≡ true
    → AreTwoByTwo behind
odd_behind word behind is count =
    let odd : not (is_even (length (word ∷ behind))) ≡ true = rw is at count in
    let even : not (is_even (length behind)) ≡ false = sym (one_more word behind) ∙ not_true _ odd in
    is_two_by_two behind (not_false (is_even (length behind)) even)

pairs_behind : (tag value : Word) (words : List Word) → begins_so opening tag ≡ false → named_search_count (tag ∷ value ∷ words) ≡ true
    → AreTwoByTwo words
pairs_behind tag value words bare count =
    let all : (nat_le 2 (length (tag ∷ value ∷ words)) && is_even (length (tag ∷ value ∷ words))) ≡ true = rw bare at count in
    is_two_by_two words (sym (two_more tag value words) ∙ (and_parts _ _ all).1)

named_even : (adds : Bool) (filter behind : List Word) → IsExpression filter ⊎ IsPairs adds filter behind
    → named_search_count (filter ++ behind) ≡ true → AreTwoByTwo behind
named_even adds filter behind (inl one) all =
    odd_behind one.0 behind one.2 (ap (λ (ws : List Word). named_search_count (ws ++ behind)) (sym one.1) ∙ all)
named_even adds filter behind (inr more) all = even_behind more.pairs behind (even_pairs adds more.pairs more.are_pairs)
    (pairs_behind more.tag more.value (more.pairs ++ behind) more.bare
    (ap (λ (ws : List Word). named_search_count (ws ++ behind)) (sym more.whole) ∙ all))

-- the words behind the filter come two by two
all_even : (profile : Profile) (adds : Bool) (words : List Word) → has_search_count profile adds words ≡ true
    → AreTwoByTwo (behind_filter (parts_of profile adds words))
all_even Named adds words count =
    let p = parts_of Named adds words in
    let parted : ArePartedSo Named adds words p = parted_so Named adds words count in
    named_even adds p.filter (behind_filter p) parted.filter (sym (ap named_search_count parted.whole) ∙ count)
all_even Wide adds words count =
    let n = filter_length Wide adds words in
    let even : AreTwoByTwo (drop n words) =
    is_two_by_two (drop n words) (and_parts (is_begun words) (is_even (length (drop n words))) count).1 in
    subst AreTwoByTwo (behind_is adds (take n words) (drop n words)) even

is_search : (profile : Profile) (adds : Bool) (words : List Word) → has_search_count profile adds words ≡ true
    → AreSearch profile adds words (parts_of profile adds words)
is_search profile adds words count =
    record {
      parted = parted_so profile adds words count;
      even = even_rest (parts_of profile adds words) (all_even profile adds words count);
    }

-- ---- one answer

wrong_count : (profile : Profile) (case : Case) (words : List Word) → has_search_count profile false words ≡ false
    → find_of profile case words ≡ Err WrongCount
unfolding find_of
wrong_count profile case words h = rw h refl

wrong_count_to_add : (profile : Profile) (case : Case) (words : List Word) → has_search_count profile true words ≡ false
    → find_add_of profile case words ≡ Err WrongCount
unfolding find_add_of
wrong_count_to_add profile case words h = rw h refl

-- it says what the parts say, and tells a wrong count
abbrev Says :
    Profile → Bool → (Parts → Result FindingCommand CommandRefusal) → (List Word → Result FindingCommand CommandRefusal) → Type 0
Says profile adds says read =
    ((words : List Word) (p : Parts) → has_search_count profile adds words ≡ true → ArePartedSo profile adds words p → read words ≡ says p)
    × ((words : List Word) → has_search_count profile adds words ≡ false → read words ≡ Err WrongCount)

is_answer : (profile : Profile) (adds : Bool) (says : Parts → Result FindingCommand CommandRefusal)
    (read : List Word → Result FindingCommand CommandRefusal)
    → Says profile adds says read → (words : List Word) (answer : Result FindingCommand CommandRefusal) → read words ≡ answer
    → IsAnswer profile adds says words answer
is_answer profile adds says read exact words answer is = by_count (has_search_count profile adds words) refl
  where
    by_count : (b : Bool) → has_search_count profile adds words ≡ b → IsAnswer profile adds says words answer
    by_count true h =
        let found = is_search profile adds words h in
        inl (parts_of profile adds words, found, sym is ∙ exact.0 words (parts_of profile adds words) h found.parted)
    by_count false h = inr (
      (λ p found. let right : has_search_count profile adds words ≡ true = counts_right profile adds words p found in absurd (cc)),
      sym is ∙ exact.1 words h,
    )

only_answer : (profile : Profile) (adds : Bool) (says : Parts → Result FindingCommand CommandRefusal)
    (read : List Word → Result FindingCommand CommandRefusal)
    → Says profile adds says read → (words : List Word) (answer : Result FindingCommand CommandRefusal)
    → IsAnswer profile adds says words answer → read words ≡ answer
only_answer profile adds says read exact words answer (inl one) =
    exact.0 words one.0 (counts_right profile adds words one.0 one.1) one.1.parted ∙ sym one.2
only_answer profile adds says read exact words answer (inr none) = by_count (has_search_count profile adds words) refl
  where
    by_count : (b : Bool) → has_search_count profile adds words ≡ b → read words ≡ answer
    by_count true h = absurd (none.0 (parts_of profile adds words) (is_search profile adds words h))
    by_count false h = exact.1 words h ∙ sym none.1

pub found_so : (profile : Profile) (case : Case) (words : List Word) (answer : Result FindingCommand CommandRefusal)
    → (find_of profile case words ≡ answer) ↔ IsAnswer profile false (found_by profile case) words answer
found_so profile case words answer = (
  is_answer profile false (found_by profile case) (find_of profile case) (find_is profile case, wrong_count profile case) words answer,
  only_answer profile false (found_by profile case) (find_of profile case) (find_is profile case, wrong_count profile case) words answer,
)

pub added_so : (profile : Profile) (case : Case) (words : List Word) (answer : Result FindingCommand CommandRefusal)
    → (find_add_of profile case words ≡ answer) ↔ IsAnswer profile true (added_by profile case) words answer
added_so profile case words answer = (
  is_answer profile true (added_by profile case) (find_add_of profile case) (add_is profile case, wrong_count_to_add profile case) words
      answer,
  only_answer profile true (added_by profile case) (find_add_of profile case) (add_is profile case, wrong_count_to_add profile case) words
      answer,
)
