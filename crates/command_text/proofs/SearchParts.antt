-- The words of a search part in one way, and what is read of them is what these parts say.
use Rattle.std.proofs.Common.{◌≡◌, ◌⊎◌, inl, inr, ℕ, zero, suc, ◌||◌, ◌+◌, ◌-◌, Bool, true, false, cond, List, [], ◌∷◌, ◌++◌, length}
use Rattle.std.proofs.Common.{take, drop, Option, Some, None, Result, Ok, Err, refl, sym, ap, ◌∙◌, subst, arith, length-append}
use Rattle.std.specs.Prelude.{codes}
use Rattle.std.specs.Str.{bytes_eq}
use Rattle.std.proofs.lemmas.List.{take-append-drop}
use Rattle.std.proofs.lemmas.Bool.{and_parts}
use Rattle.std.proofs.lemmas.Slice.Eq.{bytes_eq-Decides}
use Rattle.profile.specs.declared.profile.Profile.{Profile}
use Rattle.profile.specs.declared.profile.Profile.TheVariants.{Named, Wide}
use Rattle.filter_expr.specs.declared.case.Case.{Case}
use Rattle.filter_expr.specs.declared.order.SortOrder.{SortOrder}
use Rattle.filter_expr.specs.Parts.{opening, begins_so}
use Rattle.filter_expr.specs.SortWord.{sort_order}
use Rattle.filter_expr.specs.Tree.{Tree}
use Rattle.play_queue.specs.declared.target.Target.{Target}
use Rattle.command_text.specs.declared.command.finding.FindingCommand.{FindingCommand}
use Rattle.command_text.specs.declared.command.finding.FindingCommand.TheVariants as commands
use Rattle.command_text.specs.declared.command.finding.Search.{Search}
use Rattle.command_text.specs.declared.range.Window.{Window}
use Rattle.command_text.specs.declared.refusal.CommandRefusal.{CommandRefusal}
use Rattle.command_text.specs.Arguments.{target_of, window_of}
use Rattle.command_text.specs.Counts.{◌>>=◌, Word, argument, optional}
use Rattle.command_text.specs.Finding.{is_even, is_begun, named_search_count, has_search_count, begins_part, ends_filter, pairs_length}
use Rattle.command_text.specs.Finding.{mixed_length, filter_length, value_behind, Part}
use Rattle.command_text.specs.Finding.{second_place, sort_part, window_part, position_part, nothing_left, search_parts}
use Rattle.command_text.specs.Finding.{find_of, find_add_of}
use Rattle.command_text.specs.NameArguments.{told, filter_argument}
use Rattle.command_text.specs.Search.{Parts, words_of, behind_window, behind_sort, behind_filter, IsNext, ArePairs, EndsPairs}
use Rattle.command_text.specs.Search.{IsExpression, IsPairs, IsOne, AreMixed, EndsMixed, IsMixed, IsFilter, IsPosition, ArePartedSo}
use Rattle.command_text.specs.Search.{before_window, before_position, before_rest}
use Rattle.command_text.specs.Search.{sort_value, search_of}
use Rattle.command_text.specs.Search.{no_rest, found_by, added_by}
use Rattle.command_text.proofs.Mixed.{expression_counted, pair_counted}

-- ---- lists

take_front : (front behind : List Word) → take (length front) (front ++ behind) ≡ front
take_front [] behind = refl
take_front (w ∷ front) behind = ap (λ (ws : List Word). w ∷ ws) (take_front front behind)

pub drop_front : (front behind : List Word) → drop (length front) (front ++ behind) ≡ behind
drop_front [] behind = refl
drop_front (w ∷ front) behind = drop_front front behind

-- ---- the filter's words

pairs_end : (adds : Bool) (behind : List Word) → EndsPairs adds behind → pairs_length adds behind ≡ 0
unfolding pairs_length
pairs_end adds [] ends = refl
pairs_end adds (word ∷ []) ends = refl
pairs_end adds (name ∷ value ∷ words) ends = rw ends refl

pairs_counted : (adds : Bool) (pairs behind : List Word) → ArePairs adds pairs → EndsPairs adds behind
    → pairs_length adds (pairs ++ behind) ≡ length pairs
unfolding pairs_length
pairs_counted adds [] behind are ends = pairs_end adds behind ends
pairs_counted adds (word ∷ []) behind are ends = absurd are
pairs_counted adds (tag ∷ value ∷ pairs) behind are ends =
    rw (are.0, pairs_counted adds pairs behind are.1 ends) (let h : 2 + length pairs ≡ length (tag ∷ value ∷ pairs) = omega arith in h)

named_counted : (adds : Bool) (filter behind : List Word) → IsExpression filter ⊎ IsPairs adds filter behind
    → filter_length Named adds (filter ++ behind) ≡ length filter
named_counted adds filter behind (inl one) =
    subst (λ (ws : List Word). filter_length Named adds (ws ++ behind) ≡ length ws) (sym one.1) (rw one.2 refl)
named_counted adds filter behind (inr more) =
    let counted : pairs_length adds (more.pairs ++ behind) ≡ length more.pairs =
    pairs_counted adds more.pairs behind more.are_pairs more.ends in
    let all : 2 + length more.pairs ≡ length (more.tag ∷ more.value ∷ more.pairs) = omega arith in
    subst (λ (ws : List Word). filter_length Named adds (ws ++ behind) ≡ length ws) (sym more.whole) (rw (more.bare, counted) all)

-- expressions and pairs in any order
mixed_end : (adds : Bool) (behind : List Word) → EndsMixed adds behind → mixed_length (Some adds) behind ≡ 0
unfolding mixed_length
mixed_end adds [] ends = refl
mixed_end adds (word ∷ []) ends = rw ends refl
mixed_end adds (name ∷ value ∷ words) ends = rw (ends.0, ends.1) refl

mixed_counted : (adds : Bool) (more behind : List Word) → AreMixed adds more → EndsMixed adds behind
    → mixed_length (Some adds) (more ++ behind) ≡ length more
mixed_counted adds [] behind are ends = mixed_end adds behind ends
mixed_counted adds (word ∷ []) behind are ends =
    let counted : mixed_length (Some adds) (word ∷ behind) ≡ 1 + mixed_length (Some adds) behind =
    expression_counted (Some adds) word behind are in
    let none : mixed_length (Some adds) behind ≡ 0 = mixed_end adds behind ends in
    omega arith
mixed_counted adds (word ∷ other ∷ words) behind (inl one) ends =
    let counted : mixed_length (Some adds) (word ∷ other ∷ (words ++ behind)) ≡ 1 + mixed_length (Some adds) (other ∷ (words ++ behind)) =
    expression_counted (Some adds) word (other ∷ (words ++ behind)) one.0 in
    let rest : mixed_length (Some adds) (other ∷ (words ++ behind)) ≡ length (other ∷ words) =
    mixed_counted adds (other ∷ words) behind one.1 ends in
    omega arith
mixed_counted adds (word ∷ other ∷ words) behind (inr two) ends =
    let counted : mixed_length (Some adds) (word ∷ other ∷ (words ++ behind)) ≡ 2 + mixed_length (Some adds) (words ++ behind) =
    pair_counted (Some adds) word other (words ++ behind) two.0 two.1 in
    let rest : mixed_length (Some adds) (words ++ behind) ≡ length words = mixed_counted adds words behind two.2 ends in
    omega arith

first_counted : (adds : Bool) (first more behind : List Word) → IsOne first → AreMixed adds more → EndsMixed adds behind
    → filter_length Wide adds ((first ++ more) ++ behind) ≡ length (first ++ more)
first_counted adds first more behind (inl one) are ends =
    let counted : mixed_length (Some adds) (more ++ behind) ≡ length more = mixed_counted adds more behind are ends in
    let all : 1 + length more ≡ length (one.0 ∷ more) = omega arith in
    subst (λ (ws : List Word). filter_length Wide adds ((ws ++ more) ++ behind) ≡ length (ws ++ more)) (sym one.1)
    (rw (one.2, counted) all)
first_counted adds first more behind (inr two) are ends =
    let counted : mixed_length (Some adds) (more ++ behind) ≡ length more = mixed_counted adds more behind are ends in
    let all : 2 + length more ≡ length (two.0 ∷ two.1 ∷ more) = omega arith in
    subst (λ (ws : List Word). filter_length Wide adds ((ws ++ more) ++ behind) ≡ length (ws ++ more)) (sym two.2)
    (rw (two.3, counted) all)

pub filter_counted : (profile : Profile) (adds : Bool) (filter behind : List Word) → IsFilter profile adds filter behind
    → filter_length profile adds (filter ++ behind) ≡ length filter
filter_counted Named adds filter behind is = named_counted adds filter behind is
filter_counted Wide adds filter behind is =
    subst (λ (ws : List Word). filter_length Wide adds (ws ++ behind) ≡ length ws) (sym is.whole)
    (first_counted adds is.first is.more behind is.one is.are_mixed is.ends)

-- ---- one part

name_is : (word name : Word) → bytes_eq word name ≡ true → word ≡ name
name_is word name h = (bytes_eq-Decides word name).0 h

stands : (name value : Word) (behind : List Word) → value_behind name (name ∷ value ∷ behind) ≡ Some value
stands name value behind = let same : bytes_eq name name ≡ true = (bytes_eq-Decides name name).1 refl in rw same refl

left_out : (name : Word) (behind : List Word) → IsNext name None behind → value_behind name behind ≡ None
left_out name [] out = refl
left_out name (word ∷ []) out = refl
left_out name (word ∷ value ∷ more) out = by_cases (bytes_eq word name) refl
  where
    by_cases : (b : Bool) → bytes_eq word name ≡ b → cond b (Some value) None ≡ None
    by_cases true h = absurd (out value more (ap (λ (w : Word). w ∷ value ∷ more) (name_is word name h)))
    by_cases false h = refl

value_is : (name : Word) (given : Option Word) (behind : List Word) → IsNext name given behind
    → value_behind name (words_of name given ++ behind) ≡ given
value_is name None behind next = left_out name behind next
value_is name (Some value) behind next = stands name value behind

-- what was read, and the words behind it
abbrev with_rest : {A : Type 0} → Result A CommandRefusal → List Word → Result (A × List Word) CommandRefusal
with_rest read behind = read >>= λ x. Ok (x, behind)

abbrev given_so : {A : Type 0} → Result A CommandRefusal → Result (Option A) CommandRefusal
given_so read = read >>= λ x. Ok (Some x)

abbrev given_with : {A : Type 0} → Result A CommandRefusal → List Word → Part A
given_with read behind = read >>= λ x. Ok (Some x, behind)

given_is : {A : Type 0} (read : Result A CommandRefusal) (behind : List Word) → given_with read behind ≡ with_rest (given_so read) behind
given_is (Ok x) behind = refl
given_is (Err refusal) behind = refl

sort_is : (profile : Profile) (given : Option Word) (behind : List Word) → IsNext (codes "sort") given behind
    → sort_part profile (words_of (codes "sort") given ++ behind) ≡ with_rest (sort_value profile given) behind
unfolding sort_part
sort_is profile None behind next = rw (left_out (codes "sort") behind next) refl
sort_is profile (Some value) behind next = given_is (told (sort_order profile value)) behind

place_is : (total before : ℕ) (name value : Word) (behind : List Word) → total ≡ before + length (name ∷ value ∷ behind)
    → second_place total (name ∷ value ∷ behind) ≡ before + 2
place_is total before name value behind e = omega arith

window_is : (total before : ℕ) (given : Option Word) (behind : List Word) → IsNext (codes "window") given behind
    → total ≡ before + length (words_of (codes "window") given ++ behind)
    → window_part total (words_of (codes "window") given ++ behind) ≡ with_rest (optional (before + 2) window_of given) behind
unfolding window_part
window_is total before None behind next e = rw (left_out (codes "window") behind next) refl
window_is total before (Some value) behind next e =
    rw (place_is total before (codes "window") value behind e)
    (given_is (argument (before + 2) (window_of value)) behind)

position_is : (total before : ℕ) (given : Option Word) (behind : List Word) → IsNext (codes "position") given behind
    → total ≡ before + length (words_of (codes "position") given ++ behind)
    → position_part total (words_of (codes "position") given ++ behind) ≡ with_rest (optional (before + 2) target_of given) behind
unfolding position_part
position_is total before None behind next e = rw (left_out (codes "position") behind next) refl
position_is total before (Some value) behind next e =
    rw (place_is total before (codes "position") value behind e)
    (given_is (argument (before + 2) (target_of value)) behind)

rest_is : {A : Type 0} (total before : ℕ) (rest : List Word) (value : A) → total ≡ before + length rest
    → nothing_left total rest value ≡ no_rest before rest value
rest_is total before [] value e = refl
rest_is {A} total before (word ∷ words) value e =
    let place : total - length words ≡ before + 1 = omega arith in
    rw place refl

-- ---- the parts together

-- a filter, and behind it an order and then a window
abbrev one_by_one : Case → Result Tree CommandRefusal → Part SortOrder → (List Word → Part Window)
    → Result (Search × List Word) CommandRefusal
one_by_one case filter sorted next =
    filter >>= λ f. sorted >>= λ s. next s.1 >>= λ w. Ok (record { case = case; filter = f; sort = s.0; window = w.0 }, w.1)

abbrev together : Case → Result Tree CommandRefusal → Result (Option SortOrder) CommandRefusal → Result (Option Window) CommandRefusal
    → Result Search CommandRefusal
together case filter sort window =
    filter >>= λ f. sort >>= λ s. window >>= λ w. Ok (record { case = case; filter = f; sort = s; window = w })

joined : (case : Case) (filter : Result Tree CommandRefusal) (sort : Result (Option SortOrder) CommandRefusal)
    (window : Result (Option Window) CommandRefusal) (next : List Word → Part Window) (middle behind : List Word)
    → next middle ≡ with_rest window behind
    → one_by_one case filter (with_rest sort middle) next ≡ with_rest (together case filter sort window) behind
joined case (Err e) sort window next middle behind is = refl
joined case (Ok f) (Err e) window next middle behind is = refl
joined case (Ok f) (Ok s) (Err e) next middle behind is = rw is refl
joined case (Ok f) (Ok s) (Ok w) next middle behind is = rw is refl

search_is : (profile : Profile) (adds : Bool) (case : Case) (words : List Word) (p : Parts) → ArePartedSo profile adds words p
    → search_parts profile adds case (length words) words ≡ with_rest (search_of profile case p) (behind_window p)
unfolding search_parts
search_is profile adds case words p parted =
    let counted : filter_length profile adds words ≡ length p.filter =
    ap (filter_length profile adds) parted.whole ∙ filter_counted profile adds p.filter (behind_filter p) parted.filter in
    let front : take (filter_length profile adds words) words ≡ p.filter =
    ap (λ n. take n words) counted ∙ ap (take (length p.filter)) parted.whole ∙ take_front p.filter (behind_filter p) in
    let back : drop (filter_length profile adds words) words ≡ behind_filter p =
    ap (λ n. drop n words) counted ∙ ap (drop (length p.filter)) parted.whole ∙ drop_front p.filter (behind_filter p) in
    let long : length words ≡ before_window p + length (behind_sort p) =
    omega (
      arith,
      ap length parted.whole,
      length-append p.filter (behind_filter p),
      length-append (words_of (codes "sort") p.sort) (behind_sort p),
    ) in
    rw (front, back, sort_is profile p.sort (behind_sort p) parted.sort)
    (joined case (filter_argument profile p.filter) (sort_value profile p.sort) (optional (before_window p + 2) window_of p.window)
    (window_part (length words)) (behind_sort p) (behind_window p)
    (window_is (length words) (before_window p) p.window (behind_window p) parted.window long))

-- how many words stand up to the last part
all_counted : (profile : Profile) (adds : Bool) (words : List Word) (p : Parts) → ArePartedSo profile adds words p
    → length words ≡ before_position p + length (behind_window p)
all_counted profile adds words p parted =
    omega (
      arith,
      ap length parted.whole,
      length-append p.filter (behind_filter p),
      length-append (words_of (codes "sort") p.sort) (behind_sort p),
      length-append (words_of (codes "window") p.window) (behind_window p),
    )

abbrev found_after : ℕ → Result (Search × List Word) CommandRefusal → Result FindingCommand CommandRefusal
found_after total read = read >>= λ x. nothing_left total x.1 (commands.Find x.0)

found_end : (search : Result Search CommandRefusal) (total : ℕ) (p : Parts) → total ≡ before_rest p + length p.rest
    → found_after total (with_rest search p.rest) ≡ search >>= λ s. no_rest (before_rest p) p.rest (commands.Find s)
found_end (Err e) total p long = refl
found_end (Ok s) total p long = rest_is total (before_rest p) p.rest (commands.Find s) long

pub find_is : (profile : Profile) (case : Case) (words : List Word) (p : Parts) → has_search_count profile false words ≡ true
    → ArePartedSo profile false words p → find_of profile case words ≡ found_by profile case p
unfolding find_of
find_is profile case words p counts parted =
    let none : p.position ≡ None = parted.position in
    let last : behind_window p ≡ p.rest = ap (λ (o : Option Word). words_of (codes "position") o ++ p.rest) none in
    let nothing : length (words_of (codes "position") p.position) ≡ 0 =
    ap (λ (o : Option Word). length (words_of (codes "position") o)) none in
    let long : length words ≡ before_rest p + length p.rest =
    omega (arith, all_counted profile false words p parted, ap length last, nothing) in
    rw (counts, search_is profile false case words p parted, last) (found_end (search_of profile case p) (length words) p long)

abbrev added_after : ℕ → (List Word → Part Target) → Result (Search × List Word) CommandRefusal → Result FindingCommand CommandRefusal
added_after total next read = read >>= λ x. next x.1 >>= λ t. nothing_left total t.1 (commands.Add x.0 t.0)

added_end : (search : Result Search CommandRefusal) (to : Result (Option Target) CommandRefusal) (total : ℕ) (p : Parts)
    (next : List Word → Part Target) → next (behind_window p) ≡ with_rest to p.rest → total ≡ before_rest p + length p.rest
    → added_after total next (with_rest search (behind_window p))
    ≡ search >>= λ s. to >>= λ t. no_rest (before_rest p) p.rest (commands.Add s t)
added_end (Err e) to total p next is long = refl
added_end (Ok s) (Err e) total p next is long = rw is refl
added_end (Ok s) (Ok t) total p next is long = rw is (rest_is total (before_rest p) p.rest (commands.Add s t) long)

pub add_is : (profile : Profile) (case : Case) (words : List Word) (p : Parts) → has_search_count profile true words ≡ true
    → ArePartedSo profile true words p → find_add_of profile case words ≡ added_by profile case p
unfolding find_add_of
add_is profile case words p counts parted =
    let long : length words ≡ before_position p + length (behind_window p) = all_counted profile true words p parted in
    let whole : length words ≡ before_rest p + length p.rest =
    omega (arith, long, length-append (words_of (codes "position") p.position) p.rest) in
    rw (counts, search_is profile true case words p parted)
    (added_end (search_of profile case p) (optional (before_position p + 2) target_of p.position) (length words) p (position_part (length
    words))
    (position_is (length words) (before_position p) p.position p.rest parted.position long) whole)

-- ---- there is one parting

-- what is behind a part
abbrev after : Option Word → List Word → List Word
after None words = words
after (Some value) words = drop 2 words

after_is : (name : Word) (given : Option Word) (behind : List Word) → after given (words_of name given ++ behind) ≡ behind
after_is name None behind = refl
after_is name (Some value) behind = refl

abbrev sorted : List Word → List Word
sorted words = after (value_behind (codes "sort") words) words

abbrev windowed : List Word → List Word
windowed words = after (value_behind (codes "window") (sorted words)) (sorted words)

split_part : (name : Word) (words : List Word) → words ≡ words_of name (value_behind name words) ++ after (value_behind name words) words
split_part name [] = refl
split_part name (word ∷ []) = refl
split_part name (word ∷ value ∷ more) = by_cases (bytes_eq word name) refl
  where
    by_cases : (b : Bool) → bytes_eq word name ≡ b → (word ∷ value ∷ more) ≡ words_of name (cond b (Some value) None)
        ++ after (cond b (Some value) None) (word ∷ value ∷ more)
    by_cases true h = ap (λ (w : Word). w ∷ value ∷ more) (name_is word name h)
    by_cases false h = refl

next_part : (name : Word) (words : List Word) → IsNext name (value_behind name words) (after (value_behind name words) words)
next_part name [] = λ value more is. absurd (cc)
next_part name (word ∷ []) = λ value more is. absurd (cc)
next_part name (word ∷ value ∷ more) = by_cases (bytes_eq word name) refl
  where
    by_cases : (b : Bool) → bytes_eq word name ≡ b
        → IsNext name (cond b (Some value) None) (after (cond b (Some value) None) (word ∷ value ∷ more))
    by_cases true h = tt
    by_cases false h = λ other rest is.
        let same : word ≡ name = cc in
        let yes : bytes_eq word name ≡ true = (bytes_eq-Decides word name).1 same in
        absurd (cc)

-- the part that only a search that adds may have
abbrev position_of : Bool → List Word → Option Word
position_of adds words = cond adds (value_behind (codes "position") words) None

split_position : (adds : Bool) (words : List Word)
    → words ≡ words_of (codes "position") (position_of adds words) ++ after (position_of adds words) words
split_position true words = split_part (codes "position") words
split_position false words = refl

next_position : (adds : Bool) (words : List Word) → IsPosition adds (position_of adds words) (after (position_of adds words) words)
next_position true words = next_part (codes "position") words
next_position false words = refl

pairs_part : (adds : Bool) (words : List Word)
    → ArePairs adds (take (pairs_length adds words) words) × EndsPairs adds (drop (pairs_length adds words) words)
unfolding pairs_length
pairs_part adds [] = (tt, tt)
pairs_part adds (word ∷ []) = (tt, tt)
pairs_part adds (tag ∷ value ∷ words) = by_cases (begins_part adds tag) refl (pairs_part adds words)
  where
    by_cases : (b : Bool) → begins_part adds tag ≡ b
        → ArePairs adds (take (pairs_length adds words) words) × EndsPairs adds (drop (pairs_length adds words) words)
        → ArePairs adds (take (cond b 0 (2 + pairs_length adds words)) (tag ∷ value ∷ words))
        × EndsPairs adds (drop (cond b 0 (2 + pairs_length adds words)) (tag ∷ value ∷ words))
    by_cases true h rest = (tt, h)
    by_cases false h rest =
        let two : 2 + pairs_length adds words ≡ suc (suc (pairs_length adds words)) = omega arith in
        rw two ((h, rest.0), rest.1)

-- expressions and pairs, and what ends them
mixed_part : (adds : Bool) (words : List Word)
    → AreMixed adds (take (mixed_length (Some adds) words) words) × EndsMixed adds (drop (mixed_length (Some adds) words) words)
unfolding mixed_length
mixed_part adds [] = (tt, tt)
mixed_part adds (word ∷ []) = by_cases (begins_so opening word) refl
  where
    by_cases : (b : Bool) → begins_so opening word ≡ b
        → AreMixed adds (take (cond b 1 0) (word ∷ [])) × EndsMixed adds (drop (cond b 1 0) (word ∷ []))
    by_cases true h = (h, tt)
    by_cases false h = (tt, h)
mixed_part adds (word ∷ other ∷ words) =
    by_cases (begins_so opening word) refl (begins_part adds word) refl (mixed_part adds (other ∷ words)) (mixed_part adds words)
  where
    longer : (n : ℕ) → begins_so opening word ≡ true → AreMixed adds (take n (other ∷ words))
        → AreMixed adds (word ∷ take n (other ∷ words))
    longer zero h are = h
    longer (suc n) h are = inl (h, are)

    by_cases : (b : Bool) → begins_so opening word ≡ b → (e : Bool) → begins_part adds word ≡ e
        → AreMixed adds (take (mixed_length (Some adds) (other ∷ words)) (other ∷ words))
        × EndsMixed adds (drop (mixed_length (Some adds) (other ∷ words)) (other ∷ words))
        → AreMixed adds (take (mixed_length (Some adds) words) words) × EndsMixed adds (drop (mixed_length (Some adds) words) words)
        → AreMixed adds (take (cond b (1 + mixed_length (Some adds) (other ∷ words)) (cond e 0 (2 + mixed_length (Some adds) words)))
        (word ∷ other ∷ words))
        × EndsMixed adds (drop (cond b (1 + mixed_length (Some adds) (other ∷ words)) (cond e 0 (2 + mixed_length (Some adds) words)))
        (word ∷ other ∷ words))
    by_cases true h e k rest behind =
        let n = mixed_length (Some adds) (other ∷ words) in
        let one : 1 + n ≡ suc n = omega arith in
        rw one (longer n h rest.0, rest.1)
    by_cases false h true k rest behind = (tt, (h, k))
    by_cases false h false k rest behind =
        let two : 2 + mixed_length (Some adds) words ≡ suc (suc (mixed_length (Some adds) words)) = omega arith in
        rw two (inr (h, k, behind.0), behind.1)

-- the filter's words and what is behind them
abbrev IsNamedFilter : Bool → ℕ → List Word → Type 0
IsNamedFilter adds n words = IsExpression (take n words) ⊎ IsPairs adds (take n words) (drop n words)

abbrev IsWideFilter : Bool → ℕ → List Word → Type 0
IsWideFilter adds n words = IsMixed adds (take n words) (drop n words)

begun_parted : (adds : Bool) (words : List Word) → is_begun words ≡ true → IsWideFilter adds (filter_length Wide adds words) words
begun_parted adds [] begun = absurd (cc)
begun_parted adds (word ∷ []) begun = by_cases (begins_so opening word) refl begun
  where
    by_cases : (b : Bool) → begins_so opening word ≡ b → (b || false) ≡ true
        → IsWideFilter adds (cond b 1 2 + mixed_length (Some adds) (drop (cond b 1 2) (word ∷ []))) (word ∷ [])
    by_cases true h begun =
        let n = mixed_length (Some adds) [] in
        let one : 1 + n ≡ suc n = omega arith in
        let parts = mixed_part adds [] in
        rw one (record {
          first = word ∷ [];
          more = take n [];
          whole = refl;
          one = inl (word, refl, h);
          are_mixed = parts.0;
          ends = parts.1;
        })
    by_cases false h begun = absurd (cc)
begun_parted adds (tag ∷ value ∷ words) begun = by_cases (begins_so opening tag) refl
  where
    by_cases : (b : Bool) → begins_so opening tag ≡ b
        → IsWideFilter adds (cond b 1 2 + mixed_length (Some adds) (drop (cond b 1 2) (tag ∷ value ∷ words))) (tag ∷ value ∷ words)
    by_cases true h =
        let n = mixed_length (Some adds) (value ∷ words) in
        let one : 1 + n ≡ suc n = omega arith in
        let parts = mixed_part adds (value ∷ words) in
        rw one (record {
          first = tag ∷ [];
          more = take n (value ∷ words);
          whole = refl;
          one = inl (tag, refl, h);
          are_mixed = parts.0;
          ends = parts.1;
        })
    by_cases false h =
        let n = mixed_length (Some adds) words in
        let two : 2 + n ≡ suc (suc n) = omega arith in
        let parts = mixed_part adds words in
        rw two (record {
          first = tag ∷ value ∷ [];
          more = take n words;
          whole = refl;
          one = inr (tag, value, refl, h);
          are_mixed = parts.0;
          ends = parts.1;
        })

named_parted : (adds : Bool) (words : List Word) → named_search_count words ≡ true
    → IsNamedFilter adds (filter_length Named adds words) words
named_parted adds [] counts = absurd (cc)
named_parted adds (word ∷ []) counts = by_cases (begins_so opening word) refl counts
  where
    by_cases : (b : Bool) → begins_so opening word ≡ b → cond b true false ≡ true
        → IsNamedFilter adds (cond b 1 (2 + pairs_length adds [])) (word ∷ [])
    by_cases true h counts = inl (word, refl, h)
    by_cases false h counts = absurd (cc)
named_parted adds (tag ∷ value ∷ words) counts = by_cases (begins_so opening tag) refl
  where
    by_cases : (b : Bool) → begins_so opening tag ≡ b → IsNamedFilter adds (cond b 1 (2 + pairs_length adds words)) (tag ∷ value ∷ words)
    by_cases true h = inl (tag, refl, h)
    by_cases false h =
        let two : 2 + pairs_length adds words ≡ suc (suc (pairs_length adds words)) = omega arith in
        let parts = pairs_part adds words in
        rw two (inr (record {
          tag = tag;
          value = value;
          pairs = take (pairs_length adds words) words;
          whole = refl;
          bare = h;
          are_pairs = parts.0;
          ends = parts.1;
        }))

filter_parted : (profile : Profile) (adds : Bool) (words : List Word) → has_search_count profile adds words ≡ true
    → IsFilter profile adds (take (filter_length profile adds words) words) (drop (filter_length profile adds words) words)
filter_parted Named adds words counts = named_parted adds words counts
filter_parted Wide adds words counts =
    begun_parted adds words (and_parts (is_begun words) (is_even (length (drop (filter_length Wide adds words) words))) counts).0

abbrev parts_from : Bool → List Word → List Word → Parts
parts_from adds filter words =
    record {
      filter = filter;
      sort = value_behind (codes "sort") words;
      window = value_behind (codes "window") (sorted words);
      position = position_of adds (windowed words);
      rest = after (position_of adds (windowed words)) (windowed words);
    }

abbrev pub parts_of : Profile → Bool → List Word → Parts
parts_of profile adds words =
    parts_from adds (take (filter_length profile adds words) words) (drop (filter_length profile adds words) words)

-- the words behind the filter are those of the parts
pub behind_is : (adds : Bool) (filter words : List Word) → words ≡ behind_filter (parts_from adds filter words)
behind_is adds filter words =
    split_part (codes "sort") words
    ∙ ap (λ (ws : List Word). words_of (codes "sort") (value_behind (codes "sort") words) ++ ws) (split_part (codes "window") (sorted words)
    ∙ ap (λ (ws : List Word). words_of (codes "window") (value_behind (codes "window") (sorted words)) ++ ws) (split_position adds
    (windowed words)))

pub parted_so : (profile : Profile) (adds : Bool) (words : List Word) → has_search_count profile adds words ≡ true
    → ArePartedSo profile adds words (parts_of profile adds words)
parted_so profile adds words counts =
    let n = filter_length profile adds words in
    let filtered = drop (filter_length profile adds words) words in
    let is : filtered ≡ behind_filter (parts_of profile adds words) = behind_is adds (take n words) filtered in
    record {
      whole = sym (take-append-drop n words) ∙ ap (λ (ws : List Word). take n words ++ ws) is;
      filter = subst (IsFilter profile adds (take n words)) is (filter_parted profile adds words counts);
      sort = subst (IsNext (codes "sort") (value_behind (codes "sort") filtered)) (split_part (codes "window") (sorted filtered)
          ∙ ap (λ (ws : List Word). words_of (codes "window") (value_behind (codes "window") (sorted filtered)) ++ ws) (split_position adds
          (windowed filtered))) (next_part (codes "sort") filtered);
      window = subst (IsNext (codes "window") (value_behind (codes "window") (sorted filtered))) (split_position adds (windowed filtered))
          (next_part (codes "window") (sorted filtered));
      position = next_position adds (windowed filtered);
    }

position_once : (adds : Bool) (given : Option Word) (rest : List Word) → IsPosition adds given rest
    → position_of adds (words_of (codes "position") given ++ rest) ≡ given
position_once true given rest next = value_is (codes "position") given rest next
position_once false given rest none = sym none

from_parts : (profile : Profile) (adds : Bool) (words : List Word) (p : Parts) → ArePartedSo profile adds words p
    → parts_from adds p.filter (behind_filter p) ≡ p
from_parts profile adds words p parted =
    let sort : value_behind (codes "sort") (behind_filter p) ≡ p.sort = value_is (codes "sort") p.sort (behind_sort p) parted.sort in
    let window : value_behind (codes "window") (behind_sort p) ≡ p.window =
    value_is (codes "window") p.window (behind_window p) parted.window in
    let position : position_of adds (behind_window p) ≡ p.position = position_once adds p.position p.rest parted.position in
    rw (
      sort,
      after_is (codes "sort") p.sort (behind_sort p),
      window,
      after_is (codes "window") p.window (behind_window p),
      position,
      after_is (codes "position") p.position p.rest,
    ) refl

pub parted_once : (profile : Profile) (adds : Bool) (words : List Word) (p : Parts) → ArePartedSo profile adds words p
    → parts_of profile adds words ≡ p
parted_once profile adds words p parted =
    let counted : filter_length profile adds words ≡ length p.filter =
    ap (filter_length profile adds) parted.whole ∙ filter_counted profile adds p.filter (behind_filter p) parted.filter in
    let front : take (filter_length profile adds words) words ≡ p.filter =
    ap (λ n. take n words) counted ∙ ap (take (length p.filter)) parted.whole ∙ take_front p.filter (behind_filter p) in
    let back : drop (filter_length profile adds words) words ≡ behind_filter p =
    ap (λ n. drop n words) counted ∙ ap (drop (length p.filter)) parted.whole ∙ drop_front p.filter (behind_filter p) in
    ap (λ (ws : List Word). parts_from adds ws (drop (filter_length profile adds words) words)) front ∙ ap (parts_from adds p.filter) back
    ∙ from_parts profile adds words p parted
