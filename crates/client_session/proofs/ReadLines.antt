-- Lines are read in one way, and that is how they are taken one by one.
use Rattle.std.proofs.Common.{◌≡◌, ◌≢◌, ◌⊎◌, inl, inr, ℕ, ◌+◌, ◌<◌, ◌≤◌, Bool, true, false, cond, List, [], ◌∷◌, ◌++◌, length}
use Rattle.std.proofs.Common.{Option, Some, None, refl, sym, ap, ◌∙◌, subst, arith, append_assoc, length-append}
use Rattle.std.specs.List.{concat, AllByRecursion}
use Rattle.std.specs.Option.{option_to_list}
use Rattle.std.proofs.lemmas.Bool.{le-leb, lt-ltb, and_from}
use Rattle.std.proofs.lemmas.List.{append-nil}
use Rattle.std.proofs.lemmas.List.Folds.{concat-append}
use Rattle.command_text.specs.declared.control.ControlLine.{ControlLine}
use Rattle.command_text.specs.declared.control.ControlLine.TheVariants.{ListBegin, OkListBegin, ListEnd, Noidle}
use Rattle.command_text.specs.declared.request.Request.{Request}
use Rattle.command_text.specs.declared.request.Request.TheVariants as requests
use Rattle.command_text.specs.Control.{control_of_line}
use Rattle.client_session.specs.declared.listing.Listing.{Listing}
use Rattle.client_session.specs.declared.listing.Listing.TheVariants.{Outside, Inside, Overlong}
use Rattle.client_session.specs.Lists.{command_limit, list_limit, has_room, list_of, begun, alone, ends_list, after_line, made_whole, IsList}
use Rattle.client_session.specs.Reading.{Begins, Ends, AreCommands, IsLineOf, IsOpened, IsAsked, IsOfLines, AreAsked, IsLeft, AreRead}
use Rattle.client_session.specs.Lines.{taken_lines}
use Rattle.client_session.specs.Requests.{after_lines, brought, requests_in, requests_of}
use Rattle.client_session.proofs.ListLaws.{one_more}

-- ---- lines taken one by one

-- the requests of lines and what stands behind them
abbrev run : Listing → List (List ℕ) → List Request × Listing
run listing lines = (requests_in listing lines, after_lines listing lines)

-- a request in front
abbrev behind : Request → List Request × Listing → List Request × Listing
behind request later = (request ∷ later.0, later.1)

step_none : (listing next : Listing) (line : List ℕ) (lines : List (List ℕ)) → made_whole listing line ≡ None
    → after_line listing line ≡ next → run listing (line ∷ lines) ≡ run next lines
step_none listing next line lines none is = rw (none, is) refl

step_some : (listing next : Listing) (line : List ℕ) (request : Request) (lines : List (List ℕ)) → made_whole listing line ≡ Some request
    → after_line listing line ≡ next → run listing (line ∷ lines) ≡ behind request (run next lines)
step_some listing next line request lines some is = rw (some, is) refl

-- nothing comes of what stands behind a list that is too long
lost : (lines : List (List ℕ)) → run Overlong lines ≡ ([], Overlong)
lost [] = refl
lost (line ∷ lines) = lost lines

-- ---- room in a list

no_commands : IsList []
no_commands = record { count = omega arith; bytes = omega arith }

concat_is : (lines : List (List ℕ)) (line : List ℕ) (more : List (List ℕ))
    → length (concat (lines ++ line ∷ more)) ≡ length (concat lines) + (length line + length (concat more))
concat_is lines line more = omega (
  arith,
  ap length (concat-append lines (line ∷ more)),
  length-append (concat lines) (concat (line ∷ more)),
  length-append line (concat more),
)

room : (lines : List (List ℕ)) (line : List ℕ) (more : List (List ℕ)) → IsList (lines ++ line ∷ more) → has_room lines line ≡ true
room lines line more within =
    let count : length lines < command_limit = omega (arith, within.count, length-append lines (line ∷ more)) in
    let bytes : length (concat lines) + length line ≤ list_limit = omega (arith, within.bytes, concat_is lines line more) in
    and_from _ _ (lt-ltb (length lines) command_limit count) (le-leb (length (concat lines) + length line) list_limit bytes)

no_room : (lines : List (List ℕ)) (line : List ℕ) → has_room lines line ≡ false → IsList (lines ++ line ∷ []) → ⊥
no_room lines line full within = let has : has_room lines line ≡ true = room lines line [] within in absurd (cc)

-- ---- a line that ends a list, or doesn't

goes_on : (o : Option ControlLine) → o ≢ Some ListEnd → ends_list o ≡ false
goes_on None other = refl
goes_on (Some ListBegin) other = refl
goes_on (Some OkListBegin) other = refl
goes_on (Some ListEnd) other = absurd (other refl)
goes_on (Some Noidle) other = refl

is_other : (o : Option ControlLine) → ends_list o ≡ false → o ≢ Some ListEnd
is_other o h is = let ended : ends_list o ≡ true = ap ends_list is in absurd (cc)

is_end : (o : Option ControlLine) → ends_list o ≡ true → o ≡ Some ListEnd
is_end None h = absurd (cc)
is_end (Some ListBegin) h = absurd (cc)
is_end (Some OkListBegin) h = absurd (cc)
is_end (Some ListEnd) h = refl
is_end (Some Noidle) h = absurd (cc)

command_whole : (separated : Bool) (prior : List (List ℕ)) (line : List ℕ) → ends_list (control_of_line line) ≡ false
    → made_whole (Inside separated prior) line ≡ None
command_whole separated prior line other = rw other refl

command_taken : (separated : Bool) (prior : List (List ℕ)) (line : List ℕ) → ends_list (control_of_line line) ≡ false
    → has_room prior line ≡ true → after_line (Inside separated prior) line ≡ Inside separated (prior ++ line ∷ [])
command_taken separated prior line other has = rw (other, has) refl

command_lost : (separated : Bool) (prior : List (List ℕ)) (line : List ℕ) → ends_list (control_of_line line) ≡ false
    → has_room prior line ≡ false → after_line (Inside separated prior) line ≡ Overlong
command_lost separated prior line other full = rw (other, full) refl

-- ---- commands of a list

commands_pass : (separated : Bool) (prior commands more : List (List ℕ)) → AreCommands commands → IsList (prior ++ commands)
    → run (Inside separated prior) (commands ++ more) ≡ run (Inside separated (prior ++ commands)) more
commands_pass separated prior [] more each within = ap (λ (ls : List (List ℕ)). run (Inside separated ls) more) (sym (append-nil prior))
commands_pass separated prior (line ∷ commands) more each within =
    let other : ends_list (control_of_line line) ≡ false = goes_on (control_of_line line) each.0 in
    let joined : (prior ++ line ∷ []) ++ commands ≡ prior ++ line ∷ commands = append_assoc prior (line ∷ []) commands in
    step_none (Inside separated prior) (Inside separated (prior ++ line ∷ [])) line (commands ++ more)
    (command_whole separated prior line other) (command_taken separated prior line other (room prior line commands within))
    ∙ commands_pass separated (prior ++ line ∷ []) commands more each.1 (subst IsList (sym joined) within)
    ∙ ap (λ (ls : List (List ℕ)). run (Inside separated ls) more) joined

too_many : (separated : Bool) (prior commands more : List (List ℕ)) → IsList prior → AreCommands commands
    → (IsList (prior ++ commands) → ⊥) → run (Inside separated prior) (commands ++ more) ≡ ([], Overlong)
too_many separated prior [] more within each over = absurd (over (subst IsList (sym (append-nil prior)) within))
too_many separated prior (line ∷ commands) more within each over =
    by_cases (has_room prior line) refl (too_many separated (prior ++ line ∷ []) commands more)
  where
    other : ends_list (control_of_line line) ≡ false
    other = goes_on (control_of_line line) each.0

    joined : (prior ++ line ∷ []) ++ commands ≡ prior ++ line ∷ commands
    joined = append_assoc prior (line ∷ []) commands

    by_cases : (b : Bool) → has_room prior line ≡ b
        → (IsList (prior ++ line ∷ []) → AreCommands commands → (IsList ((prior ++ line ∷ []) ++ commands) → ⊥)
        → run (Inside separated (prior ++ line ∷ [])) (commands ++ more) ≡ ([], Overlong))
        → run (Inside separated prior) (line ∷ (commands ++ more)) ≡ ([], Overlong)
    by_cases true has rest = step_none (Inside separated prior) (Inside separated (prior ++ line ∷ [])) line (commands ++ more)
        (command_whole separated prior line other) (command_taken separated prior line other has)
        ∙ rest (one_more prior line has) each.1 (λ all. over (subst IsList joined all))
    by_cases false full rest = step_none (Inside separated prior) Overlong line (commands ++ more)
        (command_whole separated prior line other) (command_lost separated prior line other full) ∙ lost (commands ++ more)

begin_step : (separated : Bool) (begin : List ℕ) (lines : List (List ℕ)) → Begins separated begin
    → run Outside (begin ∷ lines) ≡ run (Inside separated []) lines
begin_step false begin lines is = rw is refl
begin_step true begin lines is = rw is refl

opened_run : (separated : Bool) (commands front more : List (List ℕ)) → IsOpened separated commands front → IsList commands
    → run Outside (front ++ more) ≡ run (Inside separated commands) more
opened_run separated commands front more opened within =
    ap (λ (ls : List (List ℕ)). run Outside (ls ++ more)) opened.whole
    ∙ begin_step separated opened.begin (commands ++ more) opened.begins
    ∙ commands_pass separated [] commands more opened.each within

-- ---- requests

alone_is : (o : Option ControlLine) (line : List ℕ) (request : Request) → ((request ≡ requests.Noidle) × (o ≡ Some Noidle))
    ⊎ ((request ≡ requests.Single line) × (o ≢ Some Noidle) × (o ≢ Some ListBegin) × (o ≢ Some OkListBegin))
    → (alone line o ≡ Some request) × (begun o ≡ Outside)
alone_is o line request (inl is) = rw (is.1, is.0) (refl, refl)
alone_is None line request (inr is) = (ap Some (sym is.0), refl)
alone_is (Some ListBegin) line request (inr is) = absurd (is.2 refl)
alone_is (Some OkListBegin) line request (inr is) = absurd (is.3 refl)
alone_is (Some ListEnd) line request (inr is) = (ap Some (sym is.0), refl)
alone_is (Some Noidle) line request (inr is) = absurd (is.1 refl)

end_run : (separated : Bool) (commands : List (List ℕ)) (end : List ℕ) (more : List (List ℕ)) → Ends end
    → run (Inside separated commands) (end ∷ more) ≡ behind (list_of separated commands) (run Outside more)
end_run separated commands end more is = rw is refl

asked_run : (request : Request) (own more : List (List ℕ)) → IsAsked request own
    → run Outside (own ++ more) ≡ behind request (run Outside more)
asked_run request own more (inl one) =
    let is = alone_is (control_of_line one.0) one.0 request one.2 in
    ap (λ (ls : List (List ℕ)). run Outside (ls ++ more)) one.1 ∙ step_some Outside Outside one.0 request more is.0 is.1
asked_run request own more (inr list) =
    ap (λ (ls : List (List ℕ)). run Outside (ls ++ more)) list.whole
    ∙ ap (run Outside) (append_assoc list.front (list.end ∷ []) more)
    ∙ opened_run list.separated list.commands list.front (list.end ∷ more) list.opened list.within
    ∙ end_run list.separated list.commands list.end more list.ends
    ∙ ap (λ r. behind r (run Outside more)) (sym list.asked)

-- requests in front
abbrev all_behind : List Request → List Request × Listing → List Request × Listing
all_behind asked later = (asked ++ later.0, later.1)

all_run : (asked : List Request) (front rest : List (List ℕ)) → AreAsked asked front
    → run Outside (front ++ rest) ≡ all_behind asked (run Outside rest)
all_run [] front rest is = ap (λ (ls : List (List ℕ)). run Outside (ls ++ rest)) is
all_run (request ∷ asked) front rest is =
    ap (λ (ls : List (List ℕ)). run Outside (ls ++ rest)) is.2 ∙ ap (run Outside) (append_assoc is.0 is.1 rest)
    ∙ asked_run request is.0 (is.1 ++ rest) is.3 ∙ ap (behind request) (all_run asked is.1 rest is.4)

left_run : (left : Listing) (rest : List (List ℕ)) → IsLeft left rest → run Outside rest ≡ ([], left)
left_run Outside rest is = ap (run Outside) is
left_run (Inside separated commands) rest is =
    ap (run Outside) (sym (append-nil rest)) ∙ opened_run separated commands rest [] is.0 is.1
left_run Overlong rest is =
    let opened : IsOpened is.0 is.1 is.2 = is.4 in
    ap (run Outside) is.5 ∙ ap (λ (ls : List (List ℕ)). run Outside (ls ++ is.3)) opened.whole
    ∙ begin_step is.0 opened.begin (is.1 ++ is.3) opened.begins
    ∙ too_many is.0 [] is.1 is.3 no_commands opened.each is.6

pub read_once : (lines : List (List ℕ)) (asked : List Request) (left : Listing) → AreRead lines asked left
    → (asked ≡ requests_in Outside lines) × (left ≡ after_lines Outside lines)
read_once lines asked left is =
    let same : run Outside lines ≡ all_behind asked ([], left) =
    ap (run Outside) is.2 ∙ all_run asked is.0 is.1 is.3 ∙ ap (all_behind asked) (left_run left is.1 is.4) in (
      sym (ap (λ p. p.0) same ∙ append-nil asked),
      sym (ap (λ p. p.1) same),
    )

-- ---- there is such a reading

first_asked : (request : Request) (own lines : List (List ℕ)) (asked : List Request) (left : Listing) → IsAsked request own
    → AreRead lines asked left → AreRead (own ++ lines) (request ∷ asked) left
first_asked request own lines asked left is read = (
  own ++ read.0,
  read.1,
  ap (λ (ls : List (List ℕ)). own ++ ls) read.2 ∙ sym (append_assoc own read.0 read.1),
  (own, read.0, refl, is, read.3),
  read.4,
)

one_line : (request : Request) (line : List ℕ) → IsLineOf request line → IsAsked request (line ∷ [])
one_line request line is = inl (line, refl, is)

longer : (separated : Bool) (prior front : List (List ℕ)) (line : List ℕ) → IsOpened separated prior front
    → control_of_line line ≢ Some ListEnd → IsOpened separated (prior ++ line ∷ []) (front ++ line ∷ [])
longer separated prior front line opened other = record {
  begin = opened.begin;
  whole = ap (λ (ls : List (List ℕ)). ls ++ line ∷ []) opened.whole;
  begins = opened.begins;
  each = also prior opened.each;
}
  where
    also : (lines : List (List ℕ)) → AreCommands lines → AreCommands (lines ++ line ∷ [])
    also [] each = (other, tt)
    also (l ∷ lines) each = (each.0, also lines each.1)

abbrev ReadsOutside : List (List ℕ) → Type 0
ReadsOutside lines = AreRead lines (requests_in Outside lines) (after_lines Outside lines)

abbrev ReadsInside : List (List ℕ) → Type 0
ReadsInside lines = (separated : Bool) (prior front : List (List ℕ)) → IsOpened separated prior front → IsList prior
    → AreRead (front ++ lines) (requests_in (Inside separated prior) lines) (after_lines (Inside separated prior) lines)

outside_line : (line : List ℕ) (lines : List (List ℕ)) → ReadsOutside lines → ReadsInside lines → ReadsOutside (line ∷ lines)
outside_line line lines outside inside = by_cases (control_of_line line) refl
  where
    single : (o : Option ControlLine) → control_of_line line ≡ o → o ≢ Some Noidle → o ≢ Some ListBegin → o ≢ Some OkListBegin
        → AreRead (line ∷ lines) (requests.Single line ∷ requests_in Outside lines) (after_lines Outside lines)
    single o h a b c = first_asked (requests.Single line) (line ∷ []) lines (requests_in Outside lines) (after_lines Outside lines)
        (one_line (requests.Single line) line (inr (refl, (λ e. a (sym h ∙ e)), (λ e. b (sym h ∙ e)), (λ e. c (sym h ∙ e))))) outside

    begins : (separated : Bool) → Begins separated line
        → AreRead (line ∷ lines) (requests_in (Inside separated []) lines) (after_lines (Inside separated []) lines)
    begins separated is = inside separated [] (line ∷ []) (record { begin = line; whole = refl; begins = is; each = tt }) no_commands

    by_cases : (o : Option ControlLine) → control_of_line line ≡ o
        → AreRead (line ∷ lines) (option_to_list (alone line o) ++ requests_in (begun o) lines) (after_lines (begun o) lines)
    by_cases None h = single None h (λ e. absurd (cc)) (λ e. absurd (cc)) (λ e. absurd (cc))
    by_cases (Some ListBegin) h = begins false h
    by_cases (Some OkListBegin) h = begins true h
    by_cases (Some ListEnd) h = single (Some ListEnd) h (λ e. absurd (cc)) (λ e. absurd (cc)) (λ e. absurd (cc))
    by_cases (Some Noidle) h = first_asked requests.Noidle (line ∷ []) lines (requests_in Outside lines) (after_lines Outside lines)
        (one_line requests.Noidle line (inl (refl, h))) outside

inside_line : (line : List ℕ) (lines : List (List ℕ)) → ReadsOutside lines → ReadsInside lines → ReadsInside (line ∷ lines)
inside_line line lines outside inside separated prior front opened within =
    by_end (ends_list (control_of_line line)) refl
  where
    joined : (front ++ line ∷ []) ++ lines ≡ front ++ line ∷ lines
    joined = append_assoc front (line ∷ []) lines

    by_room : (b : Bool) → has_room prior line ≡ b → control_of_line line ≢ Some ListEnd
        → AreRead (front ++ line ∷ lines) (requests_in (cond b (Inside separated (prior ++ line ∷ [])) Overlong) lines)
        (after_lines (cond b (Inside separated (prior ++ line ∷ [])) Overlong) lines)
    by_room true has other = subst (λ (ls : List (List ℕ)). AreRead ls (requests_in (Inside separated (prior ++ line ∷ [])) lines)
        (after_lines (Inside separated (prior ++ line ∷ [])) lines)) joined
        (inside separated (prior ++ line ∷ []) (front ++ line ∷ []) (longer separated prior front line opened other) (one_more prior
        line has))
    by_room false full other =
        let left : IsLeft Overlong (front ++ line ∷ lines) = (
          separated,
          prior ++ line ∷ [],
          front ++ line ∷ [],
          lines,
          longer separated prior front line opened other,
          sym joined,
          no_room prior line full,
        ) in
        subst (λ (p : List Request × Listing). AreRead (front ++ line ∷ lines) p.0 p.1) (sym (lost lines))
        ([], front ++ line ∷ lines, refl, refl, left)

    by_end : (b : Bool) → ends_list (control_of_line line) ≡ b
        → AreRead (front ++ line ∷ lines) (option_to_list (cond b (Some (list_of separated prior)) None) ++ requests_in (cond b Outside
        (cond (has_room prior line) (Inside separated (prior ++ line ∷ [])) Overlong)) lines) (after_lines (cond b Outside (cond
        (has_room prior line) (Inside separated (prior ++ line ∷ [])) Overlong)) lines)
    by_end true h = subst (λ (ls : List (List ℕ)). AreRead ls (list_of separated prior ∷ requests_in Outside lines) (after_lines Outside
        lines)) joined
        (first_asked (list_of separated prior) (front ++ line ∷ []) lines (requests_in Outside lines) (after_lines Outside lines) (inr
        (record {
          separated = separated;
          commands = prior;
          front = front;
          end = line;
          opened = opened;
          whole = refl;
          ends = is_end (control_of_line line) h;
          within = within;
          asked = refl;
        })) outside)
    by_end false h = by_room (has_room prior line) refl (is_other (control_of_line line) h)

both_read : (lines : List (List ℕ)) → ReadsOutside lines × ReadsInside lines
both_read [] = (([], [], refl, refl, refl), none_more)
  where
    none_more : ReadsInside []
    none_more separated prior front opened within =
        ([], front ++ [], refl, refl, (subst (IsOpened separated prior) (sym (append-nil front)) opened, within))
both_read (line ∷ lines) =
    let later = both_read lines in
    (outside_line line lines later.0 later.1, inside_line line lines later.0 later.1)

pub are_read : (lines : List (List ℕ)) → AreRead lines (requests_in Outside lines) (after_lines Outside lines)
are_read lines = (both_read lines).0

-- ---- what each request of a stream is

of_line : (request : Request) (line : List ℕ) → IsLineOf request line → IsOfLines request
of_line request line (inl (is, named)) = subst IsOfLines (sym is) tt
of_line request line (inr (is, not_noidle, no_begin, no_ok_begin)) = subst IsOfLines (sym is) (not_noidle, no_begin, no_ok_begin)

of_list : (separated : Bool) (commands : List (List ℕ)) → AreCommands commands → IsList commands → IsOfLines (list_of separated commands)
of_list false commands each within = (each, within)
of_list true commands each within = (each, within)

of_lines : (request : Request) (lines : List (List ℕ)) → IsAsked request lines → IsOfLines request
of_lines request lines (inl (line, only, is)) = of_line request line is
of_lines request lines (inr whole) =
    subst IsOfLines (sym whole.asked) (of_list whole.separated whole.commands whole.opened.each whole.within)

each_of_lines : (asked : List Request) (lines : List (List ℕ)) → AreAsked asked lines → AllByRecursion IsOfLines asked
each_of_lines [] lines none = tt
each_of_lines (request ∷ asked) lines (own, more, parts, first, others) = (of_lines request own first, each_of_lines asked more others)

asked_of_lines : (asked : List Request) (lines : List (List ℕ)) (left : Listing) → AreRead lines asked left → AllByRecursion IsOfLines asked
asked_of_lines asked lines left (front, rest, parts, read, remains) = each_of_lines asked front read

pub stream_of_lines : (stream : List ℕ) → AllByRecursion IsOfLines (requests_of stream)
unfolding brought
stream_of_lines stream =
    asked_of_lines (requests_in Outside (taken_lines stream)) (taken_lines stream) (after_lines Outside (taken_lines stream))
    (are_read (taken_lines stream))
