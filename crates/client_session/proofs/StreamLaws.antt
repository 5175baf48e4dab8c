-- The laws of a stream's lines and requests.
use Rattle.std.proofs.Common.{◌≡◌, ◌≢◌, ℕ, ◌+◌, ◌<◌, ◌≤◌, ⊎_elim, List, [], ◌∷◌, ◌++◌, length, refl, sym, ◌∙◌, ap, subst, arith}
use Rattle.std.proofs.Common.{append_assoc, length-append, length-drop}
use Rattle.std.specs.List.{AllByRecursion, flat_map, concat}
use Rattle.std.proofs.lemmas.List.{append-nil, append_cancel_left, take-append-le}
use Rattle.std.proofs.Common.{Bool, true, false, cond, nat_lt, Some, None}
use Rattle.std.specs.Option.{option_to_list}
use Rattle.std.proofs.lemmas.Bool.{cases_lt, lt-ltb}
use Rattle.command_text.specs.declared.request.Request.{Request}
use Rattle.client_session.specs.declared.listing.Listing.{Listing}
use Rattle.client_session.specs.declared.listing.Listing.TheVariants.{Outside, Inside, Overlong}
use Rattle.client_session.specs.declared.refusal.SessionError.TheVariants.{LineTooLong}
use Rattle.client_session.specs.Lines.{newline, line_limit, ended, taken_lines, HasNoNewline, IsLine, IsUnended}
use Rattle.client_session.specs.Lists.{after_line, made_whole, IsWithinLimits}
use Rattle.client_session.specs.Session.{IsHeld}
use Rattle.client_session.specs.Requests.{after_lines, requests_in, rest_of, Unread, unread, nothing, brought, left_by, left_of}
use Rattle.client_session.specs.Requests.{requests_of}
use Rattle.client_session.specs.Requests.{fault_at, fault_behind, Continues, requests_in_pieces, IsParted}
use Rattle.client_session.proofs.Streams.{taken_lines-line, stream_is, each_taken, taken_behind, rest_behind, taken_lines-append}
use Rattle.client_session.proofs.Streams.{rest_of-append}
use Rattle.client_session.proofs.Steps.{brought-unended, left_by-unended}

requests_in-append : (listing : Listing) (lines more : List (List ℕ))
    → requests_in listing (lines ++ more) ≡ requests_in listing lines ++ requests_in (after_lines listing lines) more
requests_in-append listing [] more = refl
requests_in-append listing (line ∷ lines) more =
    let first = option_to_list (made_whole listing line) in
    ap (λ (t : List Request). first ++ t) (requests_in-append (after_line listing line) lines more)
    ∙ sym (append_assoc first (requests_in (after_line listing line) lines)
    (requests_in (after_lines (after_line listing line) lines) more))

after_lines-append : (listing : Listing) (lines more : List (List ℕ))
    → after_lines listing (lines ++ more) ≡ after_lines (after_lines listing lines) more
after_lines-append listing [] more = refl
after_lines-append listing (line ∷ lines) more = after_lines-append (after_line listing line) lines more

lines-append : (pending piece more : List ℕ)
    → taken_lines (pending ++ (piece ++ more)) ≡ taken_lines (pending ++ piece) ++ taken_lines (rest_of (pending ++ piece) ++ more)
lines-append pending piece more = ap taken_lines (sym (append_assoc pending piece more)) ∙ taken_lines-append (pending ++ piece) more

-- two pieces bring what they bring one after the other
pub brought-append : (left : Unread) (piece more : List ℕ)
    → brought left (piece ++ more) ≡ brought left piece ++ brought (left_by left piece) more
unfolding brought left_by
brought-append left piece more =
    ap (requests_in left.listing) (lines-append left.pending piece more)
    ∙ requests_in-append left.listing (taken_lines (left.pending ++ piece)) (taken_lines (rest_of (left.pending ++ piece) ++ more))

pub left_by-append : (left : Unread) (piece more : List ℕ) → left_by left (piece ++ more) ≡ left_by (left_by left piece) more
unfolding left_by
left_by-append left piece more =
    let lines = taken_lines (left.pending ++ piece) in
    let behind = taken_lines (rest_of (left.pending ++ piece) ++ more) in
    let all = ap (after_lines left.listing) (lines-append left.pending piece more) ∙ after_lines-append left.listing lines behind in
    let rest = ap rest_of (sym (append_assoc left.pending piece more)) ∙ rest_of-append (left.pending ++ piece) more in
    ap (λ (l : Listing). unread l (rest_of (left.pending ++ (piece ++ more)))) all
    ∙ ap (unread (after_lines (after_lines left.listing lines) behind)) rest

pub continues : (left : Unread) (piece : List ℕ) (requests : List Request) (next : Unread)
    → requests ≡ brought left piece → next ≡ left_by left piece → Continues left piece requests next
continues left piece requests next e f = record {
  brings = λ before is. brought-append nothing before piece
      ∙ ap (λ (t : Unread). requests_of before ++ brought t piece) is ∙ ap (λ (t : List Request). requests_of before ++ t) (sym e);
  leaves = λ before is. left_by-append nothing before piece ∙ ap (λ (t : Unread). left_by t piece) is ∙ sym f;
}

pieces_behind : (before : List ℕ) (pieces : List (List ℕ))
    → requests_of before ++ requests_in_pieces (left_of before) pieces ≡ requests_of (before ++ concat pieces)
pieces_behind before [] = append-nil (requests_of before) ∙ ap requests_of (sym (append-nil before))
pieces_behind before (piece ∷ pieces) =
    let next = brought (left_of before) piece in
    let later = requests_in_pieces (left_by (left_of before) piece) pieces in
    sym (append_assoc (requests_of before) next later)
    ∙ ap (λ (t : List Request). t ++ later) (sym (brought-append nothing before piece))
    ∙ ap (λ (t : Unread). requests_of (before ++ piece) ++ requests_in_pieces t pieces) (sym (left_by-append nothing before piece))
    ∙ pieces_behind (before ++ piece) pieces
    ∙ ap requests_of (append_assoc before piece (concat pieces))

pub requests_of-nil : requests_of [] ≡ []
unfolding brought
requests_of-nil = refl

pub left_of-nil : left_of [] ≡ nothing
unfolding left_by rest_of
left_of-nil = refl

pub in_pieces : (pieces : List (List ℕ)) → requests_in_pieces nothing pieces ≡ requests_of (concat pieces)
in_pieces pieces =
    ap (λ (t : Unread). requests_in_pieces t pieces) (sym left_of-nil)
    ∙ ap (λ (t : List Request). t ++ requests_in_pieces (left_of []) pieces) (sym requests_of-nil)
    ∙ pieces_behind [] pieces

-- the rest has no line to be taken
rest_has_none : (s : List ℕ) → taken_lines (rest_of s) ≡ []
rest_has_none s =
    let lines = taken_lines s in
    let e : lines ++ [] ≡ lines ++ taken_lines (rest_of s) =
    append-nil lines ∙ ap taken_lines (stream_is s) ∙ taken_behind lines (rest_of s) (each_taken s) in
    sym (append_cancel_left lines [] (taken_lines (rest_of s)) e)

pub parted : (s : List ℕ) → IsParted s (taken_lines s) (rest_of s)
parted s = record {
  whole = stream_is s;
  each = each_taken s;
  partial = λ line more is e.
      let found : line ∷ taken_lines more ≡ [] =
      sym (ap taken_lines (e ∙ append_assoc line (newline ∷ []) more) ∙ taken_lines-line line more is) ∙ rest_has_none s in
      absurd (cc);
}

begins_with_none : (rest : List ℕ) (lines : List (List ℕ)) (more : List ℕ)
    → ((line more : List ℕ) → IsLine line → rest ≢ ended line ++ more) → AllByRecursion IsLine lines → rest ≡ flat_map ended lines ++ more
    → lines ≡ []
begins_with_none rest [] more never each e = refl
begins_with_none rest (line ∷ lines) more never each e =
    absurd (never line (flat_map ended lines ++ more) each.0 (e ∙ append_assoc (ended line) (flat_map ended lines) more))

pub parted_once : (s : List ℕ) (lines : List (List ℕ)) (rest : List ℕ) → IsParted s lines rest
    → (lines ≡ taken_lines s) × (rest ≡ rest_of s)
parted_once s lines rest p =
    let none : taken_lines rest ≡ [] =
    begins_with_none rest (taken_lines rest) (rest_of rest) p.partial (each_taken rest) (stream_is rest) in
    let all : taken_lines s ≡ lines = ap taken_lines p.whole ∙ taken_behind lines rest p.each ∙ ap (λ (t : List (List ℕ)). lines ++ t) none
    ∙ append-nil lines in
    let left : rest_of s ≡ rest = ap rest_of p.whole ∙ rest_behind lines rest p.each
    ∙ sym (stream_is rest ∙ ap (λ (t : List (List ℕ)). flat_map ended t ++ rest_of rest) none) in
    (sym all, sym left)

rest_is_within : (s : List ℕ) → length (rest_of s) ≤ length s
unfolding rest_of
rest_is_within s = omega (arith, length-drop (length (flat_map ended (taken_lines s))) s)

-- behind an overlong line nothing comes, and it is refused
overlong : (listing : Listing) (pending piece : List ℕ) → IsUnended pending → line_limit < length pending
    → fault_at (unread listing pending) piece ≡ fault_behind listing (length (pending ++ piece))
unfolding fault_at
overlong listing pending piece h long =
    let le : line_limit + 1 ≤ length pending = omega (arith, long) in
    let u : IsUnended (pending ++ piece) = subst HasNoNewline (sym (take-append-le (line_limit + 1) pending piece le)) h in
    rw (brought-unended listing pending piece u, left_by-unended listing pending piece u) refl

some_fault : (long : Bool) → long ≡ true → cond long (Some LineTooLong) None ≡ None → ⊥
some_fault true is e = cc
some_fault false is e = cc

fault_stands : (listing : Listing) (n : ℕ) → line_limit < n → fault_behind listing n ≡ None → ⊥
fault_stands Outside n long none = some_fault (nat_lt line_limit n) (lt-ltb line_limit n long) none
fault_stands (Inside separated lines) n long none = some_fault (nat_lt line_limit n) (lt-ltb line_limit n long) none
fault_stands Overlong n long none = cc

-- what is held of a line, where no fault was met
pub held : (listing : Listing) (pending piece : List ℕ) → IsUnended pending → fault_at (unread listing pending) piece ≡ None
    → length (rest_of (pending ++ piece)) ≤ line_limit + length piece
held listing pending piece h none =
    ⊎_elim
    (λ (long : line_limit < length pending).
    let longer : line_limit < length (pending ++ piece) = omega (arith, long, length-append pending piece) in
    absurd (fault_stands listing (length (pending ++ piece)) longer (sym (overlong listing pending piece h long) ∙ none)))
    (λ (le : length pending ≤ line_limit). omega (arith, rest_is_within (pending ++ piece), length-append pending piece))
    (cases_lt line_limit (length pending))

pub holds : (listing next : Listing) (pending left piece : List ℕ) → IsUnended pending → IsWithinLimits next
    → unread next left ≡ left_by (unread listing pending) piece → fault_at (unread listing pending) piece ≡ None
    → IsHeld (unread next left) piece
unfolding left_by
holds listing next pending left piece unended within same none = record {
  listing = within;
  pending = omega (arith, ap (λ (u : Unread). length u.pending) same, held listing pending piece unended none);
}
