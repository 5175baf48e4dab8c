-- What the loop over a piece needs of the requests and what is left.
use Rattle.std.proofs.Common.{◌≡◌, ℕ, ◌+◌, ◌-◌, ◌<◌, ◌≤◌, List, [], ◌∷◌, ◌++◌, length, take, drop, get_or, refl, sym, ◌∙◌, ap, subst, arith}
use Rattle.std.proofs.Common.{append_assoc, length-append, Bool, true, false, cond, nat_lt, Option, Some, None, Result, Err}
use Rattle.std.specs.List.{flat_map}
use Rattle.std.specs.Option.{option_to_list}
use Rattle.std.proofs.lemmas.List.{take_all, take-append-drop, drop_more, length-take-le, append-nil}
use Rattle.command_text.specs.declared.request.Request.{Request}
use Rattle.client_session.specs.declared.listing.Listing.{Listing}
use Rattle.client_session.specs.declared.listing.Listing.TheVariants.{Outside, Inside, Overlong}
use Rattle.client_session.specs.declared.refusal.SessionError.{SessionError}
use Rattle.client_session.specs.declared.refusal.SessionError.TheVariants.{NoMemory, LineTooLong, ListTooLong, OutputTooLong}
use Rattle.client_session.specs.Lines.{newline, line_limit, ended, taken_lines, HasNoNewline, IsLine, IsUnended, IsLineEnd}
use Rattle.client_session.specs.Lists.{after_line, made_whole}
use Rattle.client_session.specs.Requests.{after_lines, requests_in, rest_of, Unread, unread, brought, left_by, fault_behind}
use Rattle.client_session.specs.Requests.{fault_before, fault_at, Meets}
use Rattle.client_session.proofs.Newlines.{HasNoNewline-append, IsUnended-append}
use Rattle.client_session.proofs.Streams.{taken_lines-line, taken_lines-unended, rest_behind}

rest_of-line : (line more : List ℕ) → IsLine line → rest_of (line ++ newline ∷ more) ≡ rest_of more
rest_of-line line more is =
    ap rest_of (sym (append_assoc line (newline ∷ []) more) ∙ ap (λ (t : List ℕ). t ++ more) (sym (append-nil (ended line))))
    ∙ rest_behind (line ∷ []) more (is, tt)

pub rest_of-unended : (xs : List ℕ) → IsUnended xs → rest_of xs ≡ xs
unfolding rest_of
rest_of-unended xs h = ap (λ (t : List (List ℕ)). drop (length (flat_map ended t)) xs) (taken_lines-unended xs h)

-- the line that ends at place k of the rest
line_at : (pending rest : List ℕ) (k : ℕ) → IsUnended pending → IsLineEnd (length pending) rest k → IsLine (pending ++ take k rest)
line_at pending rest k p at =
    let short : length pending ≤ line_limit + 1 = omega (arith, at.short) in
    let within : k ≤ length rest = omega (arith, at.within) in
    record {
      one = HasNoNewline-append pending (take k rest) (subst HasNoNewline (take_all (line_limit + 1) pending short) p) at.one;
      short = omega (arith, at.short, length-append pending (take k rest), length-take-le k rest within);
    }

split_at : (pending rest : List ℕ) (k : ℕ) → k < length rest → get_or rest k 0 ≡ newline
    → pending ++ rest ≡ (pending ++ take k rest) ++ newline ∷ drop (k + 1) rest
split_at pending rest k lt e =
    let tail = drop_more rest k 0 lt ∙ ap (λ (b : ℕ). b ∷ drop (k + 1) rest) e in
    ap (λ (t : List ℕ). pending ++ t) (sym (take-append-drop k rest) ∙ ap (λ (t : List ℕ). take k rest ++ t) tail)
    ∙ sym (append_assoc pending (take k rest) (newline ∷ drop (k + 1) rest))

lines_step : (pending rest : List ℕ) (k : ℕ) → IsUnended pending → IsLineEnd (length pending) rest k
    → taken_lines (pending ++ rest) ≡ (pending ++ take k rest) ∷ taken_lines (drop (k + 1) rest)
lines_step pending rest k p at =
    ap taken_lines (split_at pending rest k at.within at.ends)
    ∙ taken_lines-line (pending ++ take k rest) (drop (k + 1) rest) (line_at pending rest k p at)

rest_step : (pending rest : List ℕ) (k : ℕ) → IsUnended pending → IsLineEnd (length pending) rest k
    → rest_of (pending ++ rest) ≡ rest_of (drop (k + 1) rest)
rest_step pending rest k p at =
    ap rest_of (split_at pending rest k at.within at.ends)
    ∙ rest_of-line (pending ++ take k rest) (drop (k + 1) rest) (line_at pending rest k p at)

brought_step : (listing : Listing) (pending rest : List ℕ) (k : ℕ) → IsUnended pending → IsLineEnd (length pending) rest k
    → brought (unread listing pending) rest ≡ option_to_list (made_whole listing (pending ++ take k rest))
    ++ brought (unread (after_line listing (pending ++ take k rest)) []) (drop (k + 1) rest)
unfolding brought
brought_step listing pending rest k p at = ap (requests_in listing) (lines_step pending rest k p at)

left_step : (listing : Listing) (pending rest : List ℕ) (k : ℕ) → IsUnended pending → IsLineEnd (length pending) rest k
    → left_by (unread listing pending) rest ≡ left_by (unread (after_line listing (pending ++ take k rest)) []) (drop (k + 1) rest)
unfolding left_by
left_step listing pending rest k p at =
    ap (λ (lines : List (List ℕ)). unread (after_lines listing lines) (rest_of (pending ++ rest))) (lines_step pending rest k p at)
    ∙ ap (unread (after_lines (after_line listing (pending ++ take k rest)) (taken_lines (drop (k + 1) rest))))
    (rest_step pending rest k p at)

-- how far a piece behind what was left is cut: these requests so far, this list, these bytes of a line, and the rest of the piece
pub record IsCut (left : Unread) (piece : List ℕ) (asked : List Request) (listing : Listing) (pending rest : List ℕ) : Type 0 where
  pub unended : IsUnended pending
  pub requests : asked ++ brought (unread listing pending) rest ≡ brought left piece
  pub behind : left_by (unread listing pending) rest ≡ left_by left piece

pub cut_step : (left : Unread) (piece : List ℕ) (asked : List Request) (listing : Listing) (pending rest : List ℕ) (k : ℕ)
    → IsCut left piece asked listing pending rest → IsLineEnd (length pending) rest k
    → IsCut left piece (asked ++ option_to_list (made_whole listing (pending ++ take k rest)))
    (after_line listing (pending ++ take k rest)) [] (drop (k + 1) rest)
cut_step left piece asked listing pending rest k c at =
    let line = pending ++ take k rest in
    let more = brought (unread (after_line listing line) []) (drop (k + 1) rest) in
    record {
      unended = tt;
      requests = append_assoc asked (option_to_list (made_whole listing line)) more
          ∙ ap (λ (t : List Request). asked ++ t) (sym (brought_step listing pending rest k c.unended at)) ∙ c.requests;
      behind = sym (left_step listing pending rest k c.unended at) ∙ c.behind;
    }

-- the piece is cut to its end
pub record IsCutUp (left : Unread) (piece : List ℕ) (asked : List Request) (listing : Listing) (pending : List ℕ) : Type 0 where
  pub unended : IsUnended pending
  pub requests : asked ≡ brought left piece
  pub behind : unread listing pending ≡ left_by left piece

pub brought-unended : (listing : Listing) (pending rest : List ℕ) → IsUnended (pending ++ rest) → brought (unread listing pending) rest ≡ []
unfolding brought
brought-unended listing pending rest h = ap (requests_in listing) (taken_lines-unended (pending ++ rest) h)

pub left_by-unended : (listing : Listing) (pending rest : List ℕ) → IsUnended (pending ++ rest)
    → left_by (unread listing pending) rest ≡ unread listing (pending ++ rest)
unfolding left_by
left_by-unended listing pending rest h =
    ap (λ (lines : List (List ℕ)). unread (after_lines listing lines) (rest_of (pending ++ rest))) (taken_lines-unended (pending ++ rest) h)
    ∙ ap (unread listing) (rest_of-unended (pending ++ rest) h)

pub cut_end : (left : Unread) (piece : List ℕ) (asked : List Request) (listing : Listing) (pending rest : List ℕ) (n : ℕ)
    → n ≡ length pending → IsCut left piece asked listing pending rest → HasNoNewline (take (line_limit + 1 - n) rest)
    → IsCutUp left piece asked listing (pending ++ rest)
cut_end left piece asked listing pending rest n e c h =
    let u = IsUnended-append pending rest c.unended (subst (λ (m : ℕ). HasNoNewline (take (line_limit + 1 - m) rest)) e h) in
    record {
      unended = u;
      requests = sym (append-nil asked) ∙ ap (λ (t : List Request). asked ++ t) (sym (brought-unended listing pending rest u)) ∙ c.requests;
      behind = sym (left_by-unended listing pending rest u) ∙ c.behind;
    }

-- where no request came, the fault is that of what is left
pub fault_met : (left : Unread) (piece : List ℕ) (asked : List Request) (listing : Listing) (pending : List ℕ)
    → IsCutUp left piece asked listing pending → asked ≡ [] → fault_at left piece ≡ fault_behind listing (length pending)
unfolding fault_at
fault_met left piece asked listing pending up none = rw (← up.requests, none, ← up.behind) refl

no_fault_before : (asked : List Request) (left : Unread) → (asked ≡ [] → ⊥) → fault_before asked left ≡ None
no_fault_before [] left some = absurd (some refl)
no_fault_before (request ∷ asked) left some = refl

-- a request comes before any fault
pub no_fault : (left : Unread) (piece : List ℕ) (asked : List Request) (listing : Listing) (pending : List ℕ)
    → IsCutUp left piece asked listing pending → (asked ≡ [] → ⊥) → fault_at left piece ≡ None
unfolding fault_at
no_fault left piece asked listing pending up some =
    subst (λ (t : List Request). fault_before t (left_by left piece) ≡ None) up.requests (no_fault_before asked (left_by left piece) some)

never_output : (long : Bool) → cond long (Some LineTooLong) None ≡ Some OutputTooLong → ⊥
never_output true e = cc
never_output false e = cc

no_output_fault : (listing : Listing) (n : ℕ) → fault_behind listing n ≡ Some OutputTooLong → ⊥
no_output_fault Outside n e = never_output (nat_lt line_limit n) e
no_output_fault (Inside separated lines) n e = never_output (nat_lt line_limit n) e
no_output_fault Overlong n e = cc

-- the fault that was met is the answer
pub meets_fault : {A : Type 0} (fault : Option SessionError) (listing : Listing) (n : ℕ) (e : SessionError) (r : Result A SessionError)
    → fault ≡ fault_behind listing n → fault_behind listing n ≡ Some e → r ≡ Err e → Meets fault r
meets_fault fault listing n NoMemory r same is answer = subst (Meets fault) (sym answer) tt
meets_fault fault listing n LineTooLong r same is answer = subst (Meets fault) (sym answer) (same ∙ is)
meets_fault fault listing n ListTooLong r same is answer = subst (Meets fault) (sym answer) (same ∙ is)
meets_fault fault listing n OutputTooLong r same is answer = absurd (no_output_fault listing n is)
