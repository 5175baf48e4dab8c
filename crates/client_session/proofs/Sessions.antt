-- What keeps a session a session.
use Rattle.std.proofs.Common.{◌≡◌, ℕ, List, [], drop, take, ◌++◌, append_assoc, ◌∙◌, Option, None, Some, refl, sym, ap, subst}
use Rattle.std.specs.Io.KnownBytes.{Appends, Keeps, append_known}
use Rattle.std.proofs.lemmas.List.{take-append-drop, append-nil}
use Rattle.client_session.specs.Lines.{IsUnended}
use Rattle.client_session.specs.Requests.{unread}
use Rattle.client_session.specs.Session.{IsSession}
use Rattle.client_session.specs.declared.listing.Listing.TheVariants.{Outside}
use Rattle.client_session.specs.declared.refusal.SessionError.{SessionError}

-- one that holds nothing, closed or not
pub holds_nothing : (pending queued : List ℕ) (closed : Option SessionError) → pending ≡ [] → queued ≡ []
    → IsSession (record { left = unread Outside pending; queued = queued; closed = closed })
holds_nothing pending queued closed e f = record {
  unended = subst IsUnended (sym e) tt;
  within = tt;
  spent = λ _. (ap (unread Outside) e, f);
}

-- what a stream took and what is still queued are what they were
pub sent_in_order : (old new : Option (List ℕ)) (queued : List ℕ) (n : ℕ) → Appends old new (take n queued)
    → Keeps (append_known old queued) (append_known new (drop n queued))
sent_in_order None new queued n h = tt
sent_in_order (Some xs) None queued n h = h
sent_in_order (Some xs) (Some ys) queued n h =
    ap (λ (t : List ℕ). t ++ drop n queued) h ∙ append_assoc xs (take n queued) (drop n queued)
    ∙ ap (λ (t : List ℕ). xs ++ t) (take-append-drop n queued)

-- nothing was sent
pub kept_in_order : (known : Option (List ℕ)) (queued : List ℕ) → Keeps (append_known known queued) (append_known known queued)
kept_in_order None queued = tt
kept_in_order (Some xs) queued = refl

pub appends_nothing : (known : Option (List ℕ)) → Appends known known []
appends_nothing None = tt
appends_nothing (Some xs) = sym (append-nil xs)
