-- Events that ask for nothing stay behind the others.
use Rattle.std.proofs.Common.{◌≡◌, ℕ, zero, suc, List, [], ◌∷◌, ◌++◌, Option, Some, None, Bool, true, false, cond}
use Rattle.std.proofs.Common.{refl, sym, subst, ◌∙◌, ap, length, drop, ◌+◌, ◌<◌, ◌≤◌, ◌||◌, arith, is_some}
use Rattle.std.specs.Prelude.{get_or}
use Rattle.std.proofs.lemmas.List.{at_drop_all, drop_more}
use Rattle.mio_clients.specs.declared.client.Client.{Client}
use Rattle.mio_clients.specs.declared.event.ClientEvent.{ClientEvent}
use Rattle.mio_clients.specs.declared.event.ClientEvent.TheVariants as events
use Rattle.mio_clients.specs.Events.{asked_by_event, asked_in, has_request_of, is_request_of}
use Rattle.mio_clients.specs.Seeking.{sought_by_event, sought_in}
use Rattle.mio_clients.specs.Waiting.{IsQuiet, QuietBehind, StaysQuiet, TakesFirst}
use Rattle.mio_clients.specs.Connections.{IsToldGone}
use Rattle.mio_clients.specs.Parts.{waiting_in}

pub quiet_itself : (es : List ClientEvent) → StaysQuiet es es
quiet_itself es = λ waits n h. h

pub quiet_same : (es fs : List ClientEvent) → fs ≡ es → StaysQuiet es fs
quiet_same es fs same = λ waits n h. subst (λ (t : List ClientEvent). QuietBehind waits n t) (sym same) h

pub quiet_twice : (es fs gs : List ClientEvent) → StaysQuiet es fs → StaysQuiet fs gs → StaysQuiet es gs
quiet_twice es fs gs p q = λ waits n h. q waits n (p waits n h)

pub quiet_end : (waits : Bool) (n : ℕ) (es : List ClientEvent) (e : ClientEvent) → IsQuiet waits e → QuietBehind waits n es
    → QuietBehind waits n (es ++ e ∷ [])
quiet_end waits zero [] e none h = (none, tt)
quiet_end waits (suc n) [] e none h = tt
quiet_end waits zero (f ∷ es) e none h = (h.0, quiet_end waits zero es e none h.1)
quiet_end waits (suc n) (f ∷ es) e none h = quiet_end waits n es e none h

quiet_gone : (released : Bool) (id : ℕ) (es fs : List ClientEvent) → fs ≡ cond released es (es ++ events.Gone id ∷ []) → StaysQuiet es fs
quiet_gone true id es fs told = quiet_same es fs told
quiet_gone false id es fs told =
    λ waits n h. subst (λ (t : List ClientEvent). QuietBehind waits n t) (sym told) (quiet_end waits n es (events.Gone id) tt h)

pub quiet_told : {S : Type 0} (slot : Option (Client S)) (es fs : List ClientEvent) → IsToldGone slot es fs → StaysQuiet es fs
quiet_told None es fs told = quiet_same es fs told
quiet_told (Some client) es fs told = quiet_gone client.is_released client.id es fs told

-- what isn't to be served is sought, or asks for nothing
quiet_sought : (e : ClientEvent) (c : ℕ) → IsQuiet true e → asked_by_event c e ≡ sought_by_event c e
quiet_sought (events.Connect client) c h = refl
quiet_sought (events.Request client request) c h = absurd h
quiet_sought (events.Seeking client request) c h = refl
quiet_sought (events.Picture client told) c h = refl
quiet_sought (events.Gone client) c h = refl

sought_all : (es : List ClientEvent) → QuietBehind true zero es → (c : ℕ) → asked_in c es ≡ sought_in c es
sought_all [] h c = refl
sought_all (e ∷ es) h c = (λ i. quiet_sought e c h.0 i ++ sought_all es h.1 c i)

quiet_asks : (e : ClientEvent) (c : ℕ) → IsQuiet false e → asked_by_event c e ≡ []
quiet_asks (events.Connect client) c h = refl
quiet_asks (events.Request client request) c h = absurd h
quiet_asks (events.Seeking client request) c h = absurd (cc h)
quiet_asks (events.Picture client told) c h = refl
quiet_asks (events.Gone client) c h = refl

asks_none : (es : List ClientEvent) → QuietBehind false zero es → (c : ℕ) → asked_in c es ≡ []
asks_none [] h c = refl
asks_none (e ∷ es) h c = (λ i. quiet_asks e c h.0 i ++ asks_none es h.1 c i)

-- none but those that may wait
pub quiet_none : (bound : Option ℕ) (es : List ClientEvent) → QuietBehind (is_some bound) zero es → (c : ℕ) → asked_in c es ≡ waiting_in bound c es
quiet_none None es h c = asks_none es h c
quiet_none (Some most) es h c = sought_all es h c

pub takes_none : (es fs : List ClientEvent) → fs ≡ [] → TakesFirst es fs
takes_none es fs none = λ waits n h. subst (λ (t : List ClientEvent). QuietBehind waits n t) (sym none) tt

pub takes_first : (es fs gs : List ClientEvent) (e : ClientEvent) → es ≡ e ∷ fs → StaysQuiet fs gs → TakesFirst es gs
takes_first es fs gs e popped q = λ waits n h. q waits n (subst (λ (t : List ClientEvent). QuietBehind waits (suc n) t) popped h)

-- one event less is left
pub takes_one : (waits : Bool) (k m : ℕ) (es fs : List ClientEvent) → k ≡ m + 1 → TakesFirst es fs → QuietBehind waits k es
    → QuietBehind waits m fs
takes_one waits zero m es fs e q h = absurd (omega (arith, e))
takes_one waits (suc n) m es fs e q h =
    let same : n ≡ m = omega (arith, e) in
    q waits m (subst (λ (t : ℕ). QuietBehind waits (suc t) es) same h)

-- the requests of a client among events, from a place on
pub has_at : (c k : ℕ) (es : List ClientEvent) (e : ClientEvent) → k < length es → e ≡ get_or es k e
    → has_request_of c (drop k es) ≡ (is_request_of c e || has_request_of c (drop (k + 1) es))
has_at c k es e there is =
    ap (λ (l : List ClientEvent). has_request_of c l)
    (drop_more es k e there ∙ ap (λ (x : ClientEvent). x ∷ drop (k + 1) es) (sym is))

pub has_end : (c k : ℕ) (es : List ClientEvent) → length es ≤ k → has_request_of c (drop k es) ≡ false
has_end c k es behind = at_drop_all (λ (l : List ClientEvent). has_request_of c l) es k behind
