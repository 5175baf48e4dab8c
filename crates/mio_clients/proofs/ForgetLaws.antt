-- Events without the requests of one client.
use Rattle.std.proofs.Common.{◌≡◌, ◌≢◌, ℕ, zero, suc, ◌==◌, ◌≤◌, List, [], ◌∷◌, ◌++◌, Bool, true, false, cond, length, take, drop, refl, sym, subst, ◌∙◌, ap, append_assoc, arith}
use Rattle.std.proofs.lemmas.Bool.{ne_eqb, eqb-true, eqb-false}
use Rattle.command_text.specs.declared.request.Request.{Request}
use Rattle.mio_clients.specs.declared.event.ClientEvent.{ClientEvent}
use Rattle.mio_clients.specs.declared.event.ClientEvent.TheVariants as events
use Rattle.mio_clients.specs.Events.{asked_by_event, asked_in, is_request_of, without}
use Rattle.mio_clients.specs.Waiting.{IsQuiet, QuietBehind}

own_request : (c n : ℕ) (r : Request) (rest : List ClientEvent) (t : Bool) → (n == c) ≡ t → asked_in c rest ≡ []
    → asked_in c (cond t [] (events.Request n r ∷ []) ++ rest) ≡ []
own_request c n r rest true e none = none
own_request c n r rest false e none = ap (λ (t : Bool). cond t (r ∷ []) [] ++ asked_in c rest) e ∙ none

own_sought : (c n : ℕ) (r : Request) (rest : List ClientEvent) (t : Bool) → (n == c) ≡ t → asked_in c rest ≡ []
    → asked_in c (cond t [] (events.Seeking n r ∷ []) ++ rest) ≡ []
own_sought c n r rest true e none = none
own_sought c n r rest false e none = ap (λ (t : Bool). cond t (r ∷ []) [] ++ asked_in c rest) e ∙ none

-- a client whose requests were let go of asks for nothing
pub asked_without_own : (c : ℕ) (es : List ClientEvent) → asked_in c (without c es) ≡ []
asked_without_own c [] = refl
asked_without_own c (events.Connect n ∷ es) = asked_without_own c es
asked_without_own c (events.Request n r ∷ es) = own_request c n r (without c es) (n == c) refl (asked_without_own c es)
asked_without_own c (events.Seeking n r ∷ es) = own_sought c n r (without c es) (n == c) refl (asked_without_own c es)
asked_without_own c (events.Picture n told ∷ es) = asked_without_own c es
asked_without_own c (events.Gone n ∷ es) = asked_without_own c es

other_request : (c d n : ℕ) (r : Request) (rest es : List ClientEvent) (t : Bool) → (n == c) ≡ t → c ≢ d
    → asked_in d rest ≡ asked_in d es
    → asked_in d (cond t [] (events.Request n r ∷ []) ++ rest) ≡ asked_by_event d (events.Request n r) ++ asked_in d es
other_request c d n r rest es true e ne same =
    let is : n ≡ c = eqb-true n c e in
    let none : (n == d) ≡ false = ne_eqb n d (λ h. ne (sym is ∙ h)) in
    same ∙ sym (ap (λ (t : Bool). cond t (r ∷ []) [] ++ asked_in d es) none)
other_request c d n r rest es false e ne same = ap (λ t. asked_by_event d (events.Request n r) ++ t) same

other_sought : (c d n : ℕ) (r : Request) (rest es : List ClientEvent) (t : Bool) → (n == c) ≡ t → c ≢ d
    → asked_in d rest ≡ asked_in d es
    → asked_in d (cond t [] (events.Seeking n r ∷ []) ++ rest) ≡ asked_by_event d (events.Seeking n r) ++ asked_in d es
other_sought c d n r rest es true e ne same =
    let is : n ≡ c = eqb-true n c e in
    let none : (n == d) ≡ false = ne_eqb n d (λ h. ne (sym is ∙ h)) in
    same ∙ sym (ap (λ (t : Bool). cond t (r ∷ []) [] ++ asked_in d es) none)
other_sought c d n r rest es false e ne same = ap (λ t. asked_by_event d (events.Seeking n r) ++ t) same

-- the others ask for what they did
pub asked_without : (c d : ℕ) (es : List ClientEvent) → c ≢ d → asked_in d (without c es) ≡ asked_in d es
asked_without c d [] ne = refl
asked_without c d (events.Connect n ∷ es) ne = asked_without c d es ne
asked_without c d (events.Request n r ∷ es) ne =
    other_request c d n r (without c es) es (n == c) refl ne (asked_without c d es ne)
asked_without c d (events.Seeking n r ∷ es) ne =
    other_sought c d n r (without c es) es (n == c) refl ne (asked_without c d es ne)
asked_without c d (events.Picture n told ∷ es) ne = asked_without c d es ne
asked_without c d (events.Gone n ∷ es) ne = asked_without c d es ne

none_but : (c d : ℕ) (es : List ClientEvent) (t : Bool) → (c == d) ≡ t → asked_in d es ≡ [] → asked_in d (without c es) ≡ []
none_but c d es true e none = subst (λ (n : ℕ). asked_in n (without c es) ≡ []) (eqb-true c d e) (asked_without_own c es)
none_but c d es false e none = asked_without c d es (eqb-false c d e) ∙ none

-- whoever asked for nothing does so still
pub none_without : (c d : ℕ) (es : List ClientEvent) → asked_in d es ≡ [] → asked_in d (without c es) ≡ []
none_without c d es none = none_but c d es (c == d) refl none

quiet_more : (waits : Bool) (n : ℕ) (es : List ClientEvent) → QuietBehind waits n es → QuietBehind waits (suc n) es
quiet_more waits n [] h = tt
quiet_more waits zero (e ∷ es) h = h.1
quiet_more waits (suc n) (e ∷ es) h = quiet_more waits n es h

quiet_request : (waits : Bool) (n : ℕ) (e : ClientEvent) (rest : List ClientEvent) (t : Bool) → QuietBehind waits n rest
    → QuietBehind waits (suc n) (cond t [] (e ∷ []) ++ rest)
quiet_request waits n e rest true h = quiet_more waits n rest h
quiet_request waits n e rest false h = h

quiet_one : (waits : Bool) (e : ClientEvent) (rest : List ClientEvent) (t : Bool) → IsQuiet waits e → QuietBehind waits zero rest
    → QuietBehind waits zero (cond t [] (e ∷ []) ++ rest)
quiet_one waits e rest true quiet h = h
quiet_one waits e rest false quiet h = (quiet, h)

-- what asked for nothing does so still
pub quiet_without : (waits : Bool) (c n : ℕ) (es : List ClientEvent) → QuietBehind waits n es → QuietBehind waits n (without c es)
quiet_without waits c n [] h = tt
quiet_without waits c zero (events.Connect m ∷ es) h = (tt, quiet_without waits c zero es h.1)
quiet_without waits c zero (events.Request m r ∷ es) h = absurd h.0
quiet_without waits c zero (events.Seeking m r ∷ es) h =
    quiet_one waits (events.Seeking m r) (without c es) (m == c) h.0 (quiet_without waits c zero es h.1)
quiet_without waits c zero (events.Picture m told ∷ es) h = (tt, quiet_without waits c zero es h.1)
quiet_without waits c zero (events.Gone m ∷ es) h = (tt, quiet_without waits c zero es h.1)
quiet_without waits c (suc n) (events.Connect m ∷ es) h = quiet_without waits c n es h
quiet_without waits c (suc n) (events.Request m r ∷ es) h =
    quiet_request waits n (events.Request m r) (without c es) (m == c) (quiet_without waits c n es h)
quiet_without waits c (suc n) (events.Seeking m r ∷ es) h =
    quiet_request waits n (events.Seeking m r) (without c es) (m == c) (quiet_without waits c n es h)
quiet_without waits c (suc n) (events.Picture m told ∷ es) h = quiet_without waits c n es h
quiet_without waits c (suc n) (events.Gone m ∷ es) h = quiet_without waits c n es h

pub drop_more : (n : ℕ) (es : List ClientEvent) (e : ClientEvent) → n ≤ length es → drop n (es ++ e ∷ []) ≡ drop n es ++ e ∷ []
drop_more zero es e within = refl
drop_more (suc n) [] e within = absurd (omega (arith, within))
drop_more (suc n) (x ∷ es) e within = drop_more n es e (omega (arith, within))

pub take_more : (n : ℕ) (es : List ClientEvent) (e : ClientEvent) → n ≤ length es → take n (es ++ e ∷ []) ≡ take n es
take_more zero es e within = refl
take_more (suc n) [] e within = absurd (omega (arith, within))
take_more (suc n) (x ∷ es) e within = ap (λ t. x ∷ t) (take_more n es e (omega (arith, within)))

looked_at : (c n : ℕ) (e : ClientEvent) (rest whole : List ClientEvent) (t : Bool) → is_request_of c e ≡ t
    → drop n rest ++ without c (e ∷ take n rest) ≡ whole → drop n rest ++ (cond t [] (e ∷ []) ++ without c (take n rest)) ≡ whole
looked_at c n e rest whole t is p =
    ap (λ (b : Bool). drop n rest ++ (cond b [] (e ∷ []) ++ without c (take n rest))) (sym is) ∙ p

-- a request of the client is let go of
pub turned_away : (c k n : ℕ) (e : ClientEvent) (es rest whole : List ClientEvent) → k ≡ suc n → es ≡ e ∷ rest → is_request_of c e ≡ true
    → drop k es ++ without c (take k es) ≡ whole → drop n rest ++ without c (take n rest) ≡ whole
turned_away c k n e es rest whole count front is p =
    looked_at c n e rest whole true is
    (subst (λ (t : List ClientEvent). drop (suc n) t ++ without c (take (suc n) t) ≡ whole) front
    (subst (λ (m : ℕ). drop m es ++ without c (take m es) ≡ whole) count p))

-- any other event goes to the end
pub turned_over : (c k n : ℕ) (e : ClientEvent) (es rest after whole : List ClientEvent) → k ≡ suc n → es ≡ e ∷ rest
    → is_request_of c e ≡ false → n ≤ length rest → after ≡ rest ++ e ∷ [] → drop k es ++ without c (take k es) ≡ whole
    → drop n after ++ without c (take n after) ≡ whole
turned_over c k n e es rest after whole count front is within last p =
    let front_is = looked_at c n e rest whole false is
    (subst (λ (t : List ClientEvent). drop (suc n) t ++ without c (take (suc n) t) ≡ whole) front
    (subst (λ (m : ℕ). drop m es ++ without c (take m es) ≡ whole) count p)) in
    ap (λ t. drop n t ++ without c (take n t)) last
    ∙ (ap (λ t. t ++ without c (take n (rest ++ e ∷ []))) (drop_more n rest e within)
    ∙ (ap (λ t. (drop n rest ++ e ∷ []) ++ without c t) (take_more n rest e within)
    ∙ (append_assoc (drop n rest) (e ∷ []) (without c (take n rest)) ∙ front_is)))
