-- Requests that wait for a picture are put behind the others.
use Rattle.std.proofs.Common.{◌≡◌, ◌⊎◌, inl, inr, ℕ, zero, suc, ◌+◌, ◌<◌, ◌≤◌, ◌==◌, List, [], ◌∷◌, ◌++◌, length, take, drop, Bool, true, false, cond, ◌||◌}
use Rattle.std.proofs.Common.{refl, sym, subst, ◌∙◌, ap, append_assoc, length-append, arith}
use Rattle.std.specs.List.{AllByRecursion}
use Rattle.std.proofs.lemmas.Bool.{eqb-true}
use Rattle.std.specs.Prelude.{get_or}
use Rattle.std.proofs.lemmas.List.{append-nil, take_more as take_one}
use Rattle.std.proofs.lemmas.List.Folds.{list_any-append}
use Rattle.command_text.specs.declared.request.Request.{Request}
use Rattle.mio_clients.specs.declared.event.ClientEvent.{ClientEvent}
use Rattle.mio_clients.specs.declared.event.ClientEvent.TheVariants as events
use Rattle.mio_clients.specs.Events.{asked_by_event, asked_in, has_request_of, is_request_of, AsksNothing}
use Rattle.mio_clients.specs.Seeking.{held_with, is_held, may_ask, IsLed, IsUnsought}
use Rattle.mio_clients.specs.Waiting.{is_to_serve, IsQuiet, QuietBehind}
use Rattle.mio_clients.proofs.ForgetLaws.{drop_more, take_more}
use Rattle.mio_clients.proofs.RoundLaws.{last_asked, none_asked, none_has}
use Rattle.mio_clients.proofs.WaitingLaws.{quiet_end}

-- ---- events that are looked at in turn: those that are left stand in front, and what was looked at behind them

-- what a client asked for by what was looked at, by what was taken out of it, and by what is left
abbrev pub IsWhole : ℕ → List Request → ℕ → List ClientEvent → List ClientEvent → Type 0
IsWhole c whole left es behind = asked_in c (drop left es) ++ (asked_in c behind ++ asked_in c (take left es)) ≡ whole

-- the first of those that are left
first_left : (c k n : ℕ) (e : ClientEvent) (es rest behind : List ClientEvent) (whole : List Request) → k ≡ suc n → es ≡ e ∷ rest
    → IsWhole c whole k es behind
    → asked_in c (drop n rest) ++ (asked_in c behind ++ (asked_by_event c e ++ asked_in c (take n rest))) ≡ whole
first_left c k n e es rest behind whole count front is =
    subst (λ (t : List ClientEvent). IsWhole c whole (suc n) t behind) front (subst (λ (m : ℕ). IsWhole c whole m es behind) count is)

-- one that nobody asks for anything by is taken out, and let go of
pub looked_by : (c k n : ℕ) (e : ClientEvent) (es rest behind : List ClientEvent) (whole : List Request) → k ≡ suc n → es ≡ e ∷ rest
    → asked_by_event c e ≡ [] → IsWhole c whole k es behind → IsWhole c whole n rest behind
looked_by c k n e es rest behind whole count front none is =
    ap (λ (t : List Request). asked_in c (drop n rest) ++ (asked_in c behind ++ (t ++ asked_in c (take n rest)))) (sym none)
    ∙ first_left c k n e es rest behind whole count front is

-- what was taken out has nothing of the client, or the event is of another one
after_others : (mine taken left : List Request) → (mine ≡ []) ⊎ (taken ≡ []) → mine ++ (taken ++ left) ≡ taken ++ (mine ++ left)
after_others mine taken left (inl none) = ap (λ (t : List Request). t ++ (taken ++ left)) none ∙ ap (λ (t : List Request). taken ++ (t ++ left)) (sym none)
after_others mine taken left (inr none) = ap (λ (t : List Request). mine ++ (t ++ left)) none ∙ ap (λ (t : List Request). t ++ (mine ++ left)) (sym none)

-- one is put to the end, or another that asks for the same
pub looked_on : (c k n : ℕ) (e put : ClientEvent) (es rest after behind : List ClientEvent) (whole : List Request) → k ≡ suc n → es ≡ e ∷ rest
    → n ≤ length rest → after ≡ rest ++ put ∷ [] → asked_by_event c put ≡ asked_by_event c e
    → (asked_by_event c e ≡ []) ⊎ (asked_in c behind ≡ []) → IsWhole c whole k es behind → IsWhole c whole n after behind
looked_on c k n e put es rest after behind whole count front within last same apart is =
    let looked : asked_in c (drop n after) ≡ asked_in c (drop n rest) ++ asked_by_event c e =
    ap (λ (t : List ClientEvent). asked_in c (drop n t)) last ∙ ap (asked_in c) (drop_more n rest put within)
    ∙ last_asked c (drop n rest) put ∙ ap (λ (t : List Request). asked_in c (drop n rest) ++ t) same in
    let left : asked_in c (take n after) ≡ asked_in c (take n rest) =
    ap (λ (t : List ClientEvent). asked_in c (take n t)) last ∙ ap (asked_in c) (take_more n rest put within) in
    (λ i. looked i ++ (asked_in c behind ++ left i))
    ∙ append_assoc (asked_in c (drop n rest)) (asked_by_event c e) (asked_in c behind ++ asked_in c (take n rest))
    ∙ ap (λ (t : List Request). asked_in c (drop n rest) ++ t)
    (after_others (asked_by_event c e) (asked_in c behind) (asked_in c (take n rest)) apart)
    ∙ first_left c k n e es rest behind whole count front is

-- one is taken out, and waits behind those that were before
pub looked_out : (c k n : ℕ) (e put : ClientEvent) (es rest behind more : List ClientEvent) (whole : List Request) → k ≡ suc n → es ≡ e ∷ rest
    → more ≡ behind ++ put ∷ [] → asked_by_event c put ≡ asked_by_event c e → IsWhole c whole k es behind → IsWhole c whole n rest more
looked_out c k n e put es rest behind more whole count front last same is =
    let waits : asked_in c more ≡ asked_in c behind ++ asked_by_event c e =
    ap (asked_in c) last ∙ last_asked c behind put ∙ ap (λ (t : List Request). asked_in c behind ++ t) same in
    ap (λ (t : List Request). asked_in c (drop n rest) ++ (t ++ asked_in c (take n rest))) waits
    ∙ ap (λ (t : List Request). asked_in c (drop n rest) ++ t)
    (append_assoc (asked_in c behind) (asked_by_event c e) (asked_in c (take n rest)))
    ∙ first_left c k n e es rest behind whole count front is

-- what was told stands behind all others
told_on : (c k : ℕ) (p : ClientEvent) (es fs behind : List ClientEvent) (whole : List Request) → k ≤ length es
    → (fs ≡ es ++ p ∷ []) ⊎ (fs ≡ es) → asked_by_event c p ≡ [] → IsWhole c whole k es behind → IsWhole c whole k fs behind
told_on c k p es fs behind whole within (inr same) none is = subst (λ (t : List ClientEvent). IsWhole c whole k t behind) (sym same) is
told_on c k p es fs behind whole within (inl last) none is =
    let looked : asked_in c (drop k fs) ≡ asked_in c (drop k es) =
    ap (λ (t : List ClientEvent). asked_in c (drop k t)) last ∙ ap (asked_in c) (drop_more k es p within)
    ∙ last_asked c (drop k es) p ∙ ap (λ (t : List Request). asked_in c (drop k es) ++ t) none ∙ append-nil (asked_in c (drop k es)) in
    let left : asked_in c (take k fs) ≡ asked_in c (take k es) =
    ap (λ (t : List ClientEvent). asked_in c (take k t)) last ∙ ap (asked_in c) (take_more k es p within) in
    (λ i. looked i ++ (asked_in c behind ++ left i)) ∙ is

behind_first : (e p : ClientEvent) (rest told : List ClientEvent) → (told ≡ rest ++ p ∷ []) ⊎ (told ≡ rest)
    → (e ∷ told ≡ (e ∷ rest) ++ p ∷ []) ⊎ (e ∷ told ≡ e ∷ rest)
behind_first e p rest told (inl last) = inl (ap (λ (t : List ClientEvent). e ∷ t) last)
behind_first e p rest told (inr same) = inr (ap (λ (t : List ClientEvent). e ∷ t) same)

pub told_long : (p : ClientEvent) (rest told : List ClientEvent) → (told ≡ rest ++ p ∷ []) ⊎ (told ≡ rest) → length rest ≤ length told
told_long p rest told (inl last) = (let long = ap length last in let more = length-append rest (p ∷ []) in omega (arith, long, more))
told_long p rest told (inr same) = (let long = ap length same in omega (arith, long))

-- something was told, and then one is put to the end, or another that asks for the same
pub looked_told : (c k n : ℕ) (e put p : ClientEvent) (es rest told after behind : List ClientEvent) (whole : List Request) → k ≡ suc n
    → es ≡ e ∷ rest → n ≤ length rest → (told ≡ rest ++ p ∷ []) ⊎ (told ≡ rest) → after ≡ told ++ put ∷ [] → asked_by_event c p ≡ []
    → asked_by_event c put ≡ asked_by_event c e → (asked_by_event c e ≡ []) ⊎ (asked_in c behind ≡ [])
    → IsWhole c whole k es behind → IsWhole c whole n after behind
looked_told c k n e put p es rest told after behind whole count front within says last none same apart is =
    let longer = told_long p rest told says in
    looked_on c k n e put (e ∷ told) told after behind whole count refl (omega (arith, within, longer)) last same apart
    (told_on c k p (e ∷ rest) (e ∷ told) behind whole (omega (arith, count, within)) (behind_first e p rest told says) none
    (subst (λ (t : List ClientEvent). IsWhole c whole k t behind) front is))

-- ---- who waits

or_none : (t : Bool) → (t || false) ≡ t
or_none true = refl
or_none false = refl

or_assoc : (a b c : Bool) → ((a || b) || c) ≡ (a || (b || c))
or_assoc true b c = refl
or_assoc false b c = refl

has_last : (c : ℕ) (es : List ClientEvent) (e : ClientEvent) → has_request_of c (es ++ e ∷ []) ≡ (has_request_of c es || is_request_of c e)
has_last c [] e = or_none (is_request_of c e)
has_last c (x ∷ es) e =
    ap (λ (t : Bool). is_request_of c x || t) (has_last c es e) ∙ sym (or_assoc (is_request_of c x) (has_request_of c es) (is_request_of c e))

held_in : (n c : ℕ) (held : List ℕ) (t : Bool) → (n == c) ≡ t → is_held n held ≡ true → is_held c held ≡ (is_held c held || (n == c))
held_in n c held true same is =
    let here : is_held c held ≡ true = subst (λ (m : ℕ). is_held m held ≡ true) (eqb-true n c same) is in
    here ∙ sym (ap (λ (t : Bool). t || (n == c)) here)
held_in n c held false same is = sym (ap (λ (t : Bool). is_held c held || t) same ∙ or_none (is_held c held))

held_as : (n c : ℕ) (held : List ℕ) (t : Bool) → is_held n held ≡ t → is_held c (cond t held (held ++ n ∷ [])) ≡ (is_held c held || (n == c))
held_as n c held true is = held_in n c held (n == c) refl is
held_as n c held false is =
    list_any-append (λ (other : ℕ). other == c) held (n ∷ []) ∙ ap (λ (t : Bool). is_held c held || t) (or_none (n == c))

-- those that wait are those of which a request does, also with one more
pub held_more : (n c : ℕ) (r : Request) (held after : List ℕ) (behind more : List ClientEvent) → after ≡ held_with n held
    → more ≡ behind ++ events.Seeking n r ∷ [] → ((d : ℕ) → is_held d held ≡ has_request_of d behind)
    → is_held c after ≡ has_request_of c more
held_more n c r held after behind more now last same =
    ap (is_held c) now ∙ held_as n c held (is_held n held) refl ∙ ap (λ (t : Bool). t || (n == c)) (same c)
    ∙ sym (ap (has_request_of c) last ∙ has_last c behind (events.Seeking n r))

-- of those that don't wait nothing was taken out
pub free_of : (c : ℕ) (held : List ℕ) (behind : List ClientEvent) → is_held c held ≡ has_request_of c behind → is_held c held ≡ false
    → asked_in c behind ≡ []
free_of c held behind same free = none_asked c behind (sym same ∙ free)

-- a request of a client that doesn't wait is of none that does
of_other : (c n : ℕ) (r : Request) (held : List ℕ) (taken : List Request) (t : Bool) → (n == c) ≡ t → is_held n held ≡ false
    → (is_held c held ≡ false → taken ≡ []) → (asked_by_event c (events.Request n r) ≡ []) ⊎ (taken ≡ [])
of_other c n r held taken true is free rest = inr (rest (subst (λ (m : ℕ). is_held m held ≡ false) (eqb-true n c is) free))
of_other c n r held taken false is free rest = inl (ap (λ (t : Bool). cond t (r ∷ []) []) is)

of_another : (c n : ℕ) (r : Request) (held : List ℕ) (behind : List ClientEvent) → is_held n held ≡ false
    → is_held c held ≡ has_request_of c behind → (asked_by_event c (events.Request n r) ≡ []) ⊎ (asked_in c behind ≡ [])
of_another c n r held behind free same = of_other c n r held (asked_in c behind) (n == c) refl free (free_of c held behind same)

-- the same where an event asks as that request does
pub of_it : (c n : ℕ) (r : Request) (e : ClientEvent) (held : List ℕ) (behind : List ClientEvent)
    → asked_by_event c (events.Request n r) ≡ asked_by_event c e → is_held n held ≡ false
    → is_held c held ≡ has_request_of c behind → (asked_by_event c e ≡ []) ⊎ (asked_in c behind ≡ [])
of_it c n r e held behind likewise free same =
    subst (λ (t : List Request). (t ≡ []) ⊎ (asked_in c behind ≡ [])) likewise (of_another c n r held behind free same)

-- ---- whose first request may ask

led_last : (n c : ℕ) (r : Request) (taken : List Request) (t : Bool) → (n == c) ≡ t → IsLed taken
    → (taken ≡ [] → n ≡ c → may_ask r ≡ true) → IsLed (taken ++ cond t (r ∷ []) [])
led_last n c r [] true same led first = first refl (eqb-true n c same)
led_last n c r [] false same led first = tt
led_last n c r (x ∷ taken) t same led first = led

leads : (n c : ℕ) (r : Request) (held : List ℕ) (behind : List ClientEvent) → is_held n held ≡ has_request_of n behind
    → (is_held n held ≡ true) ⊎ (may_ask r ≡ true) → asked_in c behind ≡ [] → n ≡ c → may_ask r ≡ true
leads n c r held behind same (inl waits) none is =
    let free : has_request_of n behind ≡ false = none_has n behind (subst (λ (m : ℕ). asked_in m behind ≡ []) (sym is) none) in
    absurd (cc (waits, same, free))
leads n c r held behind same (inr asks) none is = asks

-- the first one may, also where one more waits
pub led_more : (n c : ℕ) (r : Request) (held : List ℕ) (behind more : List ClientEvent) → more ≡ behind ++ events.Seeking n r ∷ []
    → ((d : ℕ) → is_held d held ≡ has_request_of d behind) → ((d : ℕ) → IsLed (asked_in d behind))
    → (is_held n held ≡ true) ⊎ (may_ask r ≡ true) → IsLed (asked_in c more)
led_more n c r held behind more last same led asks =
    subst (λ (l : List Request). IsLed l) (sym (ap (asked_in c) last ∙ last_asked c behind (events.Seeking n r)))
    (led_last n c r (asked_in c behind) (n == c) refl (led c) (λ none is. leads n c r held behind (same n) asks none is))

-- ---- what is served, and what waits

pub quiet_unsought : (e : ClientEvent) → AsksNothing e → IsUnsought e
quiet_unsought (events.Connect client) h = tt
quiet_unsought (events.Request client request) h = tt
quiet_unsought (events.Seeking client request) h = absurd h
quiet_unsought (events.Picture client told) h = tt
quiet_unsought (events.Gone client) h = tt

pub quiet_asks_none : (e : ClientEvent) (c : ℕ) → AsksNothing e → asked_by_event c e ≡ []
quiet_asks_none (events.Connect client) c h = refl
quiet_asks_none (events.Request client request) c h = absurd h
quiet_asks_none (events.Seeking client request) c h = absurd h
quiet_asks_none (events.Picture client told) c h = refl
quiet_asks_none (events.Gone client) c h = refl

pub all_last : (P : ClientEvent → Type 0) (es : List ClientEvent) (e : ClientEvent) → AllByRecursion P es → P e
    → AllByRecursion P (es ++ e ∷ [])
all_last P [] e all one = (one, tt)
all_last P (x ∷ es) e all one = (all.0, all_last P es e all.1 one)

-- those that were looked at and are served, without the first of those that are left
pub served_from : (k n : ℕ) (e : ClientEvent) (es rest : List ClientEvent) → k ≡ suc n → es ≡ e ∷ rest
    → AllByRecursion IsUnsought (drop k es) → AllByRecursion IsUnsought (drop n rest)
served_from k n e es rest count front all =
    subst (λ (t : List ClientEvent). AllByRecursion IsUnsought (drop (suc n) t)) front
    (subst (λ (m : ℕ). AllByRecursion IsUnsought (drop m es)) count all)

-- and with one more
pub served_on : (k n : ℕ) (e put : ClientEvent) (es rest after : List ClientEvent) → k ≡ suc n → es ≡ e ∷ rest → n ≤ length rest
    → after ≡ rest ++ put ∷ [] → IsUnsought put → AllByRecursion IsUnsought (drop k es) → AllByRecursion IsUnsought (drop n after)
served_on k n e put es rest after count front within last one all =
    subst (λ (t : List ClientEvent). AllByRecursion IsUnsought t)
    (sym (ap (λ (t : List ClientEvent). drop n t) last ∙ drop_more n rest put within))
    (all_last IsUnsought (drop n rest) put (served_from k n e es rest count front all) one)

told_served : (n : ℕ) (p : ClientEvent) (rest told : List ClientEvent) → n ≤ length rest → (told ≡ rest ++ p ∷ []) ⊎ (told ≡ rest)
    → IsUnsought p → AllByRecursion IsUnsought (drop n rest) → AllByRecursion IsUnsought (drop n told)
told_served n p rest told within (inr same) one all =
    subst (λ (t : List ClientEvent). AllByRecursion IsUnsought (drop n t)) (sym same) all
told_served n p rest told within (inl last) one all =
    subst (λ (t : List ClientEvent). AllByRecursion IsUnsought t)
    (sym (ap (λ (t : List ClientEvent). drop n t) last ∙ drop_more n rest p within)) (all_last IsUnsought (drop n rest) p all one)

-- and with what was told in front of it
pub served_told : (k n : ℕ) (e put p : ClientEvent) (es rest told after : List ClientEvent) → k ≡ suc n → es ≡ e ∷ rest
    → n ≤ length rest → (told ≡ rest ++ p ∷ []) ⊎ (told ≡ rest) → after ≡ told ++ put ∷ [] → IsUnsought p → IsUnsought put
    → AllByRecursion IsUnsought (drop k es) → AllByRecursion IsUnsought (drop n after)
served_told k n e put p es rest told after count front within says last one two all =
    let longer = told_long p rest told says in
    subst (λ (t : List ClientEvent). AllByRecursion IsUnsought t)
    (sym (ap (λ (t : List ClientEvent). drop n t) last ∙ drop_more n told put (omega (arith, within, longer))))
    (all_last IsUnsought (drop n told) put (told_served n p rest told within says one (served_from k n e es rest count front all)) two)

-- ---- whether any line may ask

-- ---- how many events are to be served

-- no more than there are
pub quiet_past : (waits : Bool) (n : ℕ) (es : List ClientEvent) → length es ≤ n → QuietBehind waits n es
quiet_past waits n [] few = tt
quiet_past waits zero (e ∷ es) few = absurd (omega (arith, few))
quiet_past waits (suc n) (e ∷ es) few = quiet_past waits n es (omega (arith, few))

taken_few : (n : ℕ) (es : List ClientEvent) → length (take n es) ≤ n
taken_few zero es = omega arith
taken_few (suc n) [] = omega arith
taken_few (suc n) (e ∷ es) = (let more = taken_few n es in omega (arith, more))

-- of the events up to a place the last is to be served, and all before it
pub served_to : (place : ℕ) (es : List ClientEvent) → QuietBehind true place (take place es)
served_to place es = quiet_past true place (take place es) (taken_few place es)

unserved_quiet : (e : ClientEvent) → is_to_serve e ≡ false → IsQuiet true e
unserved_quiet (events.Connect client) h = tt
unserved_quiet (events.Request client request) h = absurd (cc h)
unserved_quiet (events.Seeking client request) h = refl
unserved_quiet (events.Picture client told) h = tt
unserved_quiet (events.Gone client) h = tt

-- or it isn't
pub served_not : (count place : ℕ) (es : List ClientEvent) (e : ClientEvent) → place < length es → e ≡ get_or es place e
    → is_to_serve e ≡ false → QuietBehind true count (take place es) → QuietBehind true count (take (place + 1) es)
served_not count place es e there is unserved h =
    subst (λ (t : List ClientEvent). QuietBehind true count t)
    (sym (take_one es place e there ∙ ap (λ (x : ClientEvent). take place es ++ x ∷ []) (sym is)))
    (quiet_end true count (take place es) e (unserved_quiet e unserved) h)
