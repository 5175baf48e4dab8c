-- Requests that are served in turn.
use Rattle.std.proofs.Common.{◌≡◌, ◌≢◌, ◌⊎◌, inl, inr, ℕ, zero, suc, ◌≤◌, ◌==◌, List, [], ◌∷◌, ◌++◌, length, take, drop, Bool, true, false, cond, not, ◌||◌}
use Rattle.std.proofs.Common.{refl, sym, subst, ◌∙◌, ap, append_assoc, arith}
use Rattle.std.proofs.lemmas.List.{append-nil}
use Rattle.std.proofs.lemmas.Bool.{eqb-true}
use Rattle.command_text.specs.declared.request.Request.{Request}
use Rattle.mio_clients.specs.declared.event.ClientEvent.{ClientEvent}
use Rattle.mio_clients.specs.declared.event.ClientEvent.TheVariants as events
use Rattle.mio_clients.specs.Events.{asked_by_event, asked_in, has_request_of, is_request_of}
use Rattle.mio_clients.specs.Rounds.{is_due, IsRound, IsDealt}
use Rattle.mio_clients.proofs.LaterLaws.{asked_in-append}

-- ---- whether a client asks for something

asked_first : (c n : ℕ) (r : Request) (es : List ClientEvent) (t : Bool) → (n == c) ≡ t
    → (t ≡ false → asked_in c es ≡ []) → has_request_of c (events.Request n r ∷ es) ≡ false → asked_in c (events.Request n r ∷ es) ≡ []
asked_first c n r es true is rest none = absurd (cc (none, ap (λ (t : Bool). t || has_request_of c es) is))
asked_first c n r es false is rest none = ap (λ (t : Bool). cond t (r ∷ []) [] ++ asked_in c es) is ∙ rest refl

rest_has : (c n : ℕ) (r : Request) (es : List ClientEvent) → (n == c) ≡ false → has_request_of c (events.Request n r ∷ es) ≡ false
    → has_request_of c es ≡ false
rest_has c n r es is none = sym (ap (λ (t : Bool). t || has_request_of c es) is) ∙ none

-- who has no request among events asks for nothing
pub none_asked : (c : ℕ) (es : List ClientEvent) → has_request_of c es ≡ false → asked_in c es ≡ []
none_asked c [] none = refl
none_asked c (events.Connect n ∷ es) none = none_asked c es none
none_asked c (events.Request n r ∷ es) none =
    asked_first c n r es (n == c) refl (λ is. none_asked c es (rest_has c n r es is none)) none
none_asked c (events.Seeking n r ∷ es) none =
    asked_first c n r es (n == c) refl (λ is. none_asked c es (rest_has c n r es is none)) none
none_asked c (events.Picture n told ∷ es) none = none_asked c es none
none_asked c (events.Gone n ∷ es) none = none_asked c es none

one_has : (c n : ℕ) (r : Request) (es : List ClientEvent) (t : Bool) → (n == c) ≡ t
    → (asked_in c es ≡ [] → has_request_of c es ≡ false)
    → asked_in c (events.Request n r ∷ es) ≡ [] → has_request_of c (events.Request n r ∷ es) ≡ false
one_has c n r es true is rest none = absurd (cc (none, ap (λ (t : Bool). cond t (r ∷ []) [] ++ asked_in c es) is))
one_has c n r es false is rest none =
    ap (λ (t : Bool). t || has_request_of c es) is
    ∙ rest (sym (ap (λ (t : Bool). cond t (r ∷ []) [] ++ asked_in c es) is) ∙ none)

-- who asks for nothing has no request among events
pub none_has : (c : ℕ) (es : List ClientEvent) → asked_in c es ≡ [] → has_request_of c es ≡ false
none_has c [] none = refl
none_has c (events.Connect n ∷ es) none = none_has c es none
none_has c (events.Request n r ∷ es) none = one_has c n r es (n == c) refl (none_has c es) none
none_has c (events.Seeking n r ∷ es) none = one_has c n r es (n == c) refl (none_has c es) none
none_has c (events.Picture n told ∷ es) none = none_has c es none
none_has c (events.Gone n ∷ es) none = none_has c es none

-- ---- whether an event belongs to a round

not_true : (t : Bool) → not t ≡ true → t ≡ false
not_true true is = absurd (cc is)
not_true false is = refl

not_false : (t : Bool) → not t ≡ false → t ≡ true
not_false true is = refl
not_false false is = absurd (cc is)

due_request : (c n : ℕ) (r : Request) (round : List ClientEvent) (t : Bool) → (n == c) ≡ t → not (has_request_of n round) ≡ true
    → (asked_by_event c (events.Request n r) ≡ [])
    ⊎ ((asked_in c round ≡ []) × (length (asked_by_event c (events.Request n r)) ≡ 1))
due_request c n r round true is due =
    let same : n ≡ c = eqb-true n c is in
    inr (
      none_asked c round (subst (λ (m : ℕ). has_request_of m round ≡ false) same (not_true (has_request_of n round) due)),
      ap (λ (t : Bool). length (cond t (r ∷ []) [])) is,
    )
due_request c n r round false is due = inl (ap (λ (t : Bool). cond t (r ∷ []) []) is)

-- by what belongs to a round a client asks for nothing, or for one thing, and for none by those before it
due_asked : (c : ℕ) (round : List ClientEvent) (e : ClientEvent) → is_due round e ≡ true
    → (asked_by_event c e ≡ []) ⊎ ((asked_in c round ≡ []) × (length (asked_by_event c e) ≡ 1))
due_asked c round (events.Connect n) due = inl refl
due_asked c round (events.Request n r) due = due_request c n r round (n == c) refl due
due_asked c round (events.Seeking n r) due = due_request c n r round (n == c) refl due
due_asked c round (events.Picture n told) due = inl refl
due_asked c round (events.Gone n) due = inl refl

undue_request : (c n : ℕ) (r : Request) (round : List ClientEvent) (t : Bool) → (n == c) ≡ t → not (has_request_of n round) ≡ false
    → asked_in c round ≡ [] → asked_by_event c (events.Request n r) ≡ []
undue_request c n r round true is undue none =
    let same : n ≡ c = eqb-true n c is in
    let some : has_request_of c round ≡ true =
    subst (λ (m : ℕ). has_request_of m round ≡ true) same (not_false (has_request_of n round) undue) in
    absurd (cc (some, none_has c round none))
undue_request c n r round false is undue none = ap (λ (t : Bool). cond t (r ∷ []) []) is

-- by what doesn't belong to it nobody asks who asks for nothing by it
undue_asked : (c : ℕ) (round : List ClientEvent) (e : ClientEvent) → is_due round e ≡ false → asked_in c round ≡ []
    → asked_by_event c e ≡ []
undue_asked c round (events.Connect n) undue none = refl
undue_asked c round (events.Request n r) undue none = undue_request c n r round (n == c) refl undue none
undue_asked c round (events.Seeking n r) undue none = undue_request c n r round (n == c) refl undue none
undue_asked c round (events.Picture n told) undue none = refl
undue_asked c round (events.Gone n) undue none = refl

-- ---- a round is taken, event by event

-- what was taken for the round of what a client asks for, what stays behind it, and what is left to be looked at
pub record IsTaken (c : ℕ) (whole : List Request) (round behind left : List ClientEvent) : Type 0 where
  pub asked : whole ≡ asked_in c round ++ (asked_in c behind ++ asked_in c left)
  pub one : length (asked_in c round) ≤ 1
  pub each : asked_in c round ≡ [] → asked_in c behind ≡ []

pub last_asked : (c : ℕ) (es : List ClientEvent) (e : ClientEvent) → asked_in c (es ++ e ∷ []) ≡ asked_in c es ++ asked_by_event c e
last_asked c es e = asked_in-append c es (e ∷ []) ∙ ap (λ l. asked_in c es ++ l) (append-nil (asked_by_event c e))

pub taken_front : (c : ℕ) (whole : List Request) (round behind left : List ClientEvent) (e : ClientEvent) → is_due round e ≡ true
    → IsTaken c whole round behind (e ∷ left) → IsTaken c whole (round ++ e ∷ []) behind left
taken_front c whole round behind left e due t =
    let A : List Request = asked_in c round in
    let B : List Request = asked_in c behind in
    let a : List Request = asked_by_event c e in
    let L : List Request = asked_in c left in
    let last : asked_in c (round ++ e ∷ []) ≡ A ++ a = last_asked c round e in
    elim (due_asked c round e due) [
      | inl none ↦ (let same : asked_in c (round ++ e ∷ []) ≡ A = last ∙ (ap (λ l. A ++ l) none ∙ append-nil A) in record {
        asked = t.asked ∙ (ap (λ l. A ++ (B ++ (l ++ L))) none ∙ sym (ap (λ l. l ++ (B ++ L)) same));
        one = subst (λ (l : List Request). length l ≤ 1) (sym same) t.one;
        each = λ h. t.each (sym same ∙ h);
      })
      | inr some ↦ (let none : B ≡ [] = t.each some.0 in let same : asked_in c (round ++ e ∷ []) ≡ a = last ∙ ap (λ l. l ++ a) some.0 in record {
        asked = t.asked ∙ (ap (λ l. l ++ (B ++ (a ++ L))) some.0 ∙ (ap (λ l. l ++ (a ++ L)) none
            ∙ sym (ap (λ l. l ++ (B ++ L)) same ∙ ap (λ l. a ++ (l ++ L)) none)));
        one = (let long = ap length same in omega (arith, long, some.1));
        each = λ h. none;
      })
    ]

pub taken_behind : (c : ℕ) (whole : List Request) (round behind left : List ClientEvent) (e : ClientEvent) → is_due round e ≡ false
    → IsTaken c whole round behind (e ∷ left) → IsTaken c whole round (behind ++ e ∷ []) left
taken_behind c whole round behind left e undue t =
    let A : List Request = asked_in c round in
    let B : List Request = asked_in c behind in
    let a : List Request = asked_by_event c e in
    let L : List Request = asked_in c left in
    let last : asked_in c (behind ++ e ∷ []) ≡ B ++ a = last_asked c behind e in
    record {
      asked = t.asked ∙ ap (λ l. A ++ l) (sym (append_assoc B a L) ∙ ap (λ l. l ++ L) (sym last));
      one = t.one;
      each = λ h. last ∙ (ap (λ l. l ++ a) (t.each h) ∙ undue_asked c round e undue h);
    }

drop_more : (n : ℕ) (es : List ClientEvent) (e : ClientEvent) → n ≤ length es → drop n (es ++ e ∷ []) ≡ drop n es ++ e ∷ []
drop_more zero es e within = refl
drop_more (suc n) [] e within = absurd (omega (arith, within))
drop_more (suc n) (x ∷ es) e within = drop_more n es e (omega (arith, within))

take_more : (n : ℕ) (es : List ClientEvent) (e : ClientEvent) → n ≤ length es → take n (es ++ e ∷ []) ≡ take n es
take_more zero es e within = refl
take_more (suc n) [] e within = absurd (omega (arith, within))
take_more (suc n) (x ∷ es) e within = ap (λ t. x ∷ t) (take_more n es e (omega (arith, within)))

-- so many are left, and the first of them is this one
module _ (c k n : ℕ) (whole : List Request) (e : ClientEvent) (es rest round : List ClientEvent) (count : k ≡ suc n) (front : es ≡ e ∷ rest) where
  looked_at : IsTaken c whole round (drop k es) (take k es) → IsTaken c whole round (drop n rest) (e ∷ take n rest)
  looked_at t =
      subst (λ (l : List ClientEvent). IsTaken c whole round (drop (suc n) l) (take (suc n) l)) front
      (subst (λ (m : ℕ). IsTaken c whole round (drop m es) (take m es)) count t)

  pub one_more : (after : List ClientEvent) → is_due round e ≡ true → after ≡ round ++ e ∷ []
      → IsTaken c whole round (drop k es) (take k es) → IsTaken c whole after (drop n rest) (take n rest)
  one_more after due added t =
      subst (λ (l : List ClientEvent). IsTaken c whole l (drop n rest) (take n rest)) (sym added)
      (taken_front c whole round (drop n rest) (take n rest) e due (looked_at t))

  pub one_behind : (after : List ClientEvent) → is_due round e ≡ false → n ≤ length rest → after ≡ rest ++ e ∷ []
      → IsTaken c whole round (drop k es) (take k es) → IsTaken c whole round (drop n after) (take n after)
  one_behind after undue within last t =
      subst (λ (l : List ClientEvent). IsTaken c whole round (drop n l) (take n l)) (sym last)
      (subst (λ (l : List ClientEvent). IsTaken c whole round l (take n (rest ++ e ∷ []))) (sym (drop_more n rest e within))
      (subst (λ (l : List ClientEvent). IsTaken c whole round (drop n rest ++ e ∷ []) l) (sym (take_more n rest e within))
      (taken_behind c whole round (drop n rest) (take n rest) e undue (looked_at t))))

-- at first nothing was looked at
taken_none : (c : ℕ) (es : List ClientEvent) → drop (length es) es ≡ [] → take (length es) es ≡ es
    → IsTaken c (asked_in c es) [] (drop (length es) es) (take (length es) es)
taken_none c es none whole = record {
  asked = sym (ap (λ l. asked_in c l ++ asked_in c (take (length es) es)) none ∙ ap (asked_in c) whole);
  one = omega arith;
  each = λ h. ap (asked_in c) none;
}

drop_whole : (es : List ClientEvent) → drop (length es) es ≡ []
drop_whole [] = refl
drop_whole (e ∷ es) = drop_whole es

take_whole : (es : List ClientEvent) → take (length es) es ≡ es
take_whole [] = refl
take_whole (e ∷ es) = ap (λ l. e ∷ l) (take_whole es)

pub taken_begin : (c k : ℕ) (es round : List ClientEvent) → k ≡ length es → round ≡ []
    → IsTaken c (asked_in c es) round (drop k es) (take k es)
taken_begin c k es round count empty =
    subst (λ (l : List ClientEvent). IsTaken c (asked_in c es) l (drop k es) (take k es)) (sym empty)
    (subst (λ (m : ℕ). IsTaken c (asked_in c es) [] (drop m es) (take m es)) (sym count) (taken_none c es (drop_whole es) (take_whole es)))

-- in the end all were
pub taken_end : (k : ℕ) (old es round : List ClientEvent) → k ≡ 0
    → ((c : ℕ) → IsTaken c (asked_in c old) round (drop k es) (take k es)) → IsRound old round es
taken_end zero old es round none taken = record {
  asked = λ c. (let t = taken c in t.asked ∙ ap (λ l. asked_in c round ++ l) (append-nil (asked_in c es)));
  one = λ c. (let t = taken c in t.one);
  each = λ c. (let t = taken c in t.each);
}
taken_end (suc k) old es round none taken = absurd (omega (arith, none))

-- ---- a round is put in front

pub dealt_asked : (c : ℕ) (old new : List ClientEvent) → IsDealt old new ⊎ (new ≡ old) → asked_in c old ≡ asked_in c new
dealt_asked c old new (inl dealt) =
    dealt.divided.asked c ∙ (sym (asked_in-append c dealt.round dealt.rest) ∙ ap (asked_in c) (sym dealt.front))
dealt_asked c old new (inr same) = ap (asked_in c) (sym same)
