-- What a guard changes of the bytes that reads give.
use Rattle.std.proofs.Common.{◌≡◌, ℕ, Bool, false, cond, List, [], ◌++◌, take, Option, Some, None, Result, Ok, Err}
use Rattle.std.proofs.Common.{refl, sym, ◌∙◌, ap, append_assoc}
use Rattle.std.specs.Io.KnownBytes.{Consumes, IsAtEnd, Keeps, ReadConsumes, prepend_known}
use Rattle.std.proofs.lemmas.Bool.{false≢true}
use Rattle.std.proofs.lemmas.List.{append-nil}
use Rattle.http_guard.specs.declared.first_line.Verdict.TheVariants.{Unknown, ShutOut, LetIn}
use Rattle.http_guard.specs.declared.guarded.Passage.TheVariants.{Looking, Shut}
use Rattle.http_guard.specs.FirstLine.{is_shut_out, IsVerdict}
use Rattle.http_guard.specs.Guarded.{let_in, known_behind_guard, IsKnownShutOut}

pub keeps_on : (first now after : Option (List ℕ)) → Keeps first now → Keeps now after → Keeps first after
keeps_on None now after p q = tt
keeps_on (Some xs) None after p q = absurd p
keeps_on (Some xs) (Some ys) None p q = q
keeps_on (Some xs) (Some ys) (Some zs) p q = q ∙ p

-- what is read below is held
pub holds_more : (held piece seen : List ℕ) (first now : Option (List ℕ)) → seen ≡ held ++ piece → Consumes first now piece
    → Keeps (known_behind_guard Looking held first) (known_behind_guard Looking seen now)
holds_more held piece seen None now is taken = tt
holds_more held piece seen (Some xs) None is taken = taken
holds_more held piece seen (Some xs) (Some ys) is taken =
    ap let_in (ap (λ (v : List ℕ). v ++ ys) is ∙ append_assoc held piece ys ∙ ap (λ (v : List ℕ). held ++ v) (sym taken))

-- it is shut out
pub shuts : (seen held : List ℕ) (now : Option (List ℕ)) → IsVerdict seen ShutOut
    → Keeps (known_behind_guard Looking seen now) (known_behind_guard Shut held now)
shuts seen held None verdict = tt
shuts seen held (Some ys) verdict = sym (ap (λ (b : Bool). cond b [] (seen ++ ys)) (verdict ys))

-- what is seen, with what is still to be read, is let in
pub IsFree : List ℕ → Option (List ℕ) → Type 0
IsFree seen now = (ys : List ℕ) → now ≡ Some ys → is_shut_out (seen ++ ys) ≡ false

pub free_of_verdict : (seen : List ℕ) (now : Option (List ℕ)) → IsVerdict seen LetIn → IsFree seen now
unfolding IsFree
free_of_verdict seen now verdict = λ ys is. verdict ys

pub free_at_end : (seen : List ℕ) (now : Option (List ℕ)) → IsVerdict seen Unknown → IsAtEnd now → IsFree seen now
unfolding IsFree
free_at_end seen None verdict at_end = λ ys is. absurd (cc)
free_at_end seen (Some xs) verdict at_end = λ ys is.
    let same : xs ≡ ys = (cc) in
    ap (λ (v : List ℕ). is_shut_out (seen ++ v)) (sym same ∙ at_end) ∙ ap is_shut_out (append-nil seen) ∙ verdict.0

pub opens : (seen : List ℕ) (now : Option (List ℕ)) → IsFree seen now → Keeps (known_behind_guard Looking seen now) (prepend_known seen now)
unfolding IsFree
opens seen None free = tt
opens seen (Some ys) free = sym (ap (λ (b : Bool). cond b [] (seen ++ ys)) (free ys refl))

pub not_shut : (held piece seen : List ℕ) (first now : Option (List ℕ)) → seen ≡ held ++ piece → Consumes first now piece
    → IsFree seen now → IsKnownShutOut held first → ⊥
unfolding IsFree
not_shut held piece seen None now is taken free shut = shut
not_shut held piece seen (Some xs) None is taken free shut = taken
not_shut held piece seen (Some xs) (Some ys) is taken free shut =
    let joined : held ++ xs ≡ seen ++ ys =
    ap (λ (v : List ℕ). held ++ v) taken ∙ sym (append_assoc held piece ys) ∙ ap (λ (v : List ℕ). v ++ ys) (sym is) in
    false≢true (sym (free ys refl) ∙ sym (ap is_shut_out joined) ∙ shut)

consumes_from : (first now after : Option (List ℕ)) (bytes : List ℕ) → Keeps first now → Consumes now after bytes
    → Consumes first after bytes
consumes_from None now after bytes p q = tt
consumes_from (Some xs) None after bytes p q = absurd p
consumes_from (Some xs) (Some ys) None bytes p q = q
consumes_from (Some xs) (Some ys) (Some zs) bytes p q = sym p ∙ q

pub reads_from : {E : Type 0} (first now after : Option (List ℕ)) (r : Result ℕ E) (buf : List ℕ) → Keeps first now
    → ReadConsumes now after r buf → ReadConsumes first after r buf
reads_from first now after (Ok n) buf p q = (consumes_from first now after (take n buf) p q.0, q.1)
reads_from first now after (Err e) buf p q = keeps_on first now after p q
