-- Bytes that an output got one after the other.
use Rattle.std.proofs.Common.{◌≡◌, ℕ, ◌+◌, List, [], ◌++◌, take, drop, refl, sym, ap, ◌∙◌, append_assoc}
use Rattle.std.specs.Prelude.{Option, None, Some}
use Rattle.std.proofs.lemmas.List.{append-nil}
use Rattle.std.proofs.Math.Seq.{take-add}
use Rattle.std.specs.Io.KnownBytes.{Appends, Keeps}

pub appends_more : (old mid new : Option (List ℕ)) (xs ys : List ℕ) → Appends old mid xs → Appends mid new ys → Appends old new (xs ++ ys)
appends_more None mid new xs ys p q = tt
appends_more (Some a) None new xs ys p q = absurd p
appends_more (Some a) (Some m) None xs ys p q = absurd q
appends_more (Some a) (Some m) (Some n) xs ys p q = q ∙ ap (λ z. z ++ ys) p ∙ append_assoc a xs ys

pub appends_nothing : (old mid new : Option (List ℕ)) (xs : List ℕ) → Appends old mid xs → Keeps mid new → Appends old new xs
appends_nothing None mid new xs p q = tt
appends_nothing (Some a) None new xs p q = absurd p
appends_nothing (Some a) (Some m) None xs p q = absurd q
appends_nothing (Some a) (Some m) (Some n) xs p q = q ∙ p

pub none_kept : (old new : Option (List ℕ)) → Appends old new [] → Keeps old new
none_kept None new p = tt
none_kept (Some a) None p = absurd p
none_kept (Some a) (Some n) p = p ∙ append-nil a

pub kept_none : (old new : Option (List ℕ)) → Keeps old new → Appends old new []
kept_none None new p = tt
kept_none (Some a) None p = absurd p
kept_none (Some a) (Some n) p = p ∙ sym (append-nil a)

pub kept_same : (old : Option (List ℕ)) → Keeps old old
kept_same None = tt
kept_same (Some a) = refl

-- what was written so far and what one write took
pub taken_more : (old mid new : Option (List ℕ)) (bytes : List ℕ) (written count : ℕ) → Appends old mid (take written bytes)
    → Appends mid new (take count (drop written bytes)) → Appends old new (take (written + count) bytes)
taken_more old mid new bytes written count p q =
    let e : take (written + count) bytes ≡ take written bytes ++ take count (drop written bytes) = take-add written count bytes in
    rw e (appends_more old mid new (take written bytes) (take count (drop written bytes)) p q)
