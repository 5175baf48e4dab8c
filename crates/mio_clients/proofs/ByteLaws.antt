-- Bytes that are known, and grow.
use Rattle.std.proofs.Common.{ℕ, List, [], ◌++◌, Option, None, Some, sym, ◌∙◌, ap, append_assoc}
use Rattle.std.specs.Io.KnownBytes.{Keeps, append_known}
use Rattle.std.proofs.lemmas.List.{append-nil}

-- no further bytes
pub grows_by_none : (a b : Option (List ℕ)) → Keeps a b → Keeps (append_known a []) b
grows_by_none None b p = tt
grows_by_none (Some xs) None p = absurd p
grows_by_none (Some xs) (Some ys) p = p ∙ sym (append-nil xs)

-- some bytes, and then others
pub grows_twice : (a b c : Option (List ℕ)) (xs ys : List ℕ) → Keeps (append_known a xs) b → Keeps (append_known b ys) c
    → Keeps (append_known a (xs ++ ys)) c
grows_twice None b c xs ys p q = tt
grows_twice (Some us) None c xs ys p q = absurd p
grows_twice (Some us) (Some vs) None xs ys p q = absurd q
grows_twice (Some us) (Some vs) (Some ws) xs ys p q = q ∙ (ap (λ t. t ++ ys) p ∙ append_assoc us xs ys)

-- more bytes behind both
pub more_behind : (a b : Option (List ℕ)) (given untaken more : List ℕ) → Keeps (append_known a given) (append_known b untaken)
    → Keeps (append_known a (given ++ more)) (append_known b (untaken ++ more))
more_behind None b given untaken more p = tt
more_behind (Some xs) None given untaken more p = absurd p
more_behind (Some xs) (Some ys) given untaken more p =
    sym (append_assoc ys untaken more) ∙ (ap (λ t. t ++ more) p ∙ append_assoc xs given more)

-- what is queued behind bytes that stay
pub kept_behind : (a b : Option (List ℕ)) (queued : List ℕ) → Keeps a b → Keeps (append_known a queued) (append_known b queued)
kept_behind None b queued p = tt
kept_behind (Some xs) None queued p = absurd p
kept_behind (Some xs) (Some ys) queued p = ap (λ t. t ++ queued) p

-- more is queued
pub queued_behind : (a : Option (List ℕ)) (queued more : List ℕ)
    → Keeps (append_known (append_known a queued) more) (append_known a (queued ++ more))
queued_behind None queued more = tt
queued_behind (Some xs) queued more = sym (append_assoc xs queued more)
