-- Bytes that a stream has and has got, as far as they are known: they stay, some are taken, and more come behind them.
use Rattle.std.proofs.Common.{◌≡◌, ℕ, List, [], ◌++◌, Option, Some, None, refl, sym, ◌∙◌, ap, append_assoc}
use Rattle.std.specs.Io.KnownBytes.{Appends, Consumes, Keeps}
use Rattle.std.proofs.lemmas.List.{append-nil}

pub keeps_itself : (bytes : Option (List ℕ)) → Keeps bytes bytes
keeps_itself None = tt
keeps_itself (Some xs) = refl

pub appends_nothing : (bytes : Option (List ℕ)) → Appends bytes bytes []
appends_nothing None = tt
appends_nothing (Some xs) = sym (append-nil xs)

pub appends_twice : (first now after : Option (List ℕ)) (a b : List ℕ) → Appends first now a → Appends now after b
    → Appends first after (a ++ b)
appends_twice None now after a b h k = tt
appends_twice (Some xs) (Some ys) (Some zs) a b h k = k ∙ ap (λ v. v ++ b) h ∙ append_assoc xs a b
appends_twice (Some xs) (Some ys) None a b h k = k
appends_twice (Some xs) None after a b h k = absurd h

pub appends_kept : (first now after : Option (List ℕ)) (a : List ℕ) → Appends first now a → Keeps now after → Appends first after a
appends_kept None now after a h k = tt
appends_kept (Some xs) (Some ys) (Some zs) a h k = k ∙ h
appends_kept (Some xs) (Some ys) None a h k = k
appends_kept (Some xs) None after a h k = absurd h

pub consumes_nothing : (first after : Option (List ℕ)) → Keeps first after → Consumes first after []
consumes_nothing None after h = tt
consumes_nothing (Some xs) None h = h
consumes_nothing (Some xs) (Some ys) h = sym h

pub consumes_twice : (first now after : Option (List ℕ)) (a b : List ℕ) → Consumes first now a → Consumes now after b
    → Consumes first after (a ++ b)
consumes_twice None now after a b h k = tt
consumes_twice (Some xs) (Some ys) (Some zs) a b h k = h ∙ ap (λ v. a ++ v) k ∙ sym (append_assoc a b zs)
consumes_twice (Some xs) (Some ys) None a b h k = k
consumes_twice (Some xs) None after a b h k = absurd h
