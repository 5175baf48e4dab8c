-- Readings that may be refused, one after another.
use Rattle.std.specs.Prelude.{List, ◌++◌, Result, Ok, Err}
use Rattle.flac.specs.declared.refusal.FlacError.{FlacError}

infixl 10 ◌>>=◌
abbrev pub ◌>>=◌ : {A B : Type 0} → Result A FlacError → (A → Result B FlacError) → Result B FlacError
(Ok x) >>= f = f x
(Err e) >>= f = Err e

-- these in front of what is read
abbrev pub joined : {A : Type 0} → List A → Result (List A) FlacError → Result (List A) FlacError
joined xs (Ok ys) = Ok (xs ++ ys)
joined xs (Err e) = Err e
