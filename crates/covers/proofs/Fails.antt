-- Want of memory or a fault that is handed on.
use Rattle.std.specs.Prelude.{Result, IfErr}
use Rattle.std.proofs.lemmas.Result.{IfErr-weaker}
use Rattle.covers.specs.CoverError.{Fails}
use Rattle.covers.specs.declared.refusal.CoverError.{CoverError}
use Rattle.covers.specs.declared.refusal.CoverError.TheVariants.{NoMemory, ReadFault}

pub fails_by : {A : Type 0} (r : Result A CoverError) (fault more : Type 0) → (fault → more) → IfErr r (Fails fault) → IfErr r (Fails more)
fails_by r fault more up h = IfErr-weaker r (Fails fault) (Fails more) (fails_one fault more up) h
  where
    fails_one : (fault more : Type 0) → (fault → more) → (e : CoverError) → Fails fault e → Fails more e
    fails_one fault more up NoMemory h = tt
    fails_one fault more up ReadFault h = up h
