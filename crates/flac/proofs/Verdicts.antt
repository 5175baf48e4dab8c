-- Refusals, from one reading to the next.
use Rattle.std.proofs.Common.{◌≡◌, ◌∙◌, refl, sym, ap, Ok, Err, subst}
use Rattle.std.specs.Prelude.{Result, IfOk, IfErr}
use Rattle.std.proofs.lemmas.Result.{IfErr-at_err, IfErr-weaker}
use Rattle.flac.specs.FlacError.{IsVerdict, Refuses, Fails}
use Rattle.flac.specs.Steps.{◌>>=◌}
use Rattle.flac.specs.declared.refusal.FlacError.{FlacError}
use Rattle.flac.specs.declared.refusal.FlacError.TheVariants.{NoMemory, ReadFault, NotFlac, BadStreamInfo, Unsupported, DamagedBlock, TooManyBlocks, BrokenFrame}

-- the refusal of a part is that of the whole
pub refuses_by : {A B : Type 0} (r : Result A FlacError) (s : Result B FlacError) (fault more : Type 0) → (fault → more)
    → ((e : FlacError) → r ≡ Err e → s ≡ Err e) → (e : FlacError) → Refuses r fault e → Refuses s more e
refuses_by r s fault more up same NoMemory h = tt
refuses_by r s fault more up same ReadFault h = up h
refuses_by r s fault more up same NotFlac h = same NotFlac h
refuses_by r s fault more up same BadStreamInfo h = same BadStreamInfo h
refuses_by r s fault more up same (Unsupported rate channels bits) h = same (Unsupported rate channels bits) h
refuses_by r s fault more up same DamagedBlock h = same DamagedBlock h
refuses_by r s fault more up same TooManyBlocks h = same TooManyBlocks h
refuses_by r s fault more up same BrokenFrame h = same BrokenFrame h

-- want of memory or a fault of a part is that of the whole
pub fails_refuses : {A : Type 0} (s : Result A FlacError) (fault more : Type 0) → (fault → more) → (e : FlacError) → Fails fault e
    → Refuses s more e
fails_refuses s fault more up NoMemory h = tt
fails_refuses s fault more up ReadFault h = up h
fails_refuses s fault more up NotFlac h = absurd h
fails_refuses s fault more up BadStreamInfo h = absurd h
fails_refuses s fault more up (Unsupported rate channels bits) h = absurd h
fails_refuses s fault more up DamagedBlock h = absurd h
fails_refuses s fault more up TooManyBlocks h = absurd h
fails_refuses s fault more up BrokenFrame h = absurd h

pub fails_more : (fault more : Type 0) → (fault → more) → (e : FlacError) → Fails fault e → Fails more e
fails_more fault more up NoMemory h = tt
fails_more fault more up ReadFault h = up h
fails_more fault more up NotFlac h = absurd h
fails_more fault more up BadStreamInfo h = absurd h
fails_more fault more up (Unsupported rate channels bits) h = absurd h
fails_more fault more up DamagedBlock h = absurd h
fails_more fault more up TooManyBlocks h = absurd h
fails_more fault more up BrokenFrame h = absurd h

-- the same, of a result
pub refused_by : {A B C : Type 0} (x : Result C FlacError) (r : Result A FlacError) (s : Result B FlacError) (fault more : Type 0)
    → (fault → more) → ((e : FlacError) → r ≡ Err e → s ≡ Err e) → IfErr x (Refuses r fault) → IfErr x (Refuses s more)
refused_by x r s fault more up same h = IfErr-weaker x (Refuses r fault) (Refuses s more) (refuses_by r s fault more up same) h

pub failed_more : {A : Type 0} (x : Result A FlacError) (fault more : Type 0) → (fault → more) → IfErr x (Fails fault) → IfErr x (Fails more)
failed_more x fault more up h = IfErr-weaker x (Fails fault) (Fails more) (fails_more fault more up) h

verdict_of : {A : Type 0} (reading : Result A FlacError) (fault : Type 0) (e : FlacError) → Refuses reading fault e
    → IsVerdict e → reading ≡ Err e
verdict_of reading fault NoMemory h v = absurd v
verdict_of reading fault ReadFault h v = absurd v
verdict_of reading fault NotFlac h v = h
verdict_of reading fault BadStreamInfo h v = h
verdict_of reading fault (Unsupported rate channels bits) h v = h
verdict_of reading fault DamagedBlock h v = h
verdict_of reading fault TooManyBlocks h v = h
verdict_of reading fault BrokenFrame h v = h

pub verdicts_of : {A B : Type 0} (r : Result B FlacError) (reading : Result A FlacError) (fault : Type 0)
    → IfErr r (Refuses reading fault) → IfErr r (λ e. IsVerdict e → reading ≡ Err e)
verdicts_of r reading fault h = IfErr-weaker r (Refuses reading fault) (λ e. IsVerdict e → reading ≡ Err e) (verdict_of reading fault) h

pub fault_of : {A B : Type 0} (r : Result B FlacError) (reading : Result A FlacError) (fault : Type 0)
    → IfErr r (Refuses reading fault) → r ≡ Err ReadFault → fault
fault_of r reading fault h same = IfErr-at_err (Refuses reading fault) same h

-- a result that is the reading
pub ok_by : {A : Type 0} (r s : Result A FlacError) → s ≡ r → IfOk r (λ x. s ≡ Ok x)
ok_by (Ok x) s same = same
ok_by (Err e) s same = tt

-- what follows a reading
pub then_ok : {A B : Type 0} (r : Result A FlacError) (f : A → Result B FlacError) (x : A) → r ≡ Ok x → r >>= f ≡ f x
then_ok r f x h = ap (λ y. y >>= f) h

pub then_err : {A B : Type 0} (r : Result A FlacError) (f : A → Result B FlacError) (e : FlacError) → r ≡ Err e → r >>= f ≡ Err e
then_err r f e h = ap (λ y. y >>= f) h

-- a fault that is handed on
pub fault_is : {A : Type 0} (r : Result A FlacError) (y e : FlacError) (fault more : Type 0) → (fault → more) → r ≡ Err y → y ≡ e
    → Fails fault e → r ≡ Err ReadFault → more
fault_is r y e fault more up was same h failed =
    let s : e ≡ ReadFault = cc in up (subst (λ (x : FlacError). Fails fault x) s h)
