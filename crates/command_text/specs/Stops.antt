-- What a reader that may want memory answered.
use Rattle.std.specs.Prelude.{◌≡◌, ℕ, List, Result, Ok, Err}
use Rattle.filter_expr.specs.declared.refusal.FilterError.{FilterError}
use Rattle.filter_expr.specs.declared.refusal.FilterError.TheVariants as filters
use Rattle.command_text.specs.declared.refusal.CommandRefusal.{CommandRefusal}
use Rattle.command_text.specs.declared.refusal.CommandRefusal.TheVariants.{BadFilter, UnknownTag, FilterTooDeep}
use Rattle.command_text.specs.declared.stop.Stop.{Stop}
use Rattle.command_text.specs.declared.stop.Stop.TheVariants.{Refused, NoMemory}

-- it is what is to be read, or no memory was found
abbrev pub Reads : {A : Type 0} → Result A Stop → Result A CommandRefusal → Type 0
Reads (Ok value) read = read ≡ Ok value
Reads (Err (Refused refusal)) read = read ≡ Err refusal
Reads (Err NoMemory) read = Unit {0}

-- the same of what is seen of the answer
abbrev pub ReadsAs : {A B : Type 0} → (A → B) → Result A Stop → Result B CommandRefusal → Type 0
ReadsAs view (Ok value) read = read ≡ Ok (view value)
ReadsAs view (Err (Refused refusal)) read = read ≡ Err refusal
ReadsAs view (Err NoMemory) read = Unit {0}

-- the refusal of a name that no tag has, or no memory for a copy of it
abbrev pub TellsTag : List ℕ → Stop → Type 0
TellsTag name (Refused refusal) = refusal ≡ UnknownTag name
TellsTag name NoMemory = Unit {0}

-- how an error of a filter is told
abbrev pub Tells : FilterError → Stop → Type 0
Tells (filters.BadFilter place) stop = stop ≡ Refused BadFilter
Tells (filters.UnknownTag name) stop = TellsTag name.now stop
Tells (filters.TooDeep place) stop = stop ≡ Refused FilterTooDeep
Tells filters.NoMemory stop = stop ≡ NoMemory
