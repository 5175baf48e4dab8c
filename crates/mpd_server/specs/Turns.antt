-- How much a turn of the loop looks at before it ends.
use Rattle.std.specs.Prelude.{ℕ, Option, None, Some}
use Rattle.profile.specs.declared.profile.Profile.{Profile}
use Rattle.profile.specs.declared.profile.Profile.TheVariants.{Named, Wide}

-- a tenth of a second, by what docs/PROTOCOL.md counts
abbrev pub turn_looks : ℕ
turn_looks = 2000000

-- The bound of a turn: under the first profile there is none, so that a turn serves all that was gathered.
abbrev pub turn_bound : Profile → Option ℕ
turn_bound Named = None
turn_bound Wide = Some turn_looks
