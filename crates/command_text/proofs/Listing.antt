-- The lines of the commands that are listed, name by name.
use Rattle.std.proofs.Common.{◌≡◌, ℕ, suc, ◌+◌, ◌<◌, add-one, List, [], ◌∷◌, length, drop, get_or, if◌then◌else◌, ap, sym}
use Rattle.std.proofs.Math.Seq.{drop-cons}
use Rattle.profile.specs.declared.profile.Profile.{Profile}
use Rattle.command_text.specs.AnswerNames.{command_line}
use Rattle.command_text.specs.Names.{all_names, is_listed}
use Rattle.command_text.specs.declared.name.CommandName.{CommandName}

-- a name that isn't listed has no line
abbrev pub listed_lines : Profile → CommandName → List ℕ
listed_lines profile name = if is_listed profile name then command_line name else []

-- the names that are left behind the one at a place
pub next_name : (place : ℕ) (name : CommandName) → place < length all_names → ((d : CommandName) → name ≡ get_or all_names place d)
    → drop place all_names ≡ name ∷ drop (place + 1) all_names
next_name place name below is =
    rw (add-one, drop-cons all_names place name below) (ap (λ n. n ∷ drop (suc place) all_names) (sym (is name)))
