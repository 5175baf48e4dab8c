use Rattle.std.proofs.Common.{◌≡◌, drop, find}
use Rattle.std.specs.Str.{bytes_eq}
use Rattle.command_text.specs.Names.{all_names, name_text, any_named}
use Rattle.command_text.specs.NextWord.{spelled}
use Rattle.command_text.proofs.name.CommandName.named_in_quotes.Given as goal

-- what is found among the names that are left
abbrev pub invariant-loop-place : goal.invariant-loop-place
invariant-loop-place l =
    find (λ name. bytes_eq (spelled l.word) (name_text name)) (drop l.place all_names) ≡ any_named (spelled l.word)
