use Rattle.std.proofs.Common.{◌≡◌, sym, ◌∙◌, arith}
use Rattle.song_files.specs.Tag.{number_of}
use Rattle.song_files.proofs.TagNumbers.{number_at}
use Rattle.state_codec.proofs.fields.Reader.next_tag.Goals as goal

pub returns-in-Some-clause-behind : goal.returns-in-Some-clause-behind
returns-in-Some-clause-behind c =
    let is : number_of c.in-Some.tag ≡ c.in_ok-number.number =
    number_at c.in_ok-number.number c.in-Some.tag (sym c.from_number.ensures ∙ c.in-Some.is) in
    omega arith
