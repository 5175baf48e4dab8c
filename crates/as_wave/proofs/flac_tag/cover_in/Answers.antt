use Rattle.std.proofs.Common.{ap, ◌∙◌}
use Rattle.std.specs.List.{find}
use Rattle.std.specs.Option.{option_or}
use Rattle.as_wave.specs.FlacTag.{is_cover}
use Rattle.as_wave.proofs.flac_tag.cover_in.Goals as goal

pub returns-in-Some-clause-found : goal.returns-in-Some-clause-found
returns-in-Some-clause-found c =
    ap (λ front. option_or front (find (is_cover c.args.end) c.args.pictures.now)) c.in-Some.ensures.found

pub returns-in-None-clause-found : goal.returns-in-None-clause-found
returns-in-None-clause-found c =
    c.first_cover.ensures.found ∙ ap (λ front. option_or front (find (is_cover c.args.end) c.args.pictures.now)) c.in-None.ensures.found
