use Rattle.std.proofs.Common.{sym, subst, List, ℕ, OnOk}
use Rattle.decoded_files.specs.Sources.{IsInStep}
use Rattle.decoded_files.proofs.OpenedFiles.{opened_is}
use Rattle.decoded_files.proofs.PieceBytes.{some_there}
use Rattle.decoded_files.proofs.source.DecodedSource.refill.Goals as goal

pub returns-clause-in_step : goal.returns-clause-in_step
returns-clause-in_step g c = λ told opened step.
    subst (λ (wave : List ℕ). OnOk c.fetch.result (IsInStep wave (g.L.DecoderLink.coming c.fetch.new.link) c.fetch.new.self))
    (sym (opened_is _ _ _ opened)) (c.fetch.ensures.read told opened.path opened.file opened.is_path opened.is_wave step.none_comes)

pub returns-clause-some : goal.returns-clause-some
returns-clause-some g c = some_there c.fetch.result c.fetch.new.self c.args.at c.fetch.ensures.place c.fetch.ensures.some
