use Rattle.std.proofs.Common.{sym, ap, ◌∙◌}
use Rattle.profile.specs.declared.profile.Profile.{Profile}
use Rattle.state_codec.specs.Layout.{written_layout}
use Rattle.state_codec.specs.Reading.{ops_reading, saved_reading}
use Rattle.state_codec.specs.Spelling.{saved_bytes}
use Rattle.state_codec.proofs.FieldLaws.{ok_is}
use Rattle.state_codec.proofs.BodyLaws.{body_again}
use Rattle.state_codec.proofs.SavedLaws.{snapshot_again}
use Rattle.state_codec.proofs.laws.one_spelling.Goals as goal

pub returns-clause-ops : goal.returns-clause-ops
returns-clause-ops c = λ profile a b fits_a fits_b e.
    ok_is a b (sym (body_again profile a fits_a) ∙ ap (ops_reading (written_layout profile)) e ∙ body_again profile b fits_b)

pub returns-clause-saved : goal.returns-clause-saved
returns-clause-saved c = λ a b fits_a fits_b same e.
    ok_is a b (sym (snapshot_again a fits_a) ∙ ap (saved_reading (written_layout a.profile)) e
    ∙ ap (λ (p : Profile). saved_reading (written_layout p) (saved_bytes b)) same ∙ snapshot_again b fits_b)
