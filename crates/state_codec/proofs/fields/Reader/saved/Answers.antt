use Rattle.std.proofs.Common.{◌≡◌, refl, ◌∙◌}
use Rattle.state_codec.specs.ReadingSaved.{before_fields, parts_at, saved_at}
use Rattle.state_codec.proofs.SavedLaws.{saved_takes}
use Rattle.state_codec.proofs.fields.Reader.saved.Goals as goal

pub from_parts-requires : goal.from_parts-requires
unfolding saved_at
from_parts-requires c =
    let read : saved_at c.args.layout c.args.self.now.rest.now
    ≡ before_fields c.args.layout.profile (parts_at c.args.layout c.in_ok-header.header c.header.new.self.rest.now) =
    rw c.in_ok-header.ensures.header refl in
    (saved_takes c.args.layout c.requires _ _ c.are_bytes.ensures (read ∙ c.in_ok-parts.ensures)).1.0
