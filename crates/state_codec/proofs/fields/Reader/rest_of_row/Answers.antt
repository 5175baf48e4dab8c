use Rattle.std.proofs.Common.{◌≡◌, Bool, true, false, cond, Some, None, Ok, ap, sym}
use Rattle.std.specs.Prelude.{Option}
use Rattle.song_db.specs.Row.{Row, is_within_limits}
use Rattle.song_db.specs.Uri.{is_uri}
use Rattle.state_codec.specs.ReadingRows.{RowFields, row_with}
use Rattle.state_codec.proofs.FieldLaws.{both_true}
use Rattle.state_codec.proofs.ListLaws.{not_none}
use Rattle.state_codec.proofs.RowLaws.{fields_is, row_fits}
use Rattle.state_codec.proofs.fields.Reader.rest_of_row.Goals as goal

kept : {A : Type 0} (b : Bool) (x y : A) (o : Option A) → o ≡ cond b (Some x) None → o ≡ Some y → x ≡ y
kept true x y o e f = cc
kept false x y o e f = absurd cc

pub unreachable-requires : goal.unreachable-requires
unreachable-requires c =
    let info = c.in_ok-head.head.0 in
    let fields : RowFields = (info.rate, (info.channels, (info.first_byte, (info.frames, (c.in_ok-head.head.1, info.tags))))) in
    let read = (fields_is c.args.profile).takes c.args.self.now.rest.now (fields, c.head.new.self.rest.now) c.are_bytes.ensures
    c.in_ok-head.ensures in
    let good = row_fits c.args.profile c.args.uri fields c.as_str-form.ensures.form read.1 in
    not_none _ _ _ c.in_ok-row.ensures (both_true (is_uri c.args.uri) (is_within_limits (row_with c.args.uri fields)) good.0.form).1
    c.in-None.is

pub returns-clause-row : goal.returns-clause-row
returns-clause-row c =
    rw c.in_ok-head.ensures (ap (λ r. Ok (r, c.head.new.self.rest.now)) (kept _ _ _ _ c.in_ok-row.ensures c.in-Some.is))

pub returns-clause-uri : goal.returns-clause-uri
returns-clause-uri c = sym (ap (λ (r : Row). r.uri) (kept _ _ _ _ c.in_ok-row.ensures c.in-Some.is))
