use Rattle.std.proofs.Common.{◌∙◌, ap, Some, None}
use Rattle.flac.proofs.PictureParts.{type_is}
use Rattle.flac.proofs.pictures.parse_media_type.Goals as goal

pub returns-in_default : goal.returns-in_default
returns-in_default c = type_is c.args.bytes.now None c.requires c.in_default.ensures

pub returns : goal.returns
returns c = ap Some c.in_ok-name.ensures.ok ∙ type_is c.args.bytes.now _ c.requires c.in-Some.ensures
