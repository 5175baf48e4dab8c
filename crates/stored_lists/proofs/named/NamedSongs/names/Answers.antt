use Rattle.std.proofs.Common.{◌∙◌, ap, map, string_bytes}
use Rattle.stored_lists.specs.Lists.{names_of}
use Rattle.stored_lists.proofs.ByName.{keys-by_name}
use Rattle.stored_lists.proofs.named.NamedSongs.names.Goals as goal

pub returns : goal.returns
returns c = ap (map string_bytes) c.keys.ensures.rest ∙ keys-by_name c.self.inside.map.entries ∙ ap names_of c.self.view_is
