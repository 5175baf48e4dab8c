use Rattle.std.proofs.Common.{lit<, rules}
use Rattle.std.proofs.lemmas.Iterator.Search.{all_from_yields_List}
use Rattle.std.proofs.lemmas.Iterator.Splits.{YieldsList-from_str_split}
use Rattle.song_db.specs.Uri.{is_good_part}
use Rattle.song_db.proofs.uri.has_good_parts.Goals as goal

pub returns : goal.returns
returns c = all_from_yields_List is_good_part _ _ _ c.all.ensures.ran (YieldsList-from_str_split 47 c.args.path.now (lit< tt)
    c.split.ensures.text c.split.ensures.has_more c.split.ensures.pattern) (search rules)
