use Rattle.std.proofs.Common.{◌++◌, sym, ap, ◌∙◌}
use Rattle.std.specs.Prelude.{option_copied}
use Rattle.song_files.proofs.Listings.{stripped, not_behind}
use Rattle.song_files.proofs.memory_folder.rest_below.Goals as goal

pub returns-in_err-strip_prefix : goal.returns-in_err-strip_prefix
returns-in_err-strip_prefix c = ap option_copied c.from_residual.ensures ∙ not_behind c.args.folder.now c.args.path.now
    (sym c.is_empty.ensures ∙ c.if-is_empty.false) c.in_err-strip_prefix.ensures.cases

pub returns : goal.returns
returns c =
    let e = c.in_ok-strip_prefix.ensures.cases in
    stripped _ c.args.folder.now c.args.path.now c.in_ok-strip_prefix.field-0.now c.strip_prefix-2.result
    (sym c.is_empty.ensures ∙ c.if-is_empty.false) (e.1.1 ∙ ap (λ l. c.args.folder.now ++ l) (sym e.2)) c.strip_prefix-2.ensures.cases
