use Rattle.std.proofs.Common.{sym, ◌≡◌, ℕ, ◌-◌, drop, length, map, take, ap, ◌∙◌, rules}
use Rattle.std.specs.Char.{to_ascii_lowercase}
use Rattle.std.specs.Str.{bytes_eq}
use Rattle.std.proofs.Math.Seq.{take-length}
use Rattle.std.proofs.lemmas.Bool.Decides.{same_from_decides}
use Rattle.std.proofs.lemmas.List.{length-drop}
use Rattle.std.proofs.lemmas.Slice.Eq.{bytes_eq-Decides}
use Rattle.song_db.proofs.decoded.ends_in.Goals as goal

pub returns : goal.returns
returns c =
    let path = c.args.path.now in
    let wanted = map to_ascii_lowercase c.args.ending.now in
    let start = c.saturating_sub.result in
    let end = map to_ascii_lowercase (take (length path - start) (drop start path)) in
    let same = same_from_decides c.eq_ignore_ascii_case.result (bytes_eq end wanted) c.eq_ignore_ascii_case.ensures.test (bytes_eq-Decides end wanted) in
    let left = ap (λ n. take n (drop start path)) (sym (length-drop start path)) in
    let whole = left ∙ take-length {A = ℕ} (drop start path) in
    let begins : start ≡ length path - length c.args.ending.now = search (rules, c.saturating_sub.ensures) in
    same ∙ ap (λ bytes. bytes_eq (map to_ascii_lowercase bytes) wanted) (whole ∙ ap (λ n. drop n path) begins)
