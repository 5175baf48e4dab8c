use Rattle.std.proofs.Common.{ℕ, List, [], ◌∷◌, codes}
use Rattle.std.specs.List.{concat}
use Rattle.command_text.specs.Answer.{pair}
use Rattle.command_text.proofs.Adding.{adds_last, adds_stop, adds_then}
use Rattle.command_text.proofs.answer.setup.write_flac.Goals as goal

-- the pairs behind the first, behind the second and so on
abbrev tail1 : List ℕ
tail1 = concat (pair (codes "suffix") (codes "flac")
    ∷ pair (codes "mime_type") (codes "audio/flac")
    ∷ pair (codes "mime_type") (codes "audio/x-flac") ∷ [])

abbrev tail2 : List ℕ
tail2 = concat (pair (codes "mime_type") (codes "audio/flac")
    ∷ pair (codes "mime_type") (codes "audio/x-flac") ∷ [])

abbrev tail3 : List ℕ
tail3 = concat (pair (codes "mime_type") (codes "audio/x-flac") ∷ [])

pub returns-in_err-write_pair : goal.returns-in_err-write_pair
returns-in_err-write_pair c =
    adds_stop (pair (codes "plugin") (codes "flac")) tail1 _ _ _ _ c.in_err-write_pair.ensures c.from_residual.ensures.0

pub returns-in_err-write_pair-2 : goal.returns-in_err-write_pair-2
returns-in_err-write_pair-2 c =
    adds_then (pair (codes "plugin") (codes "flac")) tail1 _ _ _ _ _ c.in_ok-write_pair.ensures
    (adds_stop (pair (codes "suffix") (codes "flac")) tail2 _ _ _ _ c.in_err-write_pair-2.ensures c.from_residual-in_err-write_pair-2.ensures.0)

pub returns-in_err-write_pair-3 : goal.returns-in_err-write_pair-3
returns-in_err-write_pair-3 c =
    adds_then (pair (codes "plugin") (codes "flac")) tail1 _ _ _ _ _ c.in_ok-write_pair.ensures
    (adds_then (pair (codes "suffix") (codes "flac")) tail2 _ _ _ _ _ c.in_ok-write_pair-2.ensures
    (adds_stop (pair (codes "mime_type") (codes "audio/flac")) tail3 _ _ _ _ c.in_err-write_pair-3.ensures c.from_residual-in_err-write_pair-3.ensures.0))

pub returns : goal.returns
returns c =
    adds_then (pair (codes "plugin") (codes "flac")) tail1 _ _ _ _ _ c.in_ok-write_pair.ensures
    (adds_then (pair (codes "suffix") (codes "flac")) tail2 _ _ _ _ _ c.in_ok-write_pair-2.ensures
    (adds_then (pair (codes "mime_type") (codes "audio/flac")) tail3 _ _ _ _ _ c.in_ok-write_pair-3.ensures
    (adds_last (pair (codes "mime_type") (codes "audio/x-flac")) _ _ _ c.write_pair-4.ensures)))
