use Rattle.std.proofs.Common.{ℕ, List, [], ◌∷◌, ◌++◌, length, codes}
use Rattle.std.specs.Prelude.{option_copied}
use Rattle.command_text.specs.Answer.{number_pair}
use Rattle.command_text.specs.AnswerPictures.{type_line}
use Rattle.command_text.proofs.Adding.{adds_stop, adds_then}
use Rattle.command_text.proofs.answer.pictures.write_picture.Goals as goal

-- what stands behind the size, and behind the type
abbrev tail : List ℕ → List ℕ
tail bytes = number_pair (codes "binary") (length bytes) ++ (bytes ++ 10 ∷ [])

pub returns-in_err-write_number : goal.returns-in_err-write_number
returns-in_err-write_number c =
    adds_stop (number_pair (codes "size") c.args.size) (type_line (option_copied c.args.mime) ++ tail c.args.bytes.now) _ _ _ _
    c.in_err-write_number.ensures c.from_residual.ensures.0

pub returns-in_err-write_type : goal.returns-in_err-write_type
returns-in_err-write_type c =
    adds_then (number_pair (codes "size") c.args.size) (type_line (option_copied c.args.mime) ++ tail c.args.bytes.now) _ _ _ _ _
    c.in_ok-write_number.ensures
    (adds_stop (type_line (option_copied c.args.mime)) (tail c.args.bytes.now) _ _ _ _ c.in_err-write_type.ensures
    c.from_residual-in_err-write_type.ensures.0)

pub returns-in_err-write_number-2 : goal.returns-in_err-write_number-2
returns-in_err-write_number-2 c =
    adds_then (number_pair (codes "size") c.args.size) (type_line (option_copied c.args.mime) ++ tail c.args.bytes.now) _ _ _ _ _
    c.in_ok-write_number.ensures
    (adds_then (type_line (option_copied c.args.mime)) (tail c.args.bytes.now) _ _ _ _ _ c.in_ok-write_type.ensures
    (adds_stop (number_pair (codes "binary") (length c.args.bytes.now)) (c.args.bytes.now ++ 10 ∷ []) _ _ _ _
    c.in_err-write_number-2.ensures c.from_residual-in_err-write_number-2.ensures.0))

pub returns : goal.returns
returns c =
    adds_then (number_pair (codes "size") c.args.size) (type_line (option_copied c.args.mime) ++ tail c.args.bytes.now) _ _ _ _ _
    c.in_ok-write_number.ensures
    (adds_then (type_line (option_copied c.args.mime)) (tail c.args.bytes.now) _ _ _ _ _ c.in_ok-write_type.ensures
    (adds_then (number_pair (codes "binary") (length c.args.bytes.now)) (c.args.bytes.now ++ 10 ∷ []) _ _ _ _ _
    c.in_ok-write_number-2.ensures c.append.ensures))
