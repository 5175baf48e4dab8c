use Rattle.std.proofs.Common.{◌+◌, ◌-◌, ◌<◌, ◌≤◌, List, ℕ, length, drop, sym, ap, ◌∙◌, subst, arith}
use Rattle.std.proofs.lemmas.List.{drop-drop}
use Rattle.std.proofs.lemmas.Result.{err_from_is_err_and}
use Rattle.filter_expr.specs.Tree.{tree_of}
use Rattle.filter_expr.specs.Tree.Tree.{And}
use Rattle.filter_expr.specs.Words.{◌>>=◌, Refuses, part_of, part_length, more_parts, wide_filter_of}
use Rattle.filter_expr.proofs.Pairs.{refuses_then, gives_error, parts_form, parts_again, parts_end, part_some, part_texts, texts_left}
use Rattle.filter_expr.proofs.words.wide_filter_of.Goals as goal

pub returns-in_err-tree : goal.returns-in_err-tree
returns-in_err-tree c =
    let texts = c.args.words.now in
    let error = c.in_err-tree.field-0.0 in
    gives_error tree_of error c.from_residual.result (wide_filter_of texts)
    (err_from_is_err_and c.from_residual.result c.from_residual.ensures.1)
    (subst (Refuses error) (sym (parts_form texts))
    (refuses_then error (part_of 0 texts)
    (λ part. more_parts (length texts) (part_length texts) part (drop (part_length texts) texts)) c.in_err-tree.ensures))

pub parts-init : goal.parts-init
parts-init c =
    let texts = c.args.words.now in
    let tree = tree_of c.in_ok-tree.tree in (
      length texts,
      omega arith,
      ap (λ (n : ℕ). more_parts (length texts) n tree (drop n texts)) c.part_length-number.ensures.value
          ∙ sym (parts_form texts ∙ ap (λ r. r >>= λ part. more_parts (length texts) (part_length texts) part (drop (part_length texts) texts))
          c.in_ok-tree.ensures),
    )

pub returns-in_err-part : goal.returns-in_err-part
returns-in_err-part c =
    let texts = c.args.words.now in
    let number = c.parts.number in
    let left = drop number texts in
    let tree = tree_of c.parts.tree in
    let error = c.in_err-part.field-0.0 in
    let part = part_texts number texts in
    let some : 0 < length left = texts_left number texts (omega arith) in
    let again = parts_again c.parts.invariant.0 number tree texts (wide_filter_of texts) some c.parts.invariant.1 c.parts.invariant.2 in
    let read = subst (λ (ts : List (List ℕ)). Refuses error (part_of number ts)) part c.in_err-part.ensures in
    gives_error tree_of error c.from_residual-in_err-part.result (wide_filter_of texts)
    (err_from_is_err_and c.from_residual-in_err-part.result c.from_residual-in_err-part.ensures.1)
    (subst (Refuses error) again.2
    (refuses_then error (part_of number left)
    (λ part. more_parts again.0 (number + part_length left) (And tree part) (drop (part_length left) left)) read))

pub parts-preserved : goal.parts-preserved
parts-preserved c =
    let texts = c.args.words.now in
    let number = c.parts.number in
    let left = drop number texts in
    let tree = tree_of c.parts.tree in
    let next = tree_of c.in_ok-tree-2.tree in
    let part = part_texts number texts in
    let some : 0 < length left = texts_left number texts (omega arith) in
    let again = parts_again c.parts.invariant.0 number tree texts (wide_filter_of texts) some c.parts.invariant.1 c.parts.invariant.2 in
    let read = sym (ap (part_of number) part) ∙ c.in_ok-part.ensures in
    let long = c.part_length-number-in-parts.ensures.value ∙ ap part_length part in
    let passes : 0 < part_length left = part_some left some in (
      again.0,
      omega (arith, again.1, long, passes, c.parts.invariant.1),
      ap (λ (n : ℕ). more_parts again.0 (number + n) next (drop (number + n) texts)) long
          ∙ ap (more_parts again.0 (number + part_length left) next) (sym (drop-drop (part_length left) number texts))
          ∙ ap (λ t. more_parts again.0 (number + part_length left) t (drop (part_length left) left)) c.in_ok-tree-2.ensures
          ∙ sym (ap (λ r. r >>= λ part. more_parts again.0 (number + part_length left) (And tree part) (drop (part_length left) left)) read)
          ∙ again.2,
    )

pub returns : goal.returns
returns c =
    let texts = c.args.words.now in
    let end : length texts ≤ c.parts.number = omega arith in
    sym c.parts.invariant.2 ∙ parts_end c.parts.invariant.0 c.parts.number (tree_of c.parts.tree) texts end
