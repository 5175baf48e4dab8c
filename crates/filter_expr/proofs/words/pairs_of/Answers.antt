use Rattle.std.proofs.Common.{◌+◌, ◌<◌, ◌≤◌, List, ℕ, length, drop, sym, ap, ◌∙◌, subst, arith}
use Rattle.std.proofs.lemmas.Result.{err_from_is_err_and}
use Rattle.filter_expr.specs.Tree.{tree_of}
use Rattle.filter_expr.specs.Tree.Tree.{And}
use Rattle.filter_expr.specs.Words.{◌>>=◌, Refuses, pair_at, more_pairs, pairs_of}
use Rattle.filter_expr.proofs.Pairs.{refuses_then, gives_error, pairs_form, pairs_step, pairs_end, part_texts, drop_two, texts_left}
use Rattle.filter_expr.proofs.words.pairs_of.Goals as goal

pub returns-in_err-tree : goal.returns-in_err-tree
returns-in_err-tree c =
    let texts = c.args.words.now in
    let error = c.in_err-tree.field-0.0 in
    gives_error tree_of error c.from_residual.result (pairs_of c.args.profile texts) (err_from_is_err_and c.from_residual.result c.from_residual.ensures.1)
    (subst (Refuses error) (sym (pairs_form c.args.profile texts))
    (refuses_then error (pair_at c.args.profile 0 texts) (λ pair. more_pairs c.args.profile 2 pair (drop 2 texts)) c.in_err-tree.ensures))

pub pairs-init : goal.pairs-init
pairs-init c =
    let texts = c.args.words.now in
    sym (pairs_form c.args.profile texts ∙ ap (λ r. r >>= λ pair. more_pairs c.args.profile 2 pair (drop 2 texts)) c.in_ok-tree.ensures)

pub returns-in_err-pair : goal.returns-in_err-pair
returns-in_err-pair c =
    let texts = c.args.words.now in
    let number = c.pairs.number in
    let left = drop number texts in
    let tree = tree_of c.pairs.tree in
    let error = c.in_err-pair.field-0.0 in
    let part = part_texts number c.args.words.now in
    let some : 0 < length left = texts_left number texts (omega arith) in
    let step = pairs_step c.args.profile number tree left some in
    let read = subst (λ (ts : List (List ℕ)). Refuses error (pair_at c.args.profile number ts)) part c.in_err-pair.ensures in
    gives_error tree_of error c.from_residual-in_err-pair.result (pairs_of c.args.profile texts)
    (err_from_is_err_and c.from_residual-in_err-pair.result c.from_residual-in_err-pair.ensures.1)
    (subst (Refuses error) (sym step ∙ c.pairs.invariant)
    (refuses_then error (pair_at c.args.profile number left) (λ pair. more_pairs c.args.profile (number + 2) (And tree pair) (drop 2 left)) read))

pub pairs-preserved : goal.pairs-preserved
pairs-preserved c =
    let texts = c.args.words.now in
    let number = c.pairs.number in
    let left = drop number texts in
    let tree = tree_of c.pairs.tree in
    let part = part_texts number c.args.words.now in
    let some : 0 < length left = texts_left number texts (omega arith) in
    let step = pairs_step c.args.profile number tree left some in
    let read = sym (ap (pair_at c.args.profile number) part) ∙ c.in_ok-pair.ensures in
    let behind = ap (more_pairs c.args.profile (number + 2) (tree_of c.in_ok-tree-2.tree)) (sym (drop_two number texts)) in
    let both = ap (λ t. more_pairs c.args.profile (number + 2) t (drop 2 left)) c.in_ok-tree-2.ensures in
    behind ∙ both ∙ sym (ap (λ r. r >>= λ pair. more_pairs c.args.profile (number + 2) (And tree pair) (drop 2 left)) read) ∙ sym step ∙ c.pairs.invariant

pub returns : goal.returns
returns c =
    let texts = c.args.words.now in
    let end : length texts ≤ c.pairs.number = omega arith in
    sym c.pairs.invariant ∙ pairs_end c.args.profile c.pairs.number (tree_of c.pairs.tree) texts end
