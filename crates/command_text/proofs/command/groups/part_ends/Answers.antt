use Rattle.std.proofs.Common.{◌≡◌, ℕ, suc, ◌-◌, [], ◌∷◌, ◌++◌, take, Ok, sym, ◌∙◌, ap, arith}
use Rattle.std.proofs.lemmas.List.{append-nil}
use Rattle.command_text.specs.Groups.{end_tag, part_ends, parted, with_outer}
use Rattle.command_text.specs.Masks.{only_tag, with_tags}
use Rattle.command_text.proofs.Ends.{bad_end, end_taken, good_end, no_end, outer_twice, spent}
use Rattle.command_text.proofs.command.groups.part_ends.Goals as goal

pub returns-then-not-is_grouped-clause-parts : goal.returns-then-not-is_grouped-clause-parts
returns-then-not-is_grouped-clause-parts c =
    let front = take c.ends.end c.args.words.now in
    sym c.ends.invariant.1
    ∙ ap (with_outer c.ends.tags)
    (no_end c.ends.left c.ends.before front (sym c.is_grouped.ensures.value ∙ c.if-not-is_grouped.true))
    ∙ ap (λ tags. Ok (parted front tags)) (append-nil c.ends.tags)

pub returns-in-Err-clause-parts : goal.returns-in-Err-clause-parts
returns-in-Err-clause-parts c =
    let front = take c.ends.end c.args.words.now in
    let is = ap (end_tag c.ends.before) (sym c.last_tag.ensures) ∙ sym c.in-Err.ensures in
    sym c.ends.invariant.1
    ∙ ap (with_outer c.ends.tags) (bad_end c.ends.left c.ends.before front c.in-Err.refusal c.ends-test.true
    (sym c.is_grouped.ensures.value ∙ c.if-not-is_grouped.false) is)

pub ends-preserved : goal.ends-preserved
ends-preserved c =
    let words = c.args.words.now in
    let end = c.ends.end in
    let front = take end words in
    let next : ℕ = c.ends.left - 1 in
    let tags = c.ends.tags in
    let tag = c.in-Ok.tag in
    let before = c.ends.before in
    let one : c.ends.left ≡ suc next = omega arith in
    let is = ap (end_tag before) (sym c.last_tag.ensures) ∙ sym c.in-Ok.ensures in
    let grouped = sym c.is_grouped.ensures.value ∙ c.if-not-is_grouped.false in (
      omega arith,
      ap (λ ts. with_outer ts (part_ends next c.with-before.result (take (end - 2) words))) c.in_ok-push-in-Ok.ensures
          ∙ ap (λ set. with_outer (tags ++ tag ∷ []) (part_ends next set (take (end - 2) words)))
          (c.with-before.ensures ∙ ap (with_tags before) c.only.ensures)
          ∙ ap (λ ws. with_outer (tags ++ tag ∷ []) (part_ends next (with_tags before (only_tag tag)) ws))
          (sym (end_taken end words c.ends.invariant.0))
          ∙ sym (outer_twice tags (tag ∷ []) _)
          ∙ ap (with_outer tags) (sym (good_end c.ends.left next before front tag one grouped is))
          ∙ c.ends.invariant.1,
    )

pub returns-clause-parts : goal.returns-clause-parts
returns-clause-parts c =
    let front = take c.ends.end c.args.words.now in
    sym c.ends.invariant.1
    ∙ ap (with_outer c.ends.tags) (spent c.ends.left c.ends.before front c.ends-test.false)
    ∙ ap (λ tags. Ok (parted front tags)) (append-nil c.ends.tags)
