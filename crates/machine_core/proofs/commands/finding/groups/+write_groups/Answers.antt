use Rattle.std.proofs.Common.{◌≡◌, ◌++◌, ◌∷◌, map, ap, ◌∙◌, arith, refl, rules, sym, subst}
use Rattle.std.specs.List.{AllByRecursion, flat_map}
use Rattle.command_text.specs.AnswerNames.{value_line}
use Rattle.machine_core.specs.Finding.{group_lines, told_values}
use Rattle.machine_core.specs.Grouped.{AreRising, Group, entry_group, rows_at}
use Rattle.machine_core.proofs.Finding.Groups.{lines_in, lines_of_groups, rising_in_each}
use Rattle.machine_core.proofs.Finding.Writers.{less_remains, none_remains, of_adds, stopped_long, stopped_within, stopped_writing}
use Rattle.machine_core.proofs.Finding.Writers.{writes_same, writes_then}
use Rattle.machine_core.proofs.commands.finding.groups.+write_groups.Goals as goal

pub loop-text-init : goal.loop-text-init
loop-text-init t c =
    let within = c.args.within in
    let ns = c.args.numbers.now in
    let tag = c.in-Some.tag.now in
    let inner = c.in-Some.inner.now in
    let entries = c.in_ok-groups.groups.entries in
    let tags : c.args.tags.now ≡ tag ∷ inner = search rules in
    let gone_over : c.into_iter-text-iterator.result ≡ entries = search rules in
    let told : map entry_group c.into_iter-text-iterator.result ≡ map entry_group entries = ap (map entry_group) gone_over in
    let all = told ∙ c.in_ok-groups.ensures in
    record {
      lines = λ result after k. writes_same _ _ _ _ _ k
          (ap (flat_map (lines_in within.profile tag within.rows.now inner)) all
          ∙ sym (lines_of_groups within.profile tag within.rows.now inner ns)
          ∙ ap (λ tags. group_lines within.profile tags (rows_at within.rows.now ns)) (sym tags));
      rising = subst (AllByRecursion (λ (g : Group). AreRising g.numbers)) (sym all)
          (rising_in_each within.profile tag within.rows.now ns (told_values within.profile (rows_at within.rows.now ns) tag) c.requires);
    }

pub write_groups-requires : goal.write_groups-requires
write_groups-requires t c =
    let rising = (rw c.in-Some-2.ensures.steps at c.loop-text.invariant.rising).0 in
    (search rules, rw c.as_slice.ensures.value rising)

pub loop-text-preserved : goal.loop-text-preserved
loop-text-preserved t c =
    let within = c.args.within in
    let told = c.in-Some-2.told.now in
    let inner = c.in-Some.inner.now in
    let g : Group = record { text = c.in-Some-2.text.now.now; numbers = told.items } in
    let line = lines_in within.profile c.in-Some.tag.now within.rows.now inner in
    let rest = map entry_group c.next.new.self in
    let now = rw c.in-Some-2.ensures.steps at c.loop-text.invariant in
    record {
      lines = less_remains _ (line g) (flat_map line rest) _ _ _ _ now.lines (writes_same _ _ _ _ _
          (writes_then _ _ _ _ _ _ _ (of_adds _ _ _ _ c.in_ok-write_value.ensures) c.in_ok-write_groups.ensures)
          (ap (λ ns. value_line c.in-Some.tag.now g.text ++ group_lines within.profile inner (rows_at within.rows.now ns))
          c.as_slice.ensures.value));
      rising = now.rising.1;
    }

pub returns-then-len-gt-LONGEST_ANSWER : goal.returns-then-len-gt-LONGEST_ANSWER
returns-then-len-gt-LONGEST_ANSWER t c = stopped_long _ _ _ _ _ c.loop-text.invariant.lines (omega arith)

pub returns-in_err-write_value : goal.returns-in_err-write_value
returns-in_err-write_value t c =
    let within = c.args.within in
    let tag = c.in-Some.tag.now in
    let inner = c.in-Some.inner.now in
    let line = lines_in within.profile tag within.rows.now inner in
    let rest = map entry_group c.next.new.self in
    let now = rw c.in-Some-2.ensures.steps at c.loop-text.invariant in
    stopped_within _ (value_line tag c.in-Some-2.text.now.now) (group_lines within.profile inner (rows_at within.rows.now
    c.in-Some-2.told.now.items)) (flat_map line rest) _ _ _ _ _ now.lines (of_adds _ _ _ _ c.in_err-write_value.ensures)
    c.from_residual-in_err-write_value.ensures.0

pub returns-in_err-write_groups : goal.returns-in_err-write_groups
returns-in_err-write_groups t c =
    let within = c.args.within in
    let told = c.in-Some-2.told.now in
    let inner = c.in-Some.inner.now in
    let g : Group = record { text = c.in-Some-2.text.now.now; numbers = told.items } in
    let line = lines_in within.profile c.in-Some.tag.now within.rows.now inner in
    let rest = map entry_group c.next.new.self in
    let now = rw c.in-Some-2.ensures.steps at c.loop-text.invariant in
    stopped_writing _ (line g) (flat_map line rest) _ _ _ _ _ now.lines (writes_same _ _ _ _ _
    (writes_then _ _ _ _ _ _ _ (of_adds _ _ _ _ c.in_ok-write_value.ensures) c.in_err-write_groups.ensures)
    (ap (λ ns. value_line c.in-Some.tag.now g.text ++ group_lines within.profile inner (rows_at within.rows.now ns))
    c.as_slice.ensures.value)) c.from_residual-in_err-write_groups.ensures.0

pub returns : goal.returns
returns t c =
    none_remains _ _ _ _ _ (ap (λ es. flat_map (lines_in c.args.within.profile c.in-Some.tag.now c.args.within.rows.now
    c.in-Some.inner.now) (map entry_group es)) c.in-None.ensures.steps.0) c.loop-text.invariant.lines
