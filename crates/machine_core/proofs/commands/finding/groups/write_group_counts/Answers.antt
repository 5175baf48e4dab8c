use Rattle.std.proofs.Common.{◌≡◌, ◌≤◌, ◌++◌, length, map, ap, ◌∙◌, rules, sym, subst, arith}
use Rattle.std.specs.List.{AllByRecursion, flat_map}
use Rattle.command_text.specs.AnswerNames.{count_lines, value_line}
use Rattle.song_db.specs.Duration.{total_of}
use Rattle.song_db.specs.Limits.{MAX_ROWS}
use Rattle.machine_core.specs.Finding.{told_values}
use Rattle.machine_core.specs.Grouped.{Group, entry_group, rows_at}
use Rattle.machine_core.proofs.Finding.Groups.{counts_in, counts_of_groups, few_in_each}
use Rattle.machine_core.proofs.Finding.Writers.{less_remains, none_remains, of_adds, stopped_within, stopped_writing, writes_same, writes_then}
use Rattle.machine_core.proofs.commands.finding.groups.write_group_counts.Goals as goal

pub loop-text-init : goal.loop-text-init
loop-text-init c =
    let within = c.args.within in
    let ns = c.args.numbers.now in
    let entries = c.in_ok-groups.groups.entries in
    let gone_over : c.into_iter-text-iterator.result ≡ entries = search rules in
    let told : map entry_group c.into_iter-text-iterator.result ≡ map entry_group entries = ap (map entry_group) gone_over in
    let all = told ∙ c.in_ok-groups.ensures in
    record {
      lines = λ result after k. writes_same _ _ _ _ _ k
          (ap (flat_map (counts_in within.profile c.args.tag within.rows.now)) all
          ∙ sym (counts_of_groups within.profile c.args.tag within.rows.now ns));
      few = subst (AllByRecursion (λ (g : Group). length g.numbers ≤ MAX_ROWS)) (sym all)
          (few_in_each within.profile c.args.tag within.rows.now ns (told_values within.profile (rows_at within.rows.now ns) c.args.tag)
          MAX_ROWS c.requires.few);
    }

pub milliseconds_of-milliseconds-requires : goal.milliseconds_of-milliseconds-requires
milliseconds_of-milliseconds-requires c =
    let few = (rw c.in-Some.ensures.steps at c.loop-text.invariant.few).0 in
    rw c.as_slice.ensures.value few

pub loop-text-preserved : goal.loop-text-preserved
loop-text-preserved c =
    let within = c.args.within in
    let told = c.in-Some.told.now in
    let g : Group = record { text = c.in-Some.text.now.now; numbers = told.items } in
    let line = counts_in within.profile c.args.tag within.rows.now in
    let rest = map entry_group c.next.new.self in
    let now = rw c.in-Some.ensures.steps at c.loop-text.invariant in
    let counted : c.len.result ≡ length told.items = search rules in
    let time : c.milliseconds_of-milliseconds.result ≡ total_of (rows_at within.rows.now told.items) =
    c.milliseconds_of-milliseconds.ensures ∙ ap (λ ns. total_of (rows_at within.rows.now ns)) c.as_slice.ensures.value in
    record {
      lines = less_remains _ (line g) (flat_map line rest) _ _ _ _ now.lines (writes_same _ _ _ _ _
          (writes_then _ _ _ _ _ _ _ (of_adds _ _ _ _ c.in_ok-write_value.ensures) (of_adds _ _ _ _ c.in_ok-write_counts.ensures))
          (λ i. value_line c.args.tag g.text ++ count_lines (counted i) (time i)));
      few = now.few.1;
    }

pub returns-in_err-write_value : goal.returns-in_err-write_value
returns-in_err-write_value c =
    let within = c.args.within in
    let told = c.in-Some.told.now in
    let line = counts_in within.profile c.args.tag within.rows.now in
    let rest = map entry_group c.next.new.self in
    let now = rw c.in-Some.ensures.steps at c.loop-text.invariant in
    stopped_within _ (value_line c.args.tag c.in-Some.text.now.now) (count_lines (length told.items) (total_of
    (rows_at within.rows.now told.items))) (flat_map line rest) _ _ _ _ _ now.lines (of_adds _ _ _ _ c.in_err-write_value.ensures)
    c.from_residual-in_err-write_value.ensures.0

pub returns-in_err-write_counts : goal.returns-in_err-write_counts
returns-in_err-write_counts c =
    let within = c.args.within in
    let told = c.in-Some.told.now in
    let g : Group = record { text = c.in-Some.text.now.now; numbers = told.items } in
    let line = counts_in within.profile c.args.tag within.rows.now in
    let rest = map entry_group c.next.new.self in
    let now = rw c.in-Some.ensures.steps at c.loop-text.invariant in
    let counted : c.len.result ≡ length told.items = search rules in
    let time : c.milliseconds_of-milliseconds.result ≡ total_of (rows_at within.rows.now told.items) =
    c.milliseconds_of-milliseconds.ensures ∙ ap (λ ns. total_of (rows_at within.rows.now ns)) c.as_slice.ensures.value in
    stopped_writing _ (line g) (flat_map line rest) _ _ _ _ _ now.lines (writes_same _ _ _ _ _
    (writes_then _ _ _ _ _ _ _ (of_adds _ _ _ _ c.in_ok-write_value.ensures) (of_adds _ _ _ _ c.in_err-write_counts.ensures))
    (λ i. value_line c.args.tag g.text ++ count_lines (counted i) (time i))) c.from_residual-in_err-write_counts.ensures.0

pub returns : goal.returns
returns c =
    none_remains _ _ _ _ _ (ap (λ es. flat_map (counts_in c.args.within.profile c.args.tag c.args.within.rows.now) (map entry_group es))
    c.in-None.ensures.steps.0) c.loop-text.invariant.lines
