-- The limit decides, and the input is split where its tape begins.
use Rattle.std.proofs.Common.{take, drop, Some, vec_items, ap, ◌∙◌, subst}
use Rattle.std.proofs.lemmas.Result.{IfOk-weaker}
use Rattle.playback.proofs.Runs.{told_by}
use Rattle.lines.specs.Lines.{refusal_line}
use Rattle.benchrun.specs.Bench.{Benched, Answered, too_long, in_limit, sheet_rows, code_room}
use Rattle.benchrun.specs.Split.{tape_in}
use Rattle.benchrun.proofs.Splits.{tape_within}
use Rattle.benchrun.proofs.bench.bench.Goals as goal

pub returns-then-input-gt-LIMIT : goal.returns-then-input-gt-LIMIT
returns-then-input-gt-LIMIT c = told_by vec_items (Benched c.args.input.now) (Some (refusal_line 0 0)) _ (too_long c.if-input-gt-LIMIT.true) c.into_bytes.ensures

pub split_at-requires : goal.split_at-requires
split_at-requires c = tape_within c.args.input.now c.tape_start.result c.tape_start.ensures

pub returns : goal.returns
returns c =
    let input = c.args.input.now in
    let text = c.split_at.ensures.front ∙ ap (λ n. take n input) c.tape_start.ensures in
    let tape = c.split_at.ensures.back ∙ ap (λ n. drop n input) c.tape_start.ensures in
    IfOk-weaker _ _ _ (λ out a. in_limit c.if-input-gt-LIMIT.false (vec_items out)
    (subst (λ t. Answered sheet_rows code_room t (tape_in input) (vec_items out)) text (subst (λ t. Answered sheet_rows code_room c.split_at.result.0.now t (vec_items out)) tape a))) c.answer.ensures
