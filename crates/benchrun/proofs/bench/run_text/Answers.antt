-- The code in front is run, or the refusal is told.
use Rattle.std.proofs.Common.{◌≡◌, length, Some, vec_items, sym, subst}
use Rattle.std.proofs.lemmas.Result.{IfOk-weaker}
use Rattle.language.specs.Translation.{translation}
use Rattle.playback.proofs.Runs.{told_by}
use Rattle.lines.specs.Lines.{refusal_line}
use Rattle.playback.specs.Replay.{Ran}
use Rattle.checks.specs.Refusals.{refusal_number, refusal_line as refusal-place}
use Rattle.benchrun.specs.Bench.{Answered, no_code, ran}
use Rattle.benchrun.proofs.Outcomes.{wrote_words, told_refusal}
use Rattle.benchrun.proofs.bench.run_text.Goals as goal

pub returns-in-Ok : goal.returns-in-Ok
returns-in-Ok c =
    let t = translation c.args.text.now (length c.args.sheet.now) (length c.args.code.now) in
    let w = wrote_words t c.args.code.now c.translate.new.code c.in-Ok.n c.in-Ok.field-0-1 c.in-Ok.ensures in
    IfOk-weaker _ _ _ (λ out r. ran w.words c.in-Ok.field-0-1 w.translation (vec_items out) (subst (λ ws. Ran ws c.args.tape.now (vec_items out)) w.front r)) c.run_code.ensures

pub returns-in-Err : goal.returns-in-Err
returns-in-Err c =
    let text = c.args.text.now in
    let tape = c.args.tape.now in
    let rows = length c.args.sheet.now in
    let room = length c.args.code.now in
    let e = c.in-Err.refusal in
    let told = told_refusal (translation text rows room) c.args.code.now c.translate.new.code (refusal_number e) (refusal-place e) c.in-Err.ensures in
    let same : refusal_line (refusal_number e) (refusal-place e) ≡ refusal_line c.number-number.result c.line-at.result = (λ i. refusal_line (sym c.number-number.ensures i) (sym c.line-at.ensures i)) in
    told_by vec_items (Answered rows room text tape) (Some (refusal_line c.number-number.result c.line-at.result)) _ (subst (Answered rows room text tape) same (no_code (refusal_number e) (refusal-place e) told)) c.into_bytes.ensures
