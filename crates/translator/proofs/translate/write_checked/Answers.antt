-- A cause is told, or the code is short, or the words are written.
use Rattle.std.proofs.Common.{◌<◌, ◌≤◌, length, sym, ap, ◌∙◌}
use Rattle.std.proofs.lemmas.Result.{err_from_is_err_and}
use Rattle.text.specs.Items.{forms_of}
use Rattle.language.specs.OnSheet.{lines_of}
use Rattle.language.specs.Words.{words}
use Rattle.checks.specs.Refusals.{refusal_number, refusal_line}
use Rattle.translator.specs.Outcome.{outcome, wrote}
use Rattle.translator.proofs.Outcomes.{caused_answer, short_answer, fitting_answer, no_cause_small, fits_measured, exceeds_measured}
use Rattle.translator.proofs.translate.write_checked.Goals as goal

pub returns-in_err-check : goal.returns-in_err-check
returns-in_err-check c =
    let code = c.args.code.now in
    let e = c.in_err-check.field-0.0 in
    let p = err_from_is_err_and c.from_residual.result c.from_residual.ensures.1 in
    rw (p.1, p.2)
    (ap (λ a. outcome a code) (sym (caused_answer (length code) (forms_of c.args.sheet.lines) (lines_of c.args.sheet.lines) (refusal_number e) (refusal_line e) c.in_err-check.ensures)))

pub count_words-requires : goal.count_words-requires
count_words-requires c = record {
  small = no_cause_small (forms_of c.args.sheet.lines) (lines_of c.args.sheet.lines) c.in_ok-check.ensures;
}

pub returns-then-code-count_words : goal.returns-then-code-count_words
returns-then-code-count_words c =
    let ls = lines_of c.args.sheet.lines in
    let code = c.args.code.now in
    let n : length code < length (words ls) = exceeds_measured c.count_words.ensures c.if-code-count_words.true in
    ap (λ a. outcome a code) (sym (short_answer (length code) (forms_of c.args.sheet.lines) ls c.in_ok-check.ensures n))

pub write_code-requires : goal.write_code-requires
write_code-requires c =
    let ls = lines_of c.args.sheet.lines in
    let n : length (words ls) ≤ length c.args.code.now = fits_measured c.count_words.ensures c.if-code-count_words.false in
    record { small = no_cause_small (forms_of c.args.sheet.lines) ls c.in_ok-check.ensures; room = n }

pub returns : goal.returns
returns c =
    let ls = lines_of c.args.sheet.lines in
    let code = c.args.code.now in
    let n : length (words ls) ≤ length code = fits_measured c.count_words.ensures c.if-code-count_words.false in
    let e = c.write_code.ensures in
    (λ i. record { told = wrote (e.count i) (e.steps i); code = e.wrote i })
    ∙ ap (λ a. outcome a code) (sym (fitting_answer (length code) (forms_of c.args.sheet.lines) ls c.in_ok-check.ensures n))
