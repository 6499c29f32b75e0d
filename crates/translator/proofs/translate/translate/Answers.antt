-- What was read is checked and written, or the refusal of reading is told.
use Rattle.std.proofs.Common.{length, sym, refl, ap, ◌∙◌}
use Rattle.std.proofs.lemmas.Result.{err_from_is_err_and}
use Rattle.translator.specs.Outcome.{outcome}
use Rattle.translator.proofs.Few.{few_lines}
use Rattle.language.proofs.OnSheets.{fit_lines_read}
use Rattle.translator.proofs.Outcomes.{unread_outcome, read_answer}
use Rattle.translator.proofs.translate.translate.Goals as goal

pub invariant_of-sheet : goal.invariant_of-sheet
invariant_of-sheet c = record { few = few_lines c.args.text.now (length c.args.sheet.now) c.in_ok-page.page c.in_ok-page.ensures.answer }

pub returns : goal.returns
returns c =
    let sheet = c.read.new.sheet in
    let page = c.in_ok-page.page in
    let code = c.args.code.now in
    c.write_checked.ensures
    ∙ ap (λ a. outcome a code) (sym (read_answer sheet page.lines (fit_lines_read sheet page.lines) c.args.text.now (length c.args.sheet.now) (length code) page c.in_ok-page.ensures.answer refl c.in_ok-page.ensures.holds))

pub returns-in_err-page : goal.returns-in_err-page
returns-in_err-page c =
    let code = c.args.code.now in
    let p = err_from_is_err_and c.from_residual.result c.from_residual.ensures.1 in
    rw (p.1, p.2)
    (unread_outcome c.args.text.now (length c.args.sheet.now) (length code) code c.in_err-page.field-0.0 c.in_err-page.ensures.answer)
