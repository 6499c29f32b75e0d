-- The law of reading, from its two directions.
use Rattle.std.proofs.Common.{◌≡◌, ℕ, ◌+◌, List, [], ◌∷◌, ◌++◌, length, sym, ap, ◌∙◌, subst, arith}
use Rattle.std.proofs.lemmas.List.{length_push}
use Rattle.text.specs.Form.{Form}
use Rattle.text.specs.Tokens.{spot, line, toks}
use Rattle.text.specs.Reading.{forms, wrong, parse, read_text}
use Rattle.text.specs.Print.{lines}
use Rattle.text.specs.Valid.{AllValid}
use Rattle.text.specs.Laws.{Told}
use Rattle.text.proofs.Back.{Came, Stuck, line_came, text_came, all_push, lines_push}
use Rattle.text.proofs.Forth.{forth}

-- forms that are read are valid, and the text is their print
pub read_back : (t : List ℕ) (fs : List Form) → read_text t ≡ forms fs → AllValid fs × (t ≡ lines fs [])
read_back t fs r = subst (Came t 1) r (text_came t)

-- valid forms, printed, are read
pub print_read : (fs : List Form) → AllValid fs → read_text (lines fs []) ≡ forms fs
print_read fs v = forth fs [] 1 [] v

-- the line that is told is the first that is no form: were it one, a later line would be told
pub told_line : (t : List ℕ) (n : ℕ) → read_text t ≡ wrong n → Told t n
told_line t n r = record {
  before = s.before;
  rest = s.rest;
  valid = s.valid;
  text = s.text;
  line = s.line;
  some = λ e.
      let q : forms s.before ≡ wrong n = sym (print_read s.before s.valid) ∙ ap read_text (sym (s.text ∙ ap (lines s.before) e)) ∙ r in
      let z : ◌≡◌ {A = ℕ} 0 1 = cc in
      omega arith;
  no_form = λ f y v e.
      let d = s.before ++ f ∷ [] in
      let a : AllValid d = all_push s.before f s.valid v in
      let whole : t ≡ lines d y = s.text ∙ ap (lines s.before) e ∙ sym (lines_push s.before f y) in
      let q : parse [] d (toks (spot line 0 (1 + length d)) y) ≡ wrong n = sym (forth d [] 1 y a) ∙ ap read_text (sym whole) ∙ r in
      let l : Stuck t (1 + length d) n = subst (Came t (1 + length d)) q (line_came t d (1 + length d) y (record { valid = a; line = omega arith; text = whole })) in
      omega (arith, l.later, s.line, length_push s.before f);
}
  where
    s : Stuck t 1 n
    s = subst (Came t 1) r (text_came t)
