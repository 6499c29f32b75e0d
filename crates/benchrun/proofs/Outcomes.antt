-- What an outcome of translate says of the translation.
use Rattle.std.proofs.Common.{◌≡◌, ℕ, ◌≤◌, List, ◌++◌, length, take, drop, ℤ, IfOk, Result, refl, ap, ◌∙◌, subst, arith, length-append}
use Rattle.std.proofs.lemmas.List.{take_at}
use Rattle.language.specs.Translation.{Answer}
use Rattle.benchrun.specs.Bench.{Answered}
use Rattle.translator.specs.Outcome.{Outcome, outcome, wrote, refused}

-- The words that were written stand in front of the code.
pub record Written (a : Answer) (new : List ℤ) (n most : ℕ) : Type 0 where
  pub words : List ℤ
  pub translation : a ≡ Answer.translated words most
  pub within : n ≤ length new
  pub front : take n new ≡ words

pub wrote_words : (a : Answer) (old new : List ℤ) (n most : ℕ) → record { told = wrote n most; code = new } ≡ outcome a old → Written a new n most
wrote_words (Answer.refused k l) old new n most e =
    let t : wrote n most ≡ refused k l = ap (λ (o : Outcome). o.told) e in
    let z : ◌≡◌ {A = ℕ} 0 1 = cc in
    absurd (omega arith)
wrote_words (Answer.translated ws m) old new n most e =
    let t : wrote n most ≡ wrote (length ws) m = ap (λ (o : Outcome). o.told) e in
    let s : new ≡ ws ++ drop (length ws) old = ap (λ (o : Outcome). o.code) e in
    let n-is : n ≡ length ws = cc in
    let m-is : m ≡ most = cc in
    record {
      words = ws;
      translation = ap (Answer.translated ws) m-is;
      within = omega (arith, n-is, ap length s, length-append ws (drop (length ws) old));
      front = ap (λ k. take k new) n-is ∙ ap (take (length ws)) s ∙ take_at ws (drop (length ws) old) (length ws) refl;
    }

-- A refusal is the translation's.
pub told_refusal : (a : Answer) (old new : List ℤ) (n l : ℕ) → record { told = refused n l; code = new } ≡ outcome a old → a ≡ Answer.refused n l
told_refusal (Answer.refused k m) old new n l e =
    let t : refused n l ≡ refused k m = ap (λ (o : Outcome). o.told) e in
    let p : k ≡ n = cc in
    let q : m ≡ l = cc in
    (λ i. Answer.refused (p i) (q i))
told_refusal (Answer.translated ws m) old new n l e =
    let t : refused n l ≡ wrote (length ws) m = ap (λ (o : Outcome). o.told) e in
    let z : ◌≡◌ {A = ℕ} 0 1 = cc in
    absurd (omega arith)

-- What is printed with a sheet and a code of these lengths.
pub at_lengths : {X E : Type 0} (items : X → List ℕ) (text tape : List ℕ) (r : Result X E) {rows room rows₁ room₁ : ℕ} → rows ≡ rows₁ → room ≡ room₁ → IfOk r (λ x. Answered rows room text tape (items x)) → IfOk r (λ x. Answered rows₁ room₁ text tape (items x))
at_lengths {X} {E} items text tape r {rows} {room} {rows₁} {room₁} e f h =
    subst (λ n. IfOk r (λ x. Answered n room₁ text tape (items x))) e (subst (λ n. IfOk r (λ x. Answered rows n text tape (items x))) f h)
