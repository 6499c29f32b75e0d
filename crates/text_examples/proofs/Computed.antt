-- The worked examples, by computation.
use Rattle.std.proofs.Common.{◌≡◌, List, [], ◌∷◌, ◌++◌, pos, refl, ap, ◌∙◌}
use Rattle.std.specs.List.{AllByRecursion}
use Rattle.std.specs.Int.{int_wrap}
use Rattle.hosts.specs.Levels.{sensed}
use Rattle.flat.specs.Instructions.{decoded}
use Rattle.flat.specs.Tests.{every, fits}
use Rattle.language.specs.House.{house}
use Rattle.language.specs.Translation.{Answer, translated}
use Rattle.language.specs.Words.{words}
use Rattle.worked.specs.Guard.{guard}
use Rattle.worked.specs.Examples.{scans, fresh, examples}
use Rattle.text_examples.specs.Codes.{and_code}
use Rattle.text_examples.specs.Texts.{guard_text, and_text}
use Rattle.text_examples.specs.Examples.{Holds, translate, code_of, seen_scans, text_scans, guard_levels, guard_wanted, and_wanted, value_cases, text_cases, code_cases, cases}

-- What holds of each of two lists holds of each of both.
both : {A : Type 0} (P : A → Type 0) (xs ys : List A) → AllByRecursion P xs → AllByRecursion P ys → AllByRecursion P (xs ++ ys)
both P [] ys h k = k
both P (x ∷ xs) ys h k = (h.0, both P xs ys h.1 k)

-- The values of the kinds.
values : AllByRecursion Holds value_cases
unfolding int_wrap
values = (refl, (refl, (refl, (refl, (refl, (refl, (refl, (refl, (refl, (refl, tt))))))))))

-- The guard's code is the stored one, and so are its scans.
guard_code : translate guard_text ≡ translated guard 18
unfolding house words
guard_code = refl

stored_scans : scans guard guard_levels (fresh guard) ≡ guard_wanted
unfolding int_wrap sensed decoded
stored_scans = refl

guard_scans : text_scans guard_text guard_levels ≡ seen_scans guard_wanted
guard_scans = ap (λ (a : Answer). seen_scans (scans (code_of a) guard_levels (fresh (code_of a)))) guard_code ∙ ap seen_scans stored_scans

-- The same of an `and` whose second part is not run.
and_translated : translate and_text ≡ translated and_code 11
unfolding house words
and_translated = refl

and_seen : scans and_code ((pos 0 ∷ []) ∷ []) (fresh and_code) ≡ and_wanted
unfolding int_wrap sensed decoded
and_seen = refl

and_scans : text_scans and_text ((pos 0 ∷ []) ∷ []) ≡ seen_scans and_wanted
and_scans = ap (λ (a : Answer). seen_scans (scans (code_of a) ((pos 0 ∷ []) ∷ []) (fresh (code_of a)))) and_translated ∙ ap seen_scans and_seen

-- Stored codes.
codes_hold : AllByRecursion Holds (code_cases examples)
unfolding int_wrap sensed decoded every fits
codes_hold = (refl, (refl, (refl, (refl, (refl, (refl, (refl, (refl, (refl, (refl, (refl, (refl, (refl, (refl, tt))))))))))))))

-- Texts.
texts_hold : AllByRecursion Holds text_cases
unfolding house words int_wrap sensed decoded
texts_hold = (refl, (refl, (guard_scans, (and_scans, (refl, (refl, (refl, (refl, (refl, (refl, (refl, (refl, (refl, (refl, (refl, (refl, (refl, (refl, (refl, (refl, (refl, tt)))))))))))))))))))))

pub all_hold : AllByRecursion Holds cases
all_hold = both Holds value_cases (text_cases ++ code_cases examples) values (both Holds text_cases (code_cases examples) texts_hold codes_hold)
