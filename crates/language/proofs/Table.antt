-- A word looked up in one table of all the house words: what the definition has for it.
use Rattle.std.proofs.Common.{◌≡◌, ℕ, Bool, true, false, cond, List, [], ◌∷◌, ◌++◌, map, Some, Option, Bor, refl, ap, ◌∙◌}
use Rattle.std.specs.List.{find}
use Rattle.std.specs.Option.{option_map}
use Rattle.language.specs.Basics.{Word, same, or_else, find as entry}
use Rattle.language.specs.House.{opener_words, kind_words, operation_words, truth_words, compound_words, change_words, house}
use Rattle.language.specs.declared.house.House.{House}

-- A row of a table as the definitions have it.
abbrev pub row : Bor (List ℕ) × House → Word × House
row r = (r.0.now, r.1)

-- The first row with a word has what the definitions' rows have for it.
found_entry : (t : List (Bor (List ℕ) × House)) (w : Word) → option_map (λ r. r.1) (find (λ r. same r.0.now w) t) ≡ entry (map row t) w
found_entry [] w = refl
found_entry (r ∷ t) w = one r (same r.0.now w) t w (found_entry t w)
  where
    one : (r : Bor (List ℕ) × House) (b : Bool) (t : List (Bor (List ℕ) × House)) (w : Word) → option_map (λ r. r.1) (find (λ r. same r.0.now w) t) ≡ entry (map row t) w
        → option_map (λ r. r.1) (cond b (Some r) (find (λ r. same r.0.now w) t)) ≡ cond b (Some r.1) (entry (map row t) w)
    one r true t w e = refl
    one r false t w e = e

-- In two tables, one behind the other.
entry_append : (s t : List (Word × House)) (w : Word) → entry (s ++ t) w ≡ or_else (entry s w) (entry t w)
entry_append [] t w = refl
entry_append (r ∷ s) t w = one (same r.0 w) (entry (s ++ t) w) (entry s w) (entry t w) (entry_append s t w)
  where
    one : (b : Bool) (o p q : Option House) → o ≡ or_else p q → cond b (Some r.1) o ≡ or_else (cond b (Some r.1) p) q
    one true o p q e = refl
    one false o p q e = e

-- All the words, in the order of the definition.
abbrev pub all_words : List (Word × House)
all_words = (opener_words ++ kind_words) ++ ((operation_words ++ truth_words) ++ (compound_words ++ change_words))

pub looked_up : (t : List (Bor (List ℕ) × House)) (w : Word) → map row t ≡ all_words → option_map (λ r. r.1) (find (λ r. same r.0.now w) t) ≡ house w
unfolding house
looked_up t w e =
    found_entry t w
    ∙ ap (λ s. entry s w) e
    ∙ entry_append (opener_words ++ kind_words) ((operation_words ++ truth_words) ++ (compound_words ++ change_words)) w
    ∙ (λ i. or_else (entry_append opener_words kind_words w i) (entry_append (operation_words ++ truth_words) (compound_words ++ change_words) w i))
    ∙ (λ i. or_else (or_else (entry opener_words w) (entry kind_words w)) (or_else (entry_append operation_words truth_words w i) (entry_append compound_words change_words w i)))
