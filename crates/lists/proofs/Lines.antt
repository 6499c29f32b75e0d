-- How a text goes on that begins with the print of a list, and when it cannot.
use Rattle.std.proofs.Common.{◌≡◌, ℕ, suc, ◌+◌, ◌-◌, ◌^◌, ◌<◌, Bool, true, List, [], ◌∷◌, ◌++◌, length, get_or, take, ℤ, pos, negsuc, None, Ok, Err, decimal, Option, Result, sym, refl, ap, ◌∙◌, append_assoc, arith, length-append, w32, SFits}
use lib.Signed.{mag}
use Rattle.std.specs.Int.{IsInRange}
use Rattle.std.specs.Fmt.{signed_decimal}
use Rattle.std.specs.Option.{ok_or}
use Rattle.std.specs.List.{prefix_len, AllByRecursion}
use Rattle.std.proofs.ByRecursion.{All-from_get_or, All-push}
use Rattle.std.proofs.lemmas.List.{append_cancel_left, drop_at, flat_map_more, take-append-drop, take_at}
use Rattle.numerals.specs.Print.{items, shown_list}
use Rattle.lists.specs.declared.ListError.{ListError}
use Rattle.lists.specs.declared.ListError.TheVariants.{NotAList, NoMemory}
use Rattle.lists.specs.Read.{ListRead, NoList}
use Rattle.lists.specs.Steps.{NoEnding, Passed, ValuesRead, behind, ending, inside, token}
use Rattle.numerals.proofs.Numbers.{base_ten}

-- The bytes that pass a test, up to one that does not, are the leading ones.
leading_run : (p : ℕ → Bool) (xs ys : List ℕ) → AllByRecursion (λ x. p x ≡ true) xs → prefix_len p ys ≡ 0 → prefix_len p (xs ++ ys) ≡ length xs
leading_run p [] ys all stop = stop
leading_run p (x ∷ xs) ys all stop = rw all.0 (omega (arith, leading_run p xs ys all.1 stop))

-- A number of 32 bits is a small one.
pub small : (v : ℤ) → SFits w32 v → mag v < 2 ^ 63
small (pos n) fit = omega arith
small (negsuc n) fit = omega arith

-- The digits and the sign of a number stand inside it.
digit_inside : (b : ℕ) → IsInRange 48 57 b → inside b ≡ true
digit_inside b h = grind arith

inside_decimal : (n : ℕ) → n < 2 ^ 64 → AllByRecursion (λ b. inside b ≡ true) (decimal n)
inside_decimal n small = All-from_get_or (λ b. inside b ≡ true) (decimal n) 0 (λ i h. digit_inside (get_or (decimal n) i 0) ((base_ten n small).digits i h))

inside_signed : (v : ℤ) → SFits w32 v → AllByRecursion (λ b. inside b ≡ true) (signed_decimal v)
inside_signed (pos n) fit = inside_decimal n (omega arith)
inside_signed (negsuc n) fit = (refl, inside_decimal (suc n) (omega arith))

-- A number ends where a line goes on behind it.
ending_stops : (vs : List ℤ) (rest : List ℕ) → prefix_len inside (ending vs rest) ≡ 0
ending_stops [] rest = refl
ending_stops (v ∷ vs) rest = refl

-- So a value and what is behind it are told apart.
module _ (v : ℤ) (vs : List ℤ) (rest : List ℕ) (fit : SFits w32 v) where
  run : length (signed_decimal v) ≡ prefix_len inside (signed_decimal v ++ ending vs rest)
  run = sym (leading_run inside (signed_decimal v) (ending vs rest) (inside_signed v fit) (ending_stops vs rest))

  pub token_value : token (signed_decimal v ++ ending vs rest) ≡ signed_decimal v
  token_value = take_at (signed_decimal v) (ending vs rest) _ run

  pub behind_value : behind (signed_decimal v ++ ending vs rest) ≡ ending vs rest
  behind_value = drop_at (signed_decimal v) (ending vs rest) _ run

-- A value more in an ending, and the head and an ending of a whole line.
pub ending_more : (v : ℤ) (vs : List ℤ) (rest : List ℕ) → ending (v ∷ vs) rest ≡ 32 ∷ (signed_decimal v ++ ending vs rest)
ending_more v vs rest = ap (λ x. 32 ∷ x) (append_assoc (signed_decimal v) (items vs) (41 ∷ 10 ∷ rest))

pub shown_ending : (head : List ℕ) (vs : List ℤ) (rest : List ℕ) → shown_list head vs ++ rest ≡ 40 ∷ (head ++ ending vs rest)
shown_ending head vs rest = simp append_assoc

-- Where a value is missing, what is told is that there is no list.
pub no_value : {X : Type 0} (o : Option X) (e : ListError) → o ≡ None → ◌≡◌ {A = Result X ListError} (Err e) (ok_or o NotAList) → e ≡ NotAList
no_value {X} o e none told = let same : ◌≡◌ {A = Result X ListError} (Err e) (Err NotAList) = told ∙ ap (λ x. ok_or x NotAList) none in cc

-- No line goes on with a text that begins neither with a space nor with a closing bracket and a line feed.
pub no_ending : (text : List ℕ) → ((rest : List ℕ) → text ≡ 32 ∷ rest → ⊥) → ((rest : List ℕ) → text ≡ 41 ∷ 10 ∷ rest → ⊥) → NoEnding text
no_ending text space end [] rest fit e = end rest e
no_ending text space end (v ∷ vs) rest fit e = space _ e

-- Behind a space a value has to follow, and behind it a line has to go on.
pub no_ending_after : (text item : List ℕ) → text ≡ 32 ∷ item → ((v : ℤ) (vs : List ℤ) (rest : List ℕ) → SFits w32 v → AllByRecursion (SFits w32) vs → token item ≡ signed_decimal v → behind item ≡ ending vs rest → ⊥) → NoEnding text
no_ending_after text item space none [] rest fit e = let other : ◌≡◌ {A = ℕ} 32 41 = (let same = sym space ∙ e in cc) in omega arith
no_ending_after text item space none (v ∷ vs) rest fit e =
    let is : item ≡ signed_decimal v ++ ending vs rest = (let same = sym space ∙ e ∙ ending_more v vs rest in cc) in
    none v vs rest fit.0 fit.1 (ap token is ∙ token_value v vs rest fit.0) (ap behind is ∙ behind_value v vs rest fit.0)

-- There is no list where no bracket and head stand in front, or where no line goes on with what is behind them.
pub no_front : (head input : List ℕ) → ((rest : List ℕ) → input ≡ 40 ∷ (head ++ rest) → ⊥) → NoList head input
no_front head input none vs rest fit e = none (ending vs rest) (e ∙ shown_ending head vs rest)

pub no_list : (head input text : List ℕ) → input ≡ 40 ∷ (head ++ text) → NoEnding text → NoList head input
no_list head input text front none vs rest fit e =
    none vs rest fit (append_cancel_left head text (ending vs rest) (let same = sym front ∙ e ∙ shown_ending head vs rest in cc))

-- There is none where its values are refused.
pub values_refused : (head input text : List ℕ) (before after : List ℤ) (e : ListError) → input ≡ 40 ∷ (head ++ text) → ValuesRead text before (Err e) after → ListRead head input before (Err e) after
values_refused head input text before after NotAList front none = no_list head input text front none
values_refused head input text before after NoMemory front none = tt

-- A space and a value more.
items_push : (vs : List ℤ) (v : ℤ) (rest : List ℕ) → items (vs ++ v ∷ []) ++ rest ≡ items vs ++ 32 ∷ (signed_decimal v ++ rest)
items_push vs v rest = ap (λ x. x ++ rest) (sym (flat_map_more (λ w. 32 ∷ signed_decimal w) [] vs v)) ∙ append_assoc (items vs) (32 ∷ signed_decimal v) rest

-- Behind a space the bytes of a value are passed.
pub passed_more : (text left item bytes rest : List ℕ) (before after more : List ℤ) (v : ℤ) → Passed text left before after → left ≡ 32 ∷ item → bytes ≡ token item → rest ≡ behind item → SFits w32 v → bytes ≡ signed_decimal v → more ≡ after ++ v ∷ [] → Passed text rest before more
passed_more text left item bytes rest before after more v p space first others fits is pushed = record {
  vs = p.vs ++ v ∷ [];
  fit = All-push (SFits w32) p.vs v p.fit fits;
  values = pushed ∙ ap (λ xs. xs ++ v ∷ []) p.values ∙ append_assoc before p.vs (v ∷ []);
  front =
      let parts : item ≡ signed_decimal v ++ rest = sym (take-append-drop (prefix_len inside item) item) ∙ rw (← first, ← others, is) refl in
      p.front ∙ rw (space, parts) (sym (items_push p.vs v rest));
  decides = λ none. p.decides (no_ending_after left item space (λ w ws end fit fits t b. none ws end fits (others ∙ b)));
}

-- A line that ends behind the values is read whole.
module _ (head input text end rest : List ℕ) (before after : List ℤ) (front : input ≡ 40 ∷ (head ++ text)) (p : Passed text end before after) (close : end ≡ 41 ∷ 10 ∷ rest) where
  whole : input ≡ shown_list head p.vs ++ rest
  whole = front ∙ ap (λ x. 40 ∷ (head ++ x)) (p.front ∙ ap (λ x. items p.vs ++ x) close) ∙ sym (shown_ending head p.vs rest)

  size : length input ≡ length (shown_list head p.vs) + length rest
  size = ap length whole ∙ length-append (shown_list head p.vs) rest

  pub list_read : ListRead head input before (Ok (length input - length rest)) after
  list_read =
      let n : length (shown_list head p.vs) ≡ length input - length rest = omega (arith, size) in
      (p.vs, record { fit = p.fit; within = omega arith; print = ap (take (length input - length rest)) whole ∙ take_at (shown_list head p.vs) rest _ n }, p.values)
