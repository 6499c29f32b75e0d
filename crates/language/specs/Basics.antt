-- Small tools: words, values that may be missing, tests over lists.
use Rattle.std.specs.Prelude.{ℕ, suc, ◌+◌, min, Bool, false, cond, ◌||◌, List, [], ◌∷◌, Some, None, Option}
use Rattle.std.specs.Str.{bytes_eq}

-- A word, as its bytes.
abbrev pub Word : Type 0
Word = List ℕ

-- Two words are the same.
abbrev pub same : Word → Word → Bool
same v w = bytes_eq v w

-- What f makes of a value that is there.
abbrev pub and_then : {A B : Type 0} → Option A → (A → Option B) → Option B
and_then (Some a) f = f a
and_then None f = None

-- A value that is there, changed by f.
abbrev pub changed : {A B : Type 0} → (A → B) → Option A → Option B
changed f (Some a) = Some (f a)
changed f None = None

-- The one if it is there, else the other.
abbrev pub or_else : {A : Type 0} → Option A → Option A → Option A
or_else (Some a) o = Some a
or_else None o = o

-- The value if it is there, else d.
abbrev pub otherwise : {A : Type 0} → A → Option A → A
otherwise d (Some a) = a
otherwise d None = d

-- Whether a test holds of one at least.
abbrev pub any : {A : Type 0} → (A → Bool) → List A → Bool
any p [] = false
any p (x ∷ xs) = p x || any p xs

-- Of how many a test holds.
abbrev pub count : {A : Type 0} → (A → Bool) → List A → ℕ
count p [] = 0
count p (x ∷ xs) = cond (p x) (suc (count p xs)) (count p xs)

-- The sum of what f gives.
abbrev pub total : {A : Type 0} → (A → ℕ) → List A → ℕ
total f [] = 0
total f (x ∷ xs) = f x + total f xs

-- A value in front of others, if it is there.
abbrev pub in_front : {B : Type 0} → Option B → List B → List B
in_front (Some b) bs = b ∷ bs
in_front None bs = bs

-- What f gives where it gives something, in order.
abbrev pub collect : {A B : Type 0} → (A → Option B) → List A → List B
collect f [] = []
collect f (x ∷ xs) = in_front (f x) (collect f xs)

-- Those for which a test holds.
abbrev pub those : {A : Type 0} → (A → Bool) → List A → List A
those p [] = []
those p (x ∷ xs) = cond (p x) (x ∷ those p xs) (those p xs)

-- The first ones, as long as a test holds.
abbrev pub leading : {A : Type 0} → (A → Bool) → List A → List A
leading p [] = []
leading p (x ∷ xs) = cond (p x) (x ∷ leading p xs) []

-- Whether a word is among these.
abbrev pub among : Word → List Word → Bool
among w [] = false
among w (v ∷ vs) = same v w || among w vs

-- The place of a word among these, from 0, if it is one of them.
abbrev pub found : Word → List Word → Option ℕ
found w [] = None
found w (v ∷ vs) = cond (same v w) (Some 0) (changed suc (found w vs))

-- What a table has for a word.
abbrev pub find : {A : Type 0} → List (Word × A) → Word → Option A
find [] w = None
find (r ∷ rs) w = cond (same r.0 w) (Some r.1) (find rs w)

-- The first place, counted from n, where a test holds of what stands before it (the nearest first), there and behind it.
abbrev pub first_where : {A : Type 0} → (List A → A → List A → Bool) → ℕ → List A → List A → Option ℕ
first_where p n before [] = None
first_where p n before (x ∷ xs) = cond (p before x xs) (Some n) (first_where p (suc n) (x ∷ before) xs)

-- The smaller of two numbers, of those that are there.
abbrev pub earliest : Option ℕ → Option ℕ → Option ℕ
earliest None n = n
earliest (Some m) None = Some m
earliest (Some m) (Some n) = Some (min m n)
