-- A line's parts, appended one behind another.
use Rattle.std.proofs.Common.{◌≡◌, ℕ, List, ◌++◌, Result}
use Rattle.numerals.specs.Print.{Appended}
use Rattle.numerals.proofs.Appends.{appended_after}

-- Two parts make the whole.
pub two_parts : {U E : Type 0} (before a b all one after : List ℕ) (r : Result U E) → one ≡ before ++ a → Appended one b r after → a ++ b ≡ all → Appended before all r after
two_parts before a b all one after r e last whole = rw (← whole) (appended_after before a one b after r e last)

-- Four parts make the whole.
pub four_parts : {U E : Type 0} (before a b c d all one two three after : List ℕ) (r : Result U E) → one ≡ before ++ a → two ≡ one ++ b → three ≡ two ++ c → Appended three d r after → a ++ (b ++ (c ++ d)) ≡ all → Appended before all r after
four_parts before a b c d all one two three after r e f g last whole =
    two_parts before a (b ++ (c ++ d)) all one after r e (appended_after one b two (c ++ d) after r f (appended_after two c three d after r g last)) whole
