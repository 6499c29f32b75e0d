-- Laws of a test at each of some places.
use Rattle.std.proofs.Common.{◌≡◌, ℕ, ◌<◌, Bool, true, length, get_or, arith}
use Rattle.std.specs.List.{range_with_len}
use Rattle.std.proofs.lemmas.List.FromFn.{length-range_with_len, get_or-range_with_len}
use Rattle.std.proofs.lemmas.List.Sums.{AllPass-from_list_all, list_all-from_AllPass}
use Rattle.std.proofs.lemmas.List.Elements.{All-get_or, All-from_get_or}
use Rattle.flat.specs.Tests.{every}

module _ (test : ℕ → Bool) (n : ℕ) where
  size : length (range_with_len 0 n) ≡ n
  size = length-range_with_len 0 n

  place : (j : ℕ) → j < n → get_or (range_with_len 0 n) j 0 ≡ j
  place j l = grind (arith, get_or-range_with_len)

  -- what every says of each place
  pub every_at : (j : ℕ) → every test n ≡ true → j < n → test j ≡ true
  unfolding every
  every_at j e l =
      rw (place j l) at (All-get_or (λ k. test k ≡ true) (range_with_len 0 n) j 0 (rw size l) (AllPass-from_list_all test (range_with_len 0 n) e))

  pub every_made : ((j : ℕ) → j < n → test j ≡ true) → every test n ≡ true
  unfolding every
  every_made h =
      list_all-from_AllPass test (range_with_len 0 n) (All-from_get_or (λ k. test k ≡ true) (range_with_len 0 n) 0 (λ j l. let k : j < n = rw size at l in rw (place j k) (h j k)))
