-- The place found is the first and lies within the text, and where none is found all bytes are before it.
use Rattle.std.proofs.Common.{◌≡◌, ℕ, ◌≤◌, cond, ltb, List, length, take, drop, Some, None, Option, ap, ◌∙◌, arith}
use Rattle.std.specs.Option.{unwrap_or}
use Rattle.std.specs.List.{position, position_or_len}
use Rattle.std.proofs.lemmas.List.Sums.{prefix_len-le-length}
use Rattle.lists.specs.Steps.{ends, inside}
use Rattle.lists.proofs.split_token.Goals as goal

place_or_len : (n len : ℕ) → n ≤ len → unwrap_or (cond (ltb n len) (Some n) None) len ≡ n
place_or_len n len within = grind arith

end_is : (text : List ℕ) (o : Option ℕ) (at : ℕ) → at ≡ unwrap_or o (length text) → o ≡ position ends text → at ≡ position_or_len ends text
end_is text o at e found = e ∙ ap (λ r. unwrap_or r (length text)) found ∙ place_or_len _ _ (prefix_len-le-length inside text)

pub split_at-requires : goal.split_at-requires
split_at-requires c = omega (arith, end_is c.args.text.now _ _ c.unwrap_or.ensures c.token_end.ensures, prefix_len-le-length inside c.args.text.now)

pub returns-clause-token : goal.returns-clause-token
returns-clause-token c = c.split_at.ensures.front ∙ ap (λ n. take n c.args.text.now) (end_is c.args.text.now _ _ c.unwrap_or.ensures c.token_end.ensures)

pub returns-clause-behind : goal.returns-clause-behind
returns-clause-behind c = c.split_at.ensures.back ∙ ap (λ n. drop n c.args.text.now) (end_is c.args.text.now _ _ c.unwrap_or.ensures c.token_end.ensures)
