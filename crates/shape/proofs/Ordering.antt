-- What the last sort of the lines before a line tells is all that their order asks of them.
use Rattle.std.proofs.Common.{◌≡◌, ℕ, suc, ◌<◌, Bool, true, false, cond, not, ◌||◌, eqb, ltb, leb, List, [], ◌∷◌, map, Some, None, Option, sym, refl, ap, ◌∙◌, subst, arith}
use Rattle.std.proofs.lemmas.Bool.Decides.{nat_tests}
use Rattle.text.specs.Sheet.{starts, form_at, forms_at}
use Rattle.text.specs.declared.row.Row.{Row}
use Rattle.language.specs.Basics.{any, changed, collect, first_where}
use Rattle.language.specs.Named.{Line}
use Rattle.language.specs.Lines.{sort, rank, is}
use Rattle.language.specs.Grammar.{line}
use Rattle.language.specs.Causes.{out_of_place, unfit, first_unfit}
use Rattle.language.specs.declared.house.Opener.{Opener}
use Rattle.language.specs.declared.house.Opener.TheVariants.{Kind, Proc, State}
use Rattle.shape.specs.Places.{height, misplaced, later}

-- The last sort of some lines.
abbrev latest : List Line → Option Opener
latest [] = None
latest (l ∷ ls) = later (latest ls) (sort l)

height_later : (p : Option Opener) (o : Opener) → height (later p o) ≡ cond (ltb (height p) (rank o)) (rank o) (height p)
height_later p o = one (ltb (height p) (rank o))
  where
    one : (t : Bool) → height (cond t (Some o) p) ≡ cond t (rank o) (height p)
    one true = refl
    one false = refl

-- One of the lines is of a higher rank, of this rank or a higher one.
above : (n : ℕ) (ls : List Line) → any (λ b. ltb n (rank (sort b))) ls ≡ ltb n (height (latest ls))
above n [] = grind (arith, nat_tests)
above n (l ∷ ls) = one (rank (sort l)) (height (latest ls)) (above n ls) ∙ ap (ltb n) (sym (height_later (latest ls) (sort l)))
  where
    one : (r h : ℕ) {t : Bool} → t ≡ ltb n h → (ltb n r || t) ≡ ltb n (cond (ltb h r) r h)
    one r h e = rw e (grind (arith, nat_tests))

reached : (n : ℕ) → 0 < n → (ls : List Line) → (any (λ b. ltb n (rank (sort b))) ls || any (λ b. eqb n (rank (sort b))) ls) ≡ leb n (height (latest ls))
reached n some [] = grind (arith, nat_tests)
reached n some (l ∷ ls) =
    one (rank (sort l)) (height (latest ls)) (any (λ b. ltb n (rank (sort b))) ls) (any (λ b. eqb n (rank (sort b))) ls) (reached n some ls)
    ∙ ap (leb n) (sym (height_later (latest ls) (sort l)))
  where
    one : (r h : ℕ) (t u : Bool) → (t || u) ≡ leb n h → ((ltb n r || t) || (eqb n r || u)) ≡ leb n (cond (ltb h r) r h)
    one r h true u e = grind (arith, nat_tests)
    one r h false true e = grind (arith, nat_tests)
    one r h false false e = grind (arith, nat_tests)

-- No rank is above that of a state.
none_above : (ls : List Line) → any (λ b. ltb 8 (rank (sort b))) ls ≡ false
none_above [] = refl
none_above (l ∷ ls) = rw (one (sort l)) (none_above ls)
  where
    one : (o : Opener) → ltb 8 (rank o) ≡ false
    one Kind = refl
    one _ = refl

-- Among lines that stand in their places, one is a process exactly if the last sort is a process or a state.
abbrev Started : List Line → Type 0
Started ls = any (is Proc) ls ≡ leb 7 (height (latest ls))

started_more : (ls : List Line) (l : Line) → Started ls → misplaced (latest ls) (sort l) ≡ false → Started (l ∷ ls)
started_more ls l s fits = one (sort l) (any (is Proc) ls) (height (latest ls)) s (λ e. least (height (latest ls)) (subst (λ o. misplaced (latest ls) o ≡ false) e fits)) ∙ ap (leb 7) (sym (height_later (latest ls) (sort l)))
  where
    least : (h : ℕ) → ltb h 7 ≡ false → leb 7 h ≡ true
    least h e = grind (arith, nat_tests)

    one : (o : Opener) (t : Bool) (h : ℕ) → t ≡ leb 7 h → (o ≡ State → leb 7 h ≡ true) → (eqb 7 (rank o) || t) ≡ leb 7 (cond (ltb h (rank o)) (rank o) h)
    one Proc t h e f = grind (arith, nat_tests)
    one State t h e f = rw (e, f refl) (grind (arith, nat_tests, f refl))
    one Kind t h e f = rw e (grind (arith, nat_tests))
    one _ t h e f = rw e (grind (arith, nat_tests))

or_false : (t : Bool) → (t || false) ≡ t
or_false true = refl
or_false false = refl

placed : (ls : List Line) (l : Line) → Started ls → out_of_place ls l ≡ misplaced (latest ls) (sort l)
placed ls (Line.kind k) s = rw or_false (reached 1 (omega arith) ls)
placed ls (Line.tact n) s = rw or_false (reached 2 (omega arith) ls)
placed ls (Line.const w n) s = or_false _ ∙ above 3 ls
placed ls (Line.cell w) s = or_false _ ∙ above 4 ls
placed ls (Line.input w) s = or_false _ ∙ above 5 ls
placed ls (Line.output w) s = or_false _ ∙ above 6 ls
placed ls (Line.process w) s = refl
placed ls (Line.state w b) s = rw (none_above ls) (ap not s ∙ one (height (latest ls)))
  where
    one : (h : ℕ) → not (leb 7 h) ≡ ltb h 7
    one h = grind (arith, nat_tests)

-- The first unfit line, counted from n, by the sorts of lines behind those of a last sort.
abbrev pub unfit_from : ℕ → Option Opener → List (Option Opener) → Option ℕ
unfit_from n p [] = None
unfit_from n p (None ∷ os) = Some n
unfit_from n p (Some o ∷ os) = cond (misplaced p o) (Some n) (unfit_from (suc n) (later p o) os)

unfit_where : (n : ℕ) (before ls : List (Option Line)) → Started (collect (λ x. x) before) → first_where unfit n before ls ≡ unfit_from n (latest (collect (λ x. x) before)) (map (changed sort) ls)
unfit_where n before [] s = refl
unfit_where n before (None ∷ ls) s = refl
unfit_where n before (Some l ∷ ls) s = one (misplaced (latest (collect (λ x. x) before)) (sort l)) refl (placed (collect (λ x. x) before) l s) (unfit_where (suc n) (Some l ∷ before) ls)
  where
    front : List Line
    front = collect (λ x. x) before

    one : (t : Bool) → misplaced (latest front) (sort l) ≡ t → out_of_place front l ≡ misplaced (latest front) (sort l)
        → (Started (l ∷ front) → first_where unfit (suc n) (Some l ∷ before) ls ≡ unfit_from (suc n) (later (latest front) (sort l)) (map (changed sort) ls))
        → cond (out_of_place front l) (Some n) (first_where unfit (suc n) (Some l ∷ before) ls) ≡ cond (misplaced (latest front) (sort l)) (Some n) (unfit_from (suc n) (later (latest front) (sort l)) (map (changed sort) ls))
    one true e f go = rw (f, e)
    one false e f go = rw (f, e) (go (started_more front l s e))

-- The sorts of the lines of a sheet, from their rows.
abbrev pub sort_at : List Row → ℕ → Option Opener
sort_at rows at = changed sort (line (form_at 13 rows at))

map_map : {A B C : Type 0} (f : B → C) (g : A → B) (xs : List A) → map f (map g xs) ≡ map (λ x. f (g x)) xs
map_map f g [] = refl
map_map f g (x ∷ xs) = ap (λ ys. f (g x) ∷ ys) (map_map f g xs)

pub unfit_lines : (rows : List Row) (p m : ℕ) → unfit_from 1 None (map (sort_at rows) (starts rows p m)) ≡ first_unfit (forms_at rows p m) []
unfit_lines rows p m =
    sym (unfit_where 1 [] (map line (forms_at rows p m)) refl ∙ ap (unfit_from 1 None) (ap (map (changed sort)) (map_map line (form_at 13 rows) (starts rows p m)) ∙ map_map (changed sort) (λ q. line (form_at 13 rows q)) (starts rows p m)))
