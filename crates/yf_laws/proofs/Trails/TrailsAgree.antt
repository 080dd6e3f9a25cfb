-- The final marks of the pass over leaves say which comments trail in the layout.
use Rattle.std.proofs.Common.{◌≡◌, ◌≢◌, ℕ, ◌<◌, Bool, true, false, ◌&&◌, List, [], ◌∷◌, ◌++◌, length, flat_map, get_or, set, Option, Some, None, refl, sym, ap, ◌∙◌, arith, append_assoc}
use Rattle.std.specs.Prelude.{◌||◌, ◌==◌, nat_lt, option_to_list, slice_get, zip, if◌then◌else◌}
use Rattle.std.specs.List.{list_all}
use Rattle.std.proofs.lemmas.Bool.{and_parts}
use Rattle.std.proofs.lemmas.Bool.Decides.{nat_tests}
use Rattle.std.proofs.lemmas.List.{get_or-set_other, get_or-set_same, length-set, map-append}
use Rattle.std.proofs.lemmas.Option.{slice_get_within}
use Rattle.yf_comments.specs.Comment.{CommentValue}
use Rattle.yf_events.specs.declared.event.Span.{Span}
use Rattle.yf_events.specs.declared.lists.Lists.{Lists}
use Rattle.yf_print.specs.declared.trails.Leaf.{Leaf}
use Rattle.yf_laws.specs.Layouts.Layout.{Source, first_comment, is_among, trailing, trailing_leaf}
use Rattle.yf_print.specs.Layouts.Rows.{Row}
use Rattle.yf_print.specs.Passes.TrailPass.{TrailsSoFar, given, given_if, trails_leaf}
use Rattle.yf_laws.specs.Layouts.TrailsOf.{at_index}
use Rattle.yf_laws.proofs.Printer.FeedLemmas.{ascend}
use Rattle.yf_laws.proofs.Trails.LeafMarks.{Mark}
use Rattle.yf_laws.proofs.Trails.TrailChoice.{none_at, rising}
use Rattle.yf_laws.proofs.Trails.TrailLeaves.{KeyMarks, chosen_of}
use Rattle.yf_laws.proofs.Trails.TrailOthers.{among_indices, among_rows, at_indices, has, strict}
use Rattle.yf_laws.proofs.Trails.TrailRuns.{AgreeFrom, agree_after, closed_all, end_of, found_of, leaf_in, spans, trails_alike}
use Rattle.yf_forms.proofs.Decide.FlagLemmas.{or_assoc}

-- the comments that are found to trail leaves, in order
abbrev pub founds : Lists → List Bool → List Mark → List ℕ
founds r keys [] = []
founds r keys (l ∷ ls) = option_to_list (found_of r keys l ls) ++ founds r keys ls

pub or_false : (b : Bool) → b ≡ (b || false)
or_false true = refl
or_false false = refl

or_true : (b : Bool) → true ≡ (b || true)
or_true true = refl
or_true false = refl

pub has_append : (k : ℕ) (ns ms : List ℕ) → has k (ns ++ ms) ≡ (has k ns || has k ms)
has_append k [] ms = refl
has_append k (n ∷ ns) ms = ap (λ b. (n == k) || b) (has_append k ns ms) ∙ sym (or_assoc (n == k) (has k ns) (has k ms))

is_same : (n k : ℕ) → (n == k) ≡ true → k ≡ n
is_same n k e = grind (arith, nat_tests)

is_other : (n k : ℕ) → (n == k) ≡ false → k ≢ n
is_other n k e = grind (arith, nat_tests)

-- one more is marked
pub marked_one : (T : List Bool) (n k : ℕ) → k < length T → get_or (set T n true) k false ≡ (get_or T k false || ((n == k) || false))
marked_one T n k l = by (n == k) refl where
  by : (b : Bool) → (n == k) ≡ b → get_or (set T n true) k false ≡ (get_or T k false || (b || false))
  by true e =
      let q : k ≡ n = is_same n k e in
      ap (λ m. get_or (set T m true) k false) (sym q) ∙ (get_or-set_same T k true false l ∙ or_true (get_or T k false))
  by false e = get_or-set_other T n k true false (is_other n k e) ∙ or_false (get_or T k false)

given_marks : (r : Lists) (l : Leaf) (u k : ℕ) (f : TrailsSoFar) (b : Bool) → trails_leaf r f.trailing l u ≡ b → k < length f.trailing
    → get_or (given r (Some l) u f).trailing k false ≡ (get_or f.trailing k false || has k (option_to_list (if b then Some l.first else None)))
given_marks r l u k f b e w = ap (λ c. get_or (given_if c l f).trailing k false) e ∙ by b where
  by : (b : Bool) → get_or (given_if b l f).trailing k false ≡ (get_or f.trailing k false || has k (option_to_list (if b then Some l.first else None)))
  by true = marked_one f.trailing l.first k w
  by false = or_false (get_or f.trailing k false)

given_long : (r : Lists) (l : Leaf) (u : ℕ) (f : TrailsSoFar) → length (given r (Some l) u f).trailing ≡ length f.trailing
given_long r l u f = by (trails_leaf r f.trailing l u) where
  by : (b : Bool) → length (given_if b l f).trailing ≡ length f.trailing
  by true = length-set f.trailing l.first true
  by false = refl

pub marked_at : (r : Lists) (ls : List Mark) (f : TrailsSoFar) (keys : List Bool) (k : ℕ) → rising (spans ls) ≡ true → AgreeFrom r ls f.trailing keys → k < length f.trailing
    → get_or (closed_all r ls f).trailing k false ≡ (get_or f.trailing k false || has k (founds r keys ls))
marked_at r [] f keys k u a w = or_false (get_or f.trailing k false)
marked_at r (l ∷ ls) f keys k u a w =
    let g : TrailsSoFar = given r (Some (leaf_in r l)) (end_of r ls) f in
    let long = given_long r (leaf_in r l) (end_of r ls) f in
    let rest = (and_parts (list_all (λ (s : Span). nat_lt l.span.start s.start) (spans ls)) (rising (spans ls)) u).1 in
    let mine : List ℕ = option_to_list (found_of r keys l ls) in
    let more : List ℕ = founds r keys ls in
    marked_at r ls g keys k rest (agree_after r l ls f keys u a) (omega (arith, long, w))
    ∙ (ap (λ b. b || has k more) (given_marks r (leaf_in r l) (end_of r ls) k f (trails_leaf r keys (leaf_in r l) (end_of r ls)) (trails_alike r f.trailing keys (leaf_in r l) (end_of r ls) a) w)
    ∙ (or_assoc (get_or f.trailing k false) (has k mine) (has k more) ∙ ap (λ b. get_or f.trailing k false || b) (sym (has_append k mine more))))

-- and these are the comments that trail leaves in the layout

one_chosen : (cs : List CommentValue) (o : Option ℕ) (ns : List ℕ) → at_index cs o ++ at_indices cs ns ≡ at_indices cs (option_to_list o ++ ns)
one_chosen cs None ns = refl
one_chosen cs (Some n) ns = refl

abbrev pub none_at_starts : List CommentValue → List Span → Bool
none_at_starts cs [] = true
none_at_starts cs (s ∷ ss) = none_at s.start cs && none_at_starts cs ss

pub all_chosen : (r : Lists) (c : Source) (keys : List Bool) (xs ls : List Mark) → c.remarks ≡ zip r.comments r.on_leaf_line → length r.on_leaf_line ≡ length r.comments
    → c.leaves ≡ spans xs ++ spans ls → ascend r.comments ≡ true → rising (spans xs ++ spans ls) ≡ true → none_at_starts r.comments (spans ls) ≡ true
    → KeyMarks c r.comments keys
    → flat_map (λ leaf. trailing_leaf c leaf (first_comment c leaf)) (spans ls) ≡ at_indices r.comments (founds r keys ls)
all_chosen r c keys xs [] m e lv a u n k = refl
all_chosen r c keys xs (l ∷ ls) m e lv a u n k =
    let parts = and_parts (none_at l.span.start r.comments) (none_at_starts r.comments (spans ls)) n in
    let moved : spans (xs ++ (l ∷ [])) ++ spans ls ≡ spans xs ++ (l.span ∷ spans ls) =
    ap (λ w. w ++ spans ls) (map-append (λ (m : Mark). m.span) xs (l ∷ [])) ∙ append_assoc (spans xs) (l.span ∷ []) (spans ls) in
    let of_leaf : Span → List CommentValue = λ leaf. trailing_leaf c leaf (first_comment c leaf) in
    ap (λ w. w ++ flat_map of_leaf (spans ls)) (chosen_of r c keys xs l ls m e lv a u parts.0 k)
    ∙ (ap (λ w. at_index r.comments (found_of r keys l ls) ++ w)
    (all_chosen r c keys (xs ++ (l ∷ [])) ls m e (lv ∙ sym moved) a (ap rising moved ∙ u) parts.1 k)
    ∙ one_chosen r.comments (found_of r keys l ls) (founds r keys ls))

-- So a comment is marked if and only if it trails a row.
pub marks_agree : (r : Lists) (c : Source) (rows : List Row) (ls : List Mark) (f : TrailsSoFar) → c.remarks ≡ zip r.comments r.on_leaf_line → length r.on_leaf_line ≡ length r.comments
    → c.leaves ≡ spans ls → c.leaves ≡ flat_map (λ row. row.leaves) rows → c.key_comments ≡ flat_map (λ row. option_to_list row.key_comment) rows
    → ascend r.comments ≡ true → strict r.comments ≡ true → rising (spans ls) ≡ true → none_at_starts r.comments (spans ls) ≡ true
    → KeyMarks c r.comments f.trailing → AgreeFrom r ls f.trailing f.trailing → length f.trailing ≡ length r.comments
    → (j : ℕ) (d : CommentValue) → slice_get r.comments j ≡ Some d → get_or (closed_all r ls f).trailing j false ≡ is_among (flat_map (trailing c) rows) d
marks_agree r c rows ls f m e lv ll lk a s u n k g w j d q =
    let of_leaf : Span → List CommentValue = λ leaf. trailing_leaf c leaf (first_comment c leaf) in
    let low = slice_get_within r.comments j d q in
    marked_at r ls f f.trailing j u g (omega (arith, low, w))
    ∙ (ap (λ b. b || has j (founds r f.trailing ls)) (k.marked j d q)
    ∙ (ap (λ b. is_among c.key_comments d || b) (sym (among_indices r.comments (founds r f.trailing ls) j d s q))
    ∙ (ap (λ v. is_among c.key_comments d || is_among v d) (sym (all_chosen r c f.trailing [] ls m e lv a u n k))
    ∙ (ap (λ v. is_among c.key_comments d || is_among (flat_map of_leaf v) d) (sym lv ∙ ll)
    ∙ (ap (λ v. is_among v d || is_among (flat_map of_leaf (flat_map (λ (row : Row). row.leaves) rows)) d) lk ∙ sym (among_rows c rows d))))))
