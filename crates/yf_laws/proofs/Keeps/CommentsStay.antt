-- A comment ends a line of the layout if and only if it is the first one at a leaf or after an implicit key.
use Rattle.std.proofs.Common.{◌≡◌, ℕ, zero, suc, Bool, true, false, List, [], ◌∷◌, ◌++◌, map, flat_map, Option, Some, None, refl, sym, ap, ◌∙◌}
use Rattle.std.specs.Prelude.{◌&&◌, ◌||◌, ◌==◌, not, nat_lt, slice_get, if◌then◌else◌, option_to_list}
use Rattle.std.specs.List.{list_any}
use Rattle.std.specs.Str.{IsUtf8}
use Rattle.std.proofs.lemmas.Bool.{eqb-true}
use Rattle.std.proofs.lemmas.Option.{same_Some}
use Rattle.std.proofs.lemmas.List.Folds.{list_any-append}
use Rattle.yf_comments.specs.Comment.{CommentValue}
use Rattle.yf_events.specs.Tree.{DocumentTree}
use Rattle.yf_events.specs.declared.event.Span.{Span}
use Rattle.yf_events.specs.declared.lists.Lists.{Lists}
use Rattle.yf_forms.specs.declared.style.Style.{Style}
use Rattle.yf_forms.specs.NormalForms.BareStart.{is_bare}
use Rattle.yf_laws.specs.Preservation.CommentsPlaced.{CommentsPlaced, at_leaf, ends_line, rows_in, source_in}
use Rattle.yf_laws.specs.Layouts.Decorated.{rows_of}
use Rattle.yf_laws.specs.Format.{IsFormatting}
use Rattle.yf_laws.specs.Layouts.Layout.{Remark, Source, first_comment, is_among, source_of, trailing, trailing_leaf}
use Rattle.yf_forms.specs.NormalForms.Normal.{normal_document, setting_of}
use Rattle.yf_print.specs.Layouts.Rows.{Row}
use Rattle.yf_laws.proofs.ReadAgain.BlanksAgain.{blanks_found}
use Rattle.yf_laws.proofs.SameReading.CommentsCut.{among_join}
use Rattle.yf_laws.proofs.Derived.DecoratedLemmas.{layout_then}
use Rattle.yf_laws.proofs.Trails.DocumentTrails.{leaves_of}
use Rattle.yf_laws.proofs.SecondRun.FixedLawsHold.{found_reading}
use Rattle.yf_laws.proofs.Trails.FormatTrails.{formats_trail}
use Rattle.yf_laws.proofs.SecondRun.FormatsFixed.{again_same}
use Rattle.yf_laws.proofs.Keeps.KeysTold.{laid_keys}
use Rattle.yf_laws.proofs.SameReading.StepLeaves.{laid_trees}
use Rattle.yf_laws.proofs.Trails.RowLeaves.{leaves_on}
use Rattle.yf_laws.proofs.SameReading.SourceOffsets.{source_is_at}
use Rattle.yf_forms.proofs.Measure.OffsetLemmas.{or_true}
use Rattle.yf_forms.proofs.Decide.LeafLemmas.{same as itself}

-- Tests.

apart : (a b n : Bool) → ((a && n) || (b && n)) ≡ ((a || b) && n)
apart true b true = refl
apart true true false = refl
apart true false false = refl
apart false b n = refl

merge : (a b x y n : Bool) → ((a || (x && n)) || (b || (y && n))) ≡ ((a || b) || ((x || y) && n))
merge true b x y n = refl
merge false true true y true = refl
merge false true true y false = refl
merge false true false y n = refl
merge false false true y true = refl
merge false false true true false = refl
merge false false true false false = refl
merge false false false y n = refl

absorb : (a x : Bool) → (a || (x && not a)) ≡ (a || x)
absorb true x = refl
absorb false true = refl
absorb false false = refl

if_both : (p k : Bool) → (if p && not k then true else false) ≡ ((if p then true else false) && not k)
if_both true true = refl
if_both true false = refl
if_both false k = refl

never : (p : Bool) → (if p then false else false) ≡ false
never true = refl
never false = refl

-- One comment d.

module _ (c : Source) (d : CommentValue) where
  at_leaves : List Span → Bool
  at_leaves ls = list_any (λ leaf. is_among (at_leaf leaf (first_comment c leaf)) d) ls

  trails_key : Bool
  trails_key = is_among c.key_comments d

  cond_among : (p : Bool) (e : CommentValue) → is_among (if p then e ∷ [] else []) d ≡ (if p then (e.offset == d.offset) || false else false)
  cond_among true e = refl
  cond_among false e = refl

  one_leaf : (leaf : Span) (o : Option Remark) → is_among (trailing_leaf c leaf o) d ≡ (is_among (at_leaf leaf o) d && not trails_key)
  unfolding trails_key
  one_leaf leaf None = refl
  one_leaf leaf (Some r) = by (r.0.offset == d.offset) refl where
    by : (p : Bool) → (r.0.offset == d.offset) ≡ p → is_among (trailing_leaf c leaf (Some r)) d ≡ (is_among (at_leaf leaf (Some r)) d && not (is_among c.key_comments d))
    by true e =
        let same : is_among c.key_comments r.0 ≡ is_among c.key_comments d = ap (λ k. list_any (λ (x : CommentValue). x.offset == k) c.key_comments) (eqb-true r.0.offset d.offset e) in
        cond_among ((nat_lt r.0.offset leaf.end || r.1) && not (is_among c.key_comments r.0)) r.0
        ∙ (ap (λ z. if (nat_lt r.0.offset leaf.end || r.1) && not (is_among c.key_comments r.0) then z || false else false) e
        ∙ (ap (λ k. if (nat_lt r.0.offset leaf.end || r.1) && not k then true else false) same
        ∙ (if_both (nat_lt r.0.offset leaf.end || r.1) (is_among c.key_comments d)
        ∙ sym (ap (λ z. z && not (is_among c.key_comments d)) (cond_among (nat_lt r.0.offset leaf.end || r.1) r.0 ∙ ap (λ z. if nat_lt r.0.offset leaf.end || r.1 then z || false else false) e)))))
    by false e =
        cond_among ((nat_lt r.0.offset leaf.end || r.1) && not (is_among c.key_comments r.0)) r.0
        ∙ (ap (λ z. if (nat_lt r.0.offset leaf.end || r.1) && not (is_among c.key_comments r.0) then z || false else false) e
        ∙ (never ((nat_lt r.0.offset leaf.end || r.1) && not (is_among c.key_comments r.0))
        ∙ sym (ap (λ z. z && not (is_among c.key_comments d)) (cond_among (nat_lt r.0.offset leaf.end || r.1) r.0 ∙ (ap (λ z. if nat_lt r.0.offset leaf.end || r.1 then z || false else false) e
        ∙ never (nat_lt r.0.offset leaf.end || r.1))))))

  row_leaves : (ls : List Span) → is_among (flat_map (λ leaf. trailing_leaf c leaf (first_comment c leaf)) ls) d ≡ (at_leaves ls && not trails_key)
  unfolding at_leaves
  row_leaves [] = refl
  row_leaves (l ∷ ls) =
      among_join (trailing_leaf c l (first_comment c l)) (flat_map (λ leaf. trailing_leaf c leaf (first_comment c leaf)) ls) d
      ∙ (ap (λ z. z || is_among (flat_map (λ leaf. trailing_leaf c leaf (first_comment c leaf)) ls) d) (one_leaf l (first_comment c l))
      ∙ (ap (λ z. (is_among (at_leaf l (first_comment c l)) d && not trails_key) || z) (row_leaves ls)
      ∙ apart (is_among (at_leaf l (first_comment c l)) d) (at_leaves ls) (not trails_key)))

  leaves_join : (xs ys : List Span) → at_leaves (xs ++ ys) ≡ (at_leaves xs || at_leaves ys)
  unfolding at_leaves
  leaves_join xs ys = list_any-append (λ (leaf : Span). is_among (at_leaf leaf (first_comment c leaf)) d) xs ys

  abbrev keys_on : List Row → List CommentValue
  keys_on rows = flat_map (λ (row : Row). option_to_list row.key_comment) rows

  one_row : (row : Row) → is_among (trailing c row) d ≡ (is_among (option_to_list row.key_comment) d || (at_leaves row.leaves && not trails_key))
  one_row row =
      among_join (option_to_list row.key_comment) (flat_map (λ leaf. trailing_leaf c leaf (first_comment c leaf)) row.leaves) d
      ∙ ap (λ z. is_among (option_to_list row.key_comment) d || z) (row_leaves row.leaves)

  all_rows : (rows : List Row) → is_among (flat_map (trailing c) rows) d ≡ (is_among (keys_on rows) d || (at_leaves (leaves_on rows) && not trails_key))
  unfolding at_leaves
  all_rows [] = refl
  all_rows (row ∷ rows) =
      let key : Bool = is_among (option_to_list row.key_comment) d in
      among_join (trailing c row) (flat_map (trailing c) rows) d
      ∙ (ap (λ z. z || is_among (flat_map (trailing c) rows) d) (one_row row)
      ∙ (ap (λ z. (key || (at_leaves row.leaves && not trails_key)) || z) (all_rows rows)
      ∙ (merge key (is_among (keys_on rows) d) (at_leaves row.leaves) (at_leaves (leaves_on rows)) (not trails_key)
      ∙ (ap (λ z. z || ((at_leaves row.leaves || at_leaves (leaves_on rows)) && not trails_key)) (sym (among_join (option_to_list row.key_comment) (keys_on rows) d))
      ∙ ap (λ z. is_among (keys_on (row ∷ rows)) d || (z && not trails_key)) (sym (leaves_join row.leaves (leaves_on rows)))))))

-- for the rows of a reading
pub rows_exact : (m : Lists) (rows : List Row) (d : CommentValue) → is_among (flat_map (trailing (source_of m rows)) rows) d ≡ ends_line (source_of m rows) d
unfolding at_leaves trails_key
rows_exact m rows d =
    let c : Source = source_of m rows in
    all_rows c d rows ∙ absorb (is_among c.key_comments d) (list_any (λ leaf. is_among (at_leaf leaf (first_comment c leaf)) d) c.leaves)

any_at : (p : Span → Bool) (xs : List Span) (i : ℕ) (x : Span) → slice_get xs i ≡ Some x → p x ≡ true → list_any p xs ≡ true
any_at p [] i x e f = absurd cc
any_at p (y ∷ xs) zero x e f = let same : y ≡ x = same_Some _ _ e in ap (λ b. b || list_any p xs) (ap p same ∙ f)
any_at p (y ∷ xs) (suc i) x e f = ap (λ b. p y || b) (any_at p xs i x e f) ∙ or_true (p y)

none_at : (p : Span → Bool) (xs : List Span) → ((i : ℕ) (x : Span) → slice_get xs i ≡ Some x → p x ≡ false) → list_any p xs ≡ false
none_at p [] f = refl
none_at p (x ∷ xs) f = ap (λ b. b || list_any p xs) (f 0 x refl) ∙ none_at p xs (λ i y e. f (suc i) y e)

-- The law.

source_leaves : {t u : List ℕ} {s : Style} → IsUtf8 t → (f : IsFormatting t s u) → leaves_on (rows_in f) ≡ leaves_of f.is_normal.trees
source_leaves {t} {u} {s} utf8 f =
    let trees : List DocumentTree = map (normal_document t (setting_of f.reading s)) f.is_normal.trees in
    ap (λ xs. leaves_on (rows_of f.normal s xs)) (laid_trees f)
    ∙ (ap (λ (m : Lists). leaves_on (rows_of m s trees)) f.is_normal.is ∙ (source_is_at t s f.reading f.is_normal.trees utf8 f.reads f.is_normal.of_reading).leaves_are)

pub comments_stay : (t u : List ℕ) (s : Style) → IsUtf8 t → CommentsPlaced t s u
comments_stay t u s utf8 = record {
  leaves = λ f. source_leaves utf8 f;
  keys = λ f. laid_keys (setting_of f.normal s) (is_bare f.normal s) f.normal.documents f.writes.trees f.writes.of_reading.documents;
  exact = λ f d. rows_exact f.normal (rows_in f) d;
  stays_at_end = λ f i leaf d on_line got first near.
      let c : Source = source_in f in
      let here : is_among (at_leaf leaf (first_comment c leaf)) d ≡ true =
      ap (λ o. is_among (at_leaf leaf o) d) first ∙ (ap (λ b. is_among (if b then d ∷ [] else []) d) near ∙ ap (λ b. b || false) (itself d.offset)) in
      rows_exact f.normal (rows_in f) d
      ∙ (ap (λ b. is_among c.key_comments d || b) (any_at (λ l. is_among (at_leaf l (first_comment c l)) d) c.leaves i leaf got here) ∙ or_true (is_among c.key_comments d));
  stays_alone = λ f d no_key nowhere.
      let c : Source = source_in f in
      rows_exact f.normal (rows_in f) d
      ∙ (ap (λ b. b || list_any (λ l. is_among (at_leaf l (first_comment c l)) d) c.leaves) no_key ∙ none_at (λ l. is_among (at_leaf l (first_comment c l)) d) c.leaves nowhere);
  once = λ f. formats_trail t u s utf8 f;
  printed = λ f. f.writes.is ∙ layout_then t f.normal s f.writes.trees;
  before = λ f q b. let w = found_reading t u s q utf8 f b in (again_same q utf8 f b w (blanks_found t u s q utf8 f b w)).gap;
  follows = λ f q b. let w = found_reading t u s q utf8 f b in (again_same q utf8 f b w (blanks_found t u s q utf8 f b w)).decos;
}
