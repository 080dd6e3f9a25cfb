-- No row of a node is the start of a document, so the steps of documents are only its comments.
use Rattle.std.proofs.Common.{◌≡◌, ℕ, ◌-◌, Bool, true, false, List, [], ◌∷◌, ◌++◌, codes, map, Option, Some, None, refl, sym, ap, ◌∙◌, append_assoc}
use Rattle.std.specs.Prelude.{if◌then◌else◌}
use Rattle.std.proofs.lemmas.List.{map-append}
use Rattle.yf_comments.specs.Comment.{CommentValue}
use Rattle.yf_events.specs.Tree.{Node, scalar, alias, sequence, mapping, Items, no_items, item, Pairs, no_pairs, pair}
use Rattle.yf_events.specs.declared.directive.Directive.{Directive}
use Rattle.yf_events.specs.declared.event.ScalarStyle.TheVariants.{Plain, Single, Double, Literal, Folded}
use Rattle.yf_forms.specs.declared.style.Style.{Style}
use Rattle.yf_laws.proofs.SameReading.RowSteps.{begins_after, documents_begin, steps_with, begins_on}
use Rattle.yf_forms.specs.Nodes.BlockLines.{final_feeds, is_kept_tail}
use Rattle.yf_laws.specs.Layouts.RowComments.{carried_texts, comments_in}
use Rattle.yf_laws.specs.Layouts.Decorated.{Deco, after, first, past}
use Rattle.yf_forms.specs.NormalForms.Normal.{LayoutSetting, Margins, inner_margins, is_implicit, key_comment, key_margins, value_margins}
use Rattle.yf_forms.specs.Nodes.OneLine.{props_text, written}
use Rattle.yf_print.specs.Layouts.Rows.{Row, begins_below, after_key, colon_row, directive_row, entry_row, explicit_pair, implicit_pair, joined, key_row, one_line_row, pair_rows, props_row, rows, rows_of_items, rows_of_pairs, tail_ending, Ending}
use Rattle.yf_laws.proofs.Derived.LayoutSteps.{Step, a_comment, comment_steps}

pub data NoStarts : List Row → Type 0 where
  no_starts : NoStarts []
  no_start_on : {row : Row} {rows : List Row} → documents_begin row ≡ [] → NoStarts rows → NoStarts (row ∷ rows)

pub starts_none : {xs ys : List Row} → NoStarts xs → NoStarts ys → NoStarts (xs ++ ys)
starts_none no_starts b = b
starts_none (no_start_on e a) b = no_start_on e (starts_none a b)

begun_joined : (a b : Bool) (d e : Ending) → begins_on a d ≡ [] → begins_on b e ≡ [] → begins_on a e ≡ []
begun_joined true b d e f g = absurd (some f) where
  some : {x : Step} {xs : List Step} → x ∷ xs ≡ [] → ⊥
  some h = cc
begun_joined false true d e f g = absurd (some g) where
  some : {x : Step} {xs : List Step} → x ∷ xs ≡ [] → ⊥
  some h = cc
begun_joined false false d e f g = g

joined_none : (head : Row) (n : ℕ) (xs : List Row) → documents_begin head ≡ [] → NoStarts xs → NoStarts (joined head n xs)
joined_none head n [] e a = no_start_on e no_starts
joined_none head n (x ∷ xs) e (no_start_on f a) = no_start_on (begun_joined head.begins x.begins head.ending x.ending e f) a

line_none : (column : ℕ) (x : Node) (w : List ℕ) → NoStarts (one_line_row column x w)
line_none column x [] = no_starts
line_none column x (b ∷ w) = no_start_on refl no_starts

props_none : (column : ℕ) (w : List ℕ) → NoStarts (props_row column w)
props_none column [] = no_starts
props_none column (b ∷ w) = no_start_on refl no_starts

tail_none : (b : Bool) → begins_after (tail_ending b) ≡ []
tail_none true = refl
tail_none false = refl

key_none : (house : Style) (column : ℕ) (k : Node) (o : Option CommentValue) (below : Bool) (xs : List Row) → NoStarts xs → NoStarts (after_key (key_row house column k) o below xs)
key_none house column k (Some c) below xs a = no_start_on refl a
key_none house column k None true xs a = no_start_on refl a
key_none house column k None false xs a = joined_none (key_row house column k) 1 xs refl a

pair_none : (c : LayoutSetting) (column : ℕ) (k v : Node) (xs ys : List Row) → NoStarts xs → NoStarts ys → NoStarts (pair_rows c column k v xs ys)
pair_none c column k v xs ys a b = by (is_implicit c.style column k) where
  by : (p : Bool) → NoStarts (if p then implicit_pair c column k v ys else explicit_pair c.style column k xs ys)
  by true = key_none c.style column k (key_comment c.comments k v) (begins_below v) ys b
  by false =
      starts_none (joined_none (entry_row column (codes "?") k) (c.style.indent - 1) xs refl a) (joined_none (colon_row column k) (c.style.indent - 1) ys refl b)

mutual
  pub rows_none : (c : LayoutSetting) (margins : Margins) (x : Node) → NoStarts (rows c margins x)
  rows_none c margins (scalar at props Plain text lines) = line_none margins.column (scalar at props Plain text lines) (written c.style (scalar at props Plain text lines))
  rows_none c margins (scalar at props Single text lines) = line_none margins.column (scalar at props Single text lines) (written c.style (scalar at props Single text lines))
  rows_none c margins (scalar at props Double text lines) = line_none margins.column (scalar at props Double text lines) (written c.style (scalar at props Double text lines))
  rows_none c margins (scalar at props Literal text lines) = no_start_on (tail_none (is_kept_tail (final_feeds text))) no_starts
  rows_none c margins (scalar at props Folded text lines) = no_start_on (tail_none (is_kept_tail (final_feeds text))) no_starts
  rows_none c margins (alias at name) = line_none margins.column (alias at name) (written c.style (alias at name))
  rows_none c margins (sequence at true props items) = line_none margins.column (sequence at true props items) (written c.style (sequence at true props items))
  rows_none c margins (sequence at false props items) = starts_none (props_none margins.column (props_text props)) (items_none c margins.entries items)
  rows_none c margins (mapping at true props pairs) = line_none margins.column (mapping at true props pairs) (written c.style (mapping at true props pairs))
  rows_none c margins (mapping at false props pairs) = starts_none (props_none margins.column (props_text props)) (pairs_none c margins.entries pairs)

  items_none : (c : LayoutSetting) (column : ℕ) (xs : Items) → NoStarts (rows_of_items c column xs)
  items_none c column no_items = no_starts
  items_none c column (item x xs) =
      starts_none (joined_none (entry_row column (codes "-") x) (c.style.indent - 1) (rows c (inner_margins c.style column) x) refl (rows_none c (inner_margins c.style column) x)) (items_none c column xs)

  pairs_none : (c : LayoutSetting) (column : ℕ) (ps : Pairs) → NoStarts (rows_of_pairs c column ps)
  pairs_none c column no_pairs = no_starts
  pairs_none c column (pair k v ps) =
      starts_none (pair_none c column k v (rows c (key_margins c.style column k) k) (rows c (value_margins c column k v) v) (rows_none c (key_margins c.style column k) k) (rows_none c (value_margins c column k v) v)) (pairs_none c column ps)

pub directives_none : (es : List Directive) → NoStarts (map directive_row es)
directives_none [] = no_starts
directives_none (e ∷ es) = no_start_on refl (directives_none es)

-- Their steps.

pub quiet_steps : {xs : List Row} → NoStarts xs → (ds : List Deco) → steps_with documents_begin xs ds ≡ comment_steps (comments_in xs ds)
quiet_steps no_starts ds = refl
quiet_steps (no_start_on {row = x} {rows = xs} e a) ds =
    ap (λ w. w ++ (comment_steps (carried_texts (first ds)) ++ steps_with documents_begin xs (after ds))) e
    ∙ (ap (λ w. comment_steps (carried_texts (first ds)) ++ w) (quiet_steps a (after ds)) ∙ sym (map-append (λ (x : List ℕ). a_comment x) (carried_texts (first ds)) (comments_in xs (after ds))))

pub with_append : (f : Row → List Step) (xs ys : List Row) (ds : List Deco) → steps_with f (xs ++ ys) ds ≡ steps_with f xs ds ++ steps_with f ys (past xs ds)
with_append f [] ys ds = refl
with_append f (x ∷ xs) ys ds =
    ap (λ w. f x ++ (comment_steps (carried_texts (first ds)) ++ w)) (with_append f xs ys (after ds)) ∙ regroup (f x) (comment_steps (carried_texts (first ds))) (steps_with f xs (after ds)) (steps_with f ys (past xs (after ds))) where
      regroup : (a b c d : List Step) → a ++ (b ++ (c ++ d)) ≡ (a ++ (b ++ c)) ++ d
      regroup a b c d = simp append_assoc
