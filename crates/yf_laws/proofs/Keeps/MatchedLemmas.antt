-- Matched nodes are alike, and have the same comments at their keys.
use Rattle.std.proofs.Common.{◌≡◌, ℕ, Bool, true, false, true≢false, List, ◌++◌, map, Option, Some, None, refl, sym, ap, ◌∙◌}
use Rattle.std.specs.Prelude.{◌&&◌, ◌||◌, if◌then◌else◌, is_some, nat_lt}
use Rattle.std.specs.List.{find, list_any}
use Rattle.yf_comments.specs.Comment.{CommentValue}
use Rattle.yf_events.specs.Alike.{Alike, alike_scalars, alike_aliases, alike_sequences, alike_mappings, AlikeItems, alike_nothing, alike_item, AlikePairs, alike_no_pairs, alike_pair}
use Rattle.yf_events.specs.Tree.{Node, Items, Pairs, standing, leaves, leaves_of_items, leaves_of_pairs, items_in, items_in_items, items_in_pairs, entry_start, starts_of_entry, spans_of_leaf, is_text, is_filled_flow}
use Rattle.yf_events.specs.declared.event.Entry.{Entry}
use Rattle.yf_events.specs.declared.event.Span.{Span}
use Rattle.yf_grammar.specs.Productions.TreesOfMeaning.{Anywhere}
use Rattle.yf_forms.specs.declared.style.Style.{Style}
use Rattle.yf_forms.specs.NormalForms.Normal.{entry_or, first_between, key_comment, key_start, last_start}
use Rattle.yf_laws.specs.Preservation.ReadingKey.{Each, none_each, one_each, Either, in_neither, in_both, PairedOffsets, SameSide, SameSpan, SameEntry, SameComment, NodesMatch, matched_scalars, matched_aliases, matched_empty_sequences, matched_empty_mappings, matched_sequences, matched_mappings, ItemsMatch, no_matched_items, matched_item, PairsMatch, no_matched_pairs, matched_pair}
use Rattle.yf_laws.specs.Layouts.RowShapes.{KeysAgree}
use Rattle.yf_laws.proofs.SecondRun.AlikeLemmas.{same_filled_flow, same_text}

-- Lists and options.

pub each_append : {A : Type 0} {R : A → A → Type 0} {xs ys us vs : List A} → Each R xs ys → Each R us vs → Each R (xs ++ us) (ys ++ vs)
each_append none_each b = b
each_append (one_each a more) b = one_each a (each_append more b)

pub find_each : {A : Type 0} {R : A → A → Type 0} {xs ys : List A} (p q : A → Bool) → ((x y : A) → R x y → p x ≡ q y) → Each R xs ys → Either R (find p xs) (find q ys)
find_each p q f none_each = in_neither
find_each {R = R} p q f (one_each {x = x} {y = y} {xs = xs} {ys = ys} a more) = by (p x) (q y) (f x y a) (find_each p q f more) where
  by : (b c : Bool) → b ≡ c → Either R (find p xs) (find q ys) → Either R (if b then Some x else find p xs) (if c then Some y else find q ys)
  by true true e rest = in_both a
  by false false e rest = rest
  by true false e rest = absurd (true≢false e)
  by false true e rest = absurd (true≢false (sym e))

pub any_each : {A : Type 0} {R : A → A → Type 0} {xs ys : List A} (p q : A → Bool) → ((x y : A) → R x y → p x ≡ q y) → Each R xs ys → list_any p xs ≡ list_any q ys
any_each p q f none_each = refl
any_each p q f (one_each {x = x} {y = y} {xs = xs} {ys = ys} a more) = ap (λ b. b || list_any p xs) (f x y a) ∙ ap (λ b. q y || b) (any_each p q f more)

pub some_either : {A : Type 0} {R : A → A → Type 0} {x y : Option A} → Either R x y → is_some x ≡ is_some y
some_either in_neither = refl
some_either (in_both a) = refl

pub both_lt : {a b c d : Bool} → a ≡ c → b ≡ d → (a && b) ≡ (c && d)
both_lt {a} {b} {c} {d} e f = ap (λ z. z && b) e ∙ ap (λ z. c && z) f

either_if : {A : Type 0} {R : A → A → Type 0} (p q : Bool) {x y : Option A} → p ≡ q → Either R x y → Either R (if p then x else None) (if q then y else None)
either_if true true e a = a
either_if false false e a = in_neither
either_if true false e a = absurd (true≢false e)
either_if false true e a = absurd (true≢false (sym e))

module _ {ps : PairedOffsets} where
  mutual
    pub matched_alike : {s : Style} {x y : Node} → NodesMatch ps s x y → Alike Anywhere x y
    matched_alike (matched_scalars a e) = alike_scalars (some_either a)
    matched_alike (matched_aliases a e) = alike_aliases (some_either a)
    matched_alike (matched_empty_sequences a e) = alike_sequences (some_either a) alike_nothing
    matched_alike (matched_empty_mappings a e) = alike_mappings (some_either a) alike_no_pairs
    matched_alike (matched_sequences a e m more) = alike_sequences a (alike_item (matched_alike m) (items_alike more))
    matched_alike (matched_mappings a e i m n more) = alike_mappings a (alike_pair (matched_alike m) (matched_alike n) tt (pairs_alike more))

    items_alike : {s : Style} {xs ys : Items} → ItemsMatch ps s xs ys → AlikeItems Anywhere xs ys
    items_alike no_matched_items = alike_nothing
    items_alike (matched_item m more) = alike_item (matched_alike m) (items_alike more)

    pairs_alike : {s : Style} {qs rs : Pairs} → PairsMatch ps s qs rs → AlikePairs Anywhere qs rs
    pairs_alike no_matched_pairs = alike_no_pairs
    pairs_alike (matched_pair i m n more) = alike_pair (matched_alike m) (matched_alike n) tt (pairs_alike more)

  -- Places.

  pub leaf_spans : {a b : Option Span} → Either (SameSpan ps) a b → Each (SameSpan ps) (spans_of_leaf a) (spans_of_leaf b)
  leaf_spans in_neither = none_each
  leaf_spans (in_both a) = one_each a none_each

  pub starts_each : {xs ys : List Span} → Each (SameSpan ps) xs ys → Each (SameSide ps.comments) (map (λ s. s.start) xs) (map (λ s. s.start) ys)
  starts_each none_each = none_each
  starts_each (one_each a more) = one_each a.start (starts_each more)

  pub entry_of : {s : Style} {x y : Node} → NodesMatch ps s x y → Either (SameEntry ps) (standing x).entry (standing y).entry
  entry_of (matched_scalars a e) = e
  entry_of (matched_aliases a e) = e
  entry_of (matched_empty_sequences a e) = e
  entry_of (matched_empty_mappings a e) = e
  entry_of (matched_sequences a e m more) = e
  entry_of (matched_mappings a e i m n more) = e

  entry_starts : {a b : Option Entry} → Either (SameEntry ps) a b → Each (SameSide ps.comments) (starts_of_entry a) (starts_of_entry b)
  entry_starts in_neither = none_each
  entry_starts (in_both e) = one_each e.start none_each

  pub entry_each : {s : Style} {x y : Node} → NodesMatch ps s x y → Each (SameSide ps.comments) (entry_start x) (entry_start y)
  entry_each m = entry_starts (entry_of m)

  mutual
    pub leaves_each : {s : Style} {x y : Node} → NodesMatch ps s x y → Each (SameSpan ps) (leaves x) (leaves y)
    leaves_each (matched_scalars a e) = leaf_spans a
    leaves_each (matched_aliases a e) = leaf_spans a
    leaves_each (matched_empty_sequences a e) = leaf_spans a
    leaves_each (matched_empty_mappings a e) = leaf_spans a
    leaves_each (matched_sequences a e m more) = each_append (leaves_each m) (items_leaves more)
    leaves_each (matched_mappings a e i m n more) = each_append (leaves_each m) (each_append (leaves_each n) (pairs_leaves more))

    items_leaves : {s : Style} {xs ys : Items} → ItemsMatch ps s xs ys → Each (SameSpan ps) (leaves_of_items xs) (leaves_of_items ys)
    items_leaves no_matched_items = none_each
    items_leaves (matched_item m more) = each_append (leaves_each m) (items_leaves more)

    pairs_leaves : {s : Style} {qs rs : Pairs} → PairsMatch ps s qs rs → Each (SameSpan ps) (leaves_of_pairs qs) (leaves_of_pairs rs)
    pairs_leaves no_matched_pairs = none_each
    pairs_leaves (matched_pair i m n more) = each_append (leaves_each m) (each_append (leaves_each n) (pairs_leaves more))

  mutual
    pub items_each : {s : Style} {x y : Node} → NodesMatch ps s x y → Each (SameSide ps.comments) (items_in x) (items_in y)
    items_each (matched_scalars a e) = starts_each (leaf_spans a)
    items_each (matched_aliases a e) = starts_each (leaf_spans a)
    items_each (matched_empty_sequences a e) = starts_each (leaf_spans a)
    items_each (matched_empty_mappings a e) = starts_each (leaf_spans a)
    items_each (matched_sequences a e m more) = each_append (entry_each m) (each_append (items_each m) (items_items more))
    items_each (matched_mappings a e i m n more) = each_append (entry_each m) (each_append (items_each m) (each_append (items_each n) (pairs_items more)))

    items_items : {s : Style} {xs ys : Items} → ItemsMatch ps s xs ys → Each (SameSide ps.comments) (items_in_items xs) (items_in_items ys)
    items_items no_matched_items = none_each
    items_items (matched_item m more) = each_append (entry_each m) (each_append (items_each m) (items_items more))

    pairs_items : {s : Style} {qs rs : Pairs} → PairsMatch ps s qs rs → Each (SameSide ps.comments) (items_in_pairs qs) (items_in_pairs rs)
    pairs_items no_matched_pairs = none_each
    pairs_items (matched_pair i m n more) = each_append (entry_each m) (each_append (items_each m) (each_append (items_each n) (pairs_items more)))

  -- Comments at keys.

  last_each : {a b : ℕ} {xs ys : List Span} → SameSide ps.comments a b → Each (SameSpan ps) xs ys → SameSide ps.comments (last_start a xs) (last_start b ys)
  last_each s none_each = s
  last_each s (one_each a more) = last_each a.start more

  entry_side : {a b : Option Entry} → is_some a ≡ true → Either (SameEntry ps) a b → SameSide ps.comments (entry_or 0 a) (entry_or 0 b)
  entry_side i in_neither = absurd (true≢false (sym i))
  entry_side i (in_both e) = e.start

  start_side : {s : Style} {k l : Node} → is_some (standing k).entry ≡ true → NodesMatch ps s k l → SameSide ps.comments (key_start k) (key_start l)
  start_side i m = last_each (entry_side i (entry_of m)) (leaves_each m)

  between : {cs ds : List CommentValue} {a b : ℕ} {xs ys : List Span} → Each (SameComment ps) cs ds → SameSide ps.comments a b → Each (SameSpan ps) xs ys → Either (SameComment ps) (first_between cs a xs) (first_between ds b ys)
  between cs s none_each = in_neither
  between {a = a} {b = b} cs s (one_each {x = x} {y = y} l more) =
      find_each (λ c. nat_lt a c.offset && nat_lt c.offset x.start) (λ d. nat_lt b d.offset && nat_lt d.offset y.start)
      (λ c d e. both_lt (s.before c.offset d.offset e.paired) (l.start.after c.offset d.offset e.paired)) cs

  pub key_each : {s : Style} {cs ds : List CommentValue} {k l v w : Node} → Each (SameComment ps) cs ds → is_some (standing k).entry ≡ true → NodesMatch ps s k l → NodesMatch ps s v w
      → Either (SameComment ps) (key_comment cs k v) (key_comment ds l w)
  key_each {v = v} {w = w} cs i m n =
      either_if (is_text v || is_filled_flow v) (is_text w || is_filled_flow w)
      (ap (λ z. z || is_filled_flow v) (same_text (matched_alike n)) ∙ ap (λ z. is_text w || z) (same_filled_flow (matched_alike n)))
      (between cs (start_side i m) (leaves_each n))

  pub keys_agree : {cs ds : List CommentValue} {k l v w : Node} (s : Style) → Each (SameComment ps) cs ds → is_some (standing k).entry ≡ true → NodesMatch ps s k l → NodesMatch ps s v w → KeysAgree s cs ds k v l w
  keys_agree s cs i m n = record { comment = λ column e. some_either (key_each cs i m n) }
