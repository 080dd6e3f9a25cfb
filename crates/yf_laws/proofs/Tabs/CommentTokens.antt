-- A property of all comments of a reading holds for those that its rows carry.
use Rattle.std.proofs.Common.{ℕ, Bool, true, false, List, [], ◌∷◌, ◌++◌, map, flat_map, Option, Some, None}
use Rattle.std.specs.Prelude.{◌&&◌, ◌||◌, filter, if◌then◌else◌, nat_lt, not, option_to_list, zip}
use Rattle.std.specs.List.{find}
use Rattle.yf_comments.specs.Comment.{CommentValue}
use Rattle.yf_comments.specs.GapLines.{GapLine, blank, remark}
use Rattle.yf_events.specs.Tree.{DocumentTree, Node, scalar, alias, sequence, mapping, Items, no_items, item, Pairs, no_pairs, pair, is_filled_flow, is_text, leaves}
use Rattle.yf_events.specs.declared.event.Span.{Span}
use Rattle.yf_laws.specs.Layouts.Decorated.{Deco, after, blank_if, comments_left, decos_of, ending_after, first, gap_of, remarks_after}
use Rattle.yf_laws.specs.Preservation.KeyComments.{keyed_in, keyed_in_documents, keyed_in_items, keyed_in_pairs}
use Rattle.yf_laws.specs.Layouts.Layout.{Remark, Source, first_comment, is_among, is_before, may_be_blank_after, next_leaf, precedes_item, trailing, trailing_leaf}
use Rattle.yf_laws.proofs.Trails.KeyTrails.{keys_on}
use Rattle.yf_forms.specs.Nodes.Lines.{trimmed}
use Rattle.yf_forms.specs.NormalForms.Normal.{LayoutSetting, Margins, first_between, inner_margins, is_implicit, key_comment, key_margins, key_start, root_margins, value_margins}
use Rattle.yf_print.specs.Layouts.Rows.{Ending, Row, anywhere}
use Rattle.yf_print.specs.Layouts.KeptColumns.{Columns}

module _ (Token : List ℕ → Type 0) where
  abbrev pub AllTokens : List CommentValue → Type 0
  AllTokens [] = Unit {0}
  AllTokens (c ∷ cs) = Token (trimmed c.text) × AllTokens cs

  abbrev pub TrailTokens : List (List ℕ) → Type 0
  TrailTokens [] = Unit {0}
  TrailTokens (x ∷ xs) = Token x × TrailTokens xs

  abbrev pub GapTokens : List GapLine → Type 0
  GapTokens [] = Unit {0}
  GapTokens (blank ∷ gs) = GapTokens gs
  GapTokens (remark column text ∷ gs) = Token text × GapTokens gs

  abbrev pub DecoTokens : List Deco → Type 0
  DecoTokens [] = Unit {0}
  DecoTokens (d ∷ ds) = (TrailTokens d.trails × GapTokens d.gap) × DecoTokens ds

  pub first_tokens : (ds : List Deco) → DecoTokens ds → TrailTokens (first ds).trails × GapTokens (first ds).gap
  first_tokens [] a = (tt, tt)
  first_tokens (d ∷ ds) a = a.0

  pub after_tokens : (ds : List Deco) → DecoTokens ds → DecoTokens (after ds)
  after_tokens [] a = tt
  after_tokens (d ∷ ds) a = a.1

  all_append : (xs ys : List CommentValue) → AllTokens xs → AllTokens ys → AllTokens (xs ++ ys)
  all_append [] ys a b = b
  all_append (x ∷ xs) ys a b = (a.0, all_append xs ys a.1 b)

  all_left : (xs ys : List CommentValue) → AllTokens (xs ++ ys) → AllTokens xs
  all_left [] ys a = tt
  all_left (x ∷ xs) ys a = (a.0, all_left xs ys a.1)

  all_right : (xs ys : List CommentValue) → AllTokens (xs ++ ys) → AllTokens ys
  all_right [] ys a = a
  all_right (x ∷ xs) ys a = all_right xs ys a.1

  pub all_filter : (p : CommentValue → Bool) (cs : List CommentValue) → AllTokens cs → AllTokens (filter p cs)
  all_filter p [] a = tt
  all_filter p (c ∷ cs) a = by (p c) (all_filter p cs a.1) where
    by : (b : Bool) → AllTokens (filter p cs) → AllTokens (if b then c ∷ filter p cs else filter p cs)
    by true more = (a.0, more)
    by false more = more

  -- Gaps.

  gaps_join : (gs hs : List GapLine) → GapTokens gs → GapTokens hs → GapTokens (gs ++ hs)
  gaps_join [] hs a b = b
  gaps_join (blank ∷ gs) hs a b = gaps_join gs hs a b
  gaps_join (remark column text ∷ gs) hs a b = (a.0, gaps_join gs hs a.1 b)

  blank_tokens : (b : Bool) → GapTokens (blank_if b)
  blank_tokens true = tt
  blank_tokens false = tt

  remark_tokens : (g : Columns) (e : Ending) (column : ℕ) (cs : List CommentValue) → AllTokens cs → GapTokens (remarks_after g e column cs)
  remark_tokens g e column [] a = tt
  remark_tokens g e column (c ∷ cs) a =
      gaps_join (blank_if (may_be_blank_after e && c.blank_before)) (remark (g c column) (trimmed c.text) ∷ remarks_after g anywhere column cs) (blank_tokens (may_be_blank_after e && c.blank_before)) (a.0, remark_tokens g anywhere column cs a.1)

  pub gap_tokens : (g : Columns) (e : Ending) (cs : List CommentValue) (xs : List Row) → AllTokens cs → GapTokens (gap_of g e cs xs)
  gap_tokens g e cs [] a = remark_tokens g e 0 cs a
  gap_tokens g e cs (x ∷ xs) a =
      gaps_join (remarks_after g e x.column (filter (precedes_item x) cs)) (blank_if (may_be_blank_after (ending_after e (filter (precedes_item x) cs)) && x.blank_before))
      (remark_tokens g e x.column (filter (precedes_item x) cs) (all_filter (precedes_item x) cs a)) (blank_tokens (may_be_blank_after (ending_after e (filter (precedes_item x) cs)) && x.blank_before))

  -- Trails.

  abbrev RemarkTokens : List Remark → Type 0
  RemarkTokens [] = Unit {0}
  RemarkTokens (r ∷ rs) = Token (trimmed r.0.text) × RemarkTokens rs

  abbrev OptionToken : Option Remark → Type 0
  OptionToken None = Unit {0}
  OptionToken (Some r) = Token (trimmed r.0.text)

  found_token : (p : Remark → Bool) (rs : List Remark) → RemarkTokens rs → OptionToken (find p rs)
  found_token p [] a = tt
  found_token p (r ∷ rs) a = by (p r) (found_token p rs a.1) where
    by : (b : Bool) → OptionToken (find p rs) → OptionToken (if b then Some r else find p rs)
    by true more = a.0
    by false more = more

  leaf_tokens : (c : Source) (leaf : Span) (o : Option Remark) → OptionToken o → AllTokens (trailing_leaf c leaf o)
  leaf_tokens c leaf None a = tt
  leaf_tokens c leaf (Some r) a = by ((nat_lt r.0.offset leaf.end || r.1) && not (is_among c.key_comments r.0)) where
    by : (b : Bool) → AllTokens (if b then r.0 ∷ [] else [])
    by true = (a, tt)
    by false = tt

  leaves_tokens : (c : Source) (ls : List Span) → RemarkTokens c.remarks → AllTokens (flat_map (λ leaf. trailing_leaf c leaf (first_comment c leaf)) ls)
  leaves_tokens c [] a = tt
  leaves_tokens c (l ∷ ls) a =
      all_append (trailing_leaf c l (first_comment c l)) (flat_map (λ leaf. trailing_leaf c leaf (first_comment c leaf)) ls)
      (leaf_tokens c l (first_comment c l) (found_token (λ (r : Remark). nat_lt l.start r.0.offset && is_before r.0.offset (next_leaf c.leaves l.start)) c.remarks a)) (leaves_tokens c ls a)

  texts_tokens : (cs : List CommentValue) → AllTokens cs → TrailTokens (map (λ (d : CommentValue). trimmed d.text) cs)
  texts_tokens [] a = tt
  texts_tokens (c ∷ cs) a = (a.0, texts_tokens cs a.1)

  pub decos_tokens : (g : Columns) (c : Source) (cs : List CommentValue) (xs : List Row) → RemarkTokens c.remarks → AllTokens (keys_on xs) → AllTokens cs → DecoTokens (decos_of g c cs xs)
  decos_tokens g c cs [] r k a = tt
  decos_tokens g c cs (x ∷ xs) r k a =
      let left : AllTokens (comments_left x cs) = all_filter (λ d. not (precedes_item x d)) cs a in (
        (
          texts_tokens (trailing c x)
              (all_append (option_to_list x.key_comment) (flat_map (λ leaf. trailing_leaf c leaf (first_comment c leaf)) x.leaves) (all_left (option_to_list x.key_comment) (keys_on xs) k) (leaves_tokens c x.leaves r)),
          gap_tokens g x.ending (comments_left x cs) xs left,
        ),
        decos_tokens g c (comments_left x cs) xs r (all_right (option_to_list x.key_comment) (keys_on xs) k) left,
      )

  pub zip_tokens : (cs : List CommentValue) (bs : List Bool) → AllTokens cs → RemarkTokens (zip cs bs)
  zip_tokens [] bs a = tt
  zip_tokens (c ∷ cs) [] a = tt
  zip_tokens (c ∷ cs) (b ∷ bs) a = (a.0, zip_tokens cs bs a.1)

  pub own_tokens : (rs : List Remark) → RemarkTokens rs → AllTokens (map (λ (r : Remark). r.0) rs)
  own_tokens [] a = tt
  own_tokens (r ∷ rs) a = (a.0, own_tokens rs a.1)

  -- Comments of keys.

  found_key : (p : CommentValue → Bool) (cs : List CommentValue) → AllTokens cs → AllTokens (option_to_list (find p cs))
  found_key p [] a = tt
  found_key p (c ∷ cs) a = by (p c) (found_key p cs a.1) where
    by : (b : Bool) → AllTokens (option_to_list (find p cs)) → AllTokens (option_to_list (if b then Some c else find p cs))
    by true more = (a.0, tt)
    by false more = more

  between_tokens : (cs : List CommentValue) (from : ℕ) (ls : List Span) → AllTokens cs → AllTokens (option_to_list (first_between cs from ls))
  between_tokens cs from [] a = tt
  between_tokens cs from (l ∷ ls) a = found_key (λ c. nat_lt from c.offset && nat_lt c.offset l.start) cs a

  key_tokens : (cs : List CommentValue) (k v : Node) → AllTokens cs → AllTokens (option_to_list (key_comment cs k v))
  key_tokens cs k v a = by (is_text v || is_filled_flow v) (between_tokens cs (key_start k) (leaves v) a) where
    by : (b : Bool) → AllTokens (option_to_list (first_between cs (key_start k) (leaves v))) → AllTokens (option_to_list (if b then first_between cs (key_start k) (leaves v) else None))
    by true more = more
    by false more = tt

  either_tokens : (b : Bool) (xs ys : List CommentValue) → AllTokens xs → AllTokens ys → AllTokens (if b then xs else ys)
  either_tokens true xs ys a d = a
  either_tokens false xs ys a d = d

  module _ (c : LayoutSetting) (all : AllTokens c.comments) where
    mutual
      keyed_tokens : (margins : Margins) (x : Node) → AllTokens (keyed_in c margins x)
      keyed_tokens margins (scalar at props style text lines) = tt
      keyed_tokens margins (alias at name) = tt
      keyed_tokens margins (sequence at true props xs) = tt
      keyed_tokens margins (sequence at false props xs) = keyed_items margins.entries xs
      keyed_tokens margins (mapping at true props ps) = tt
      keyed_tokens margins (mapping at false props ps) = keyed_pairs margins.entries ps

      keyed_items : (column : ℕ) (xs : Items) → AllTokens (keyed_in_items c column xs)
      keyed_items column no_items = tt
      keyed_items column (item x xs) = all_append (keyed_in c (inner_margins c.style column) x) (keyed_in_items c column xs) (keyed_tokens (inner_margins c.style column) x) (keyed_items column xs)

      keyed_pairs : (column : ℕ) (ps : Pairs) → AllTokens (keyed_in_pairs c column ps)
      keyed_pairs column no_pairs = tt
      keyed_pairs column (pair k v ps) =
          let key : List CommentValue = if is_implicit c.style column k then option_to_list (key_comment c.comments k v) else keyed_in c (key_margins c.style column k) k in
          all_append (key ++ keyed_in c (value_margins c column k v) v) (keyed_in_pairs c column ps)
          (all_append key (keyed_in c (value_margins c column k v) v)
          (either_tokens (is_implicit c.style column k) (option_to_list (key_comment c.comments k v)) (keyed_in c (key_margins c.style column k) k) (key_tokens c.comments k v all) (keyed_tokens (key_margins c.style column k) k))
          (keyed_tokens (value_margins c column k v) v))
          (keyed_pairs column ps)

    pub documents_tokens : (trees : List DocumentTree) → AllTokens (keyed_in_documents c trees)
    documents_tokens [] = tt
    documents_tokens (d ∷ ds) = all_append (keyed_in c (root_margins c.style) d.root) (keyed_in_documents c ds) (keyed_tokens (root_margins c.style) d.root) (documents_tokens ds)
