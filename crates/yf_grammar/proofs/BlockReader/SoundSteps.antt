-- Separations, properties and collections that the reader of block nodes took are derived by the grammar.
use Rattle.std.proofs.Common.{◌≡◌, ℕ, suc, ◌+◌, ◌<◌, ◌≤◌, ℤ, pos, ◌+ℤ◌, ◌≤ℤ◌, Bool, true, false, ⊎_elim, List, [], ◌++◌, Option, Some, None, length, refl, sym, ap, ◌∙◌, subst, arith, append-nil}
use Rattle.std.proofs.lemmas.Int.{ints}
use Rattle.std.proofs.lemmas.Option.{same_Some}
use Rattle.yf_chars.specs.declared.context.Ctx.{Ctx}
use Rattle.yf_chars.specs.declared.context.Ctx.TheVariants.{FlowKey}
use Rattle.yf_chars.specs.Class.{is_white}
use Rattle.yf_chars.specs.Chain.{Many}
use Rattle.yf_chars.specs.Chain.Chain.{done}
use Rattle.yf_chars.proofs.ChainLemmas.{chain_forward}
use Rattle.yf_lines.specs.Basic.{is_block, is_key, LineStart, Spaces, SeparateInLine}
use Rattle.yf_lines.specs.Basic.SeparateInLine.{by_whites}
use Rattle.yf_comments.specs.Comment.{CommentValue}
use Rattle.yf_comments.specs.Comments.{LineEnd, Separate}
use Rattle.yf_comments.specs.Comments.LineEnd.{past_rest, from_start}
use Rattle.yf_comments.specs.Comments.Separate.{in_node}
use Rattle.yf_comments.specs.Comments.SeparateLines.{in_line, over_lines}
use Rattle.yf_comments.proofs.RowLemmas.{row_functional, separate_from}
use Rattle.yf_comments.proofs.LineEndLemmas.{rest_next, lines_rows}
use Rattle.yf_comments.proofs.SeparateLemmas.{prefix_from, fewer_spaces}
use Rattle.yf_props.specs.Props.{TagValue}
use Rattle.yf_props.specs.Names.{Properties, PropertiesValue, tag_only, anchor_only, tag_with_anchor}
use Rattle.yf_props.specs.Names.Properties.{by_tag, by_anchor, tag_first, anchor_first}
use Rattle.yf_grammar.specs.Productions.Meaning.{Meaning, meaning_after, with_props, collection}
use Rattle.yf_grammar.specs.Productions.Grammar.{BlockNode, BlockIndented, BlockEntries, Derives, least_column}
use Rattle.yf_grammar.specs.Productions.Grammar.Derives.{a_block_collection, a_block_collection_with, a_compact_collection}
use Rattle.yf_grammar.specs.FlowReader.Parser.{ParsedNode, found}
use Rattle.yf_grammar.specs.BlockReader.BlockParser.{text_ends, LineText, Columns, Compact, compact_columns, no_columns, ColumnIf, column_there, column_not, LineColumns, Begins, line_indented, line_first, line_dashed, NoSign, PropertiesHeld, Props, with_comments, both, one_of, Clash, anchors_clash, tags_clash}
use Rattle.yf_grammar.proofs.Ends.NodeExits.{some_found}
use Rattle.yf_grammar.proofs.FlowReader.ParserLemmas.{moved}
use Rattle.yf_grammar.proofs.BlockOutcomes.BlockClaims.{line_whites}
use Rattle.yf_grammar.proofs.BlockOutcomes.BlockGaps.{ended_here, rows_order}
use Rattle.yf_grammar.proofs.BlockOutcomes.BlockInline.{AtColumn, sequence_column, mapping_column}
use Rattle.yf_grammar.proofs.BlockOutcomes.BlockNodes.{column_some}
use Rattle.yf_grammar.proofs.BlockContent.PropertiedNodes.{any_context}
use Rattle.yf_grammar.proofs.BlockContent.PropertiesLines.{held}

-- n + 1, the indentation of a node's content, as a natural number; there is none if n is less than -1
pub record Width (n : ℤ) : Type 0 where
  pub width : ℕ
  pub is : n +ℤ pos 1 ≡ pos width

-- the parts of an outcome
pub record Parts (f : ParsedNode) (j h : ℕ) (x : Meaning) : Type 0 where
  pub end : f.end ≡ j
  pub height : f.height ≡ h
  pub meaning : f.meaning ≡ x

pub parts_of : {o : Option ParsedNode} {f : ParsedNode} (j h : ℕ) (b : Bool) (x : Meaning) → o ≡ found j h b x → o ≡ Some f → Parts f j h x
parts_of j h b x e q =
    let s = some_found j h b x (sym q ∙ e) in
    record { end = ap (λ w. w.end) s; height = ap (λ w. w.height) s; meaning = ap (λ w. w.meaning) s }

-- the reader's way to the first character of a node that is awaited from i on
pub data Sits (t : List ℕ) (b : Bool) (n : ℤ) (c : Ctx) (i p : ℕ) (cols : Columns) : List CommentValue → Type 0 where
  sits_on_line : {w : List ℕ} → Many t is_white i p w → i < p → Compact t b n i p cols → Sits t b n c i p cols []
  sits_below : {k m : ℕ} {cs : List CommentValue} → LineEnd t i k cs → LineText t k m p → Begins t n c i k m p → LineColumns n c k m p cols → Sits t b n c i p cols cs

column_is : {k m p l : ℕ} {least : ℤ} {o : Option ℕ} → ColumnIf k m p least o → o ≡ Some l → (m ≡ l) × (p ≡ k + m) × (least ≤ℤ pos m)
column_is {m = m} {l = l} (column_there e y) q = (one q, e, y) where
  one : Some m ≡ Some l → m ≡ l
  one e = cc
column_is (column_not n) q = absurd (differ q) where
  differ : {l : ℕ} → None ≡ Some l → ⊥
  differ e = cc

module _ {t : List ℕ} where
  -- at the first line that is read, its white space is the separation
  first_line : {i k m p : ℕ} {x : List CommentValue} → LineEnd t i k x → LineText t k m p → k ≡ i → (x ≡ []) × SeparateInLine t i p
  first_line {i} {k} {m} {p} d w e =
      let w' : LineText t i m p = subst (λ v. LineText t v m p) e w in
      ((ended_here d w').1, separate_from (line_whites w').1 (starts d w e))
    where
      starts : {i k m p : ℕ} {x : List CommentValue} → LineEnd t i k x → LineText t k m p → k ≡ i → LineStart t i
      starts {i} {k} (past_rest {h = g} r c) w e =
          let a : i ≤ g = rows_order (past_rest r done) in
          let b : g ≤ k = chain_forward row_functional (lines_rows c) in
          let q : g ≡ i = omega arith in
          ⊎_elim (λ (s : LineStart t g). subst (λ v. LineStart t v) q s) (λ (z : g ≡ length t). absurd (w.goes_on (text_ends (omega arith)))) (rest_next r)
      starts (from_start s c) w e = s

  begun : {n : ℤ} {c : Ctx} {i k m p : ℕ} {cols : Columns} {cs : List CommentValue} (d : Ctx) → is_key d ≡ false → Width n → NoSign t cols p → LineEnd t i k cs → LineText t k m p
      → LineColumns n c k m p cols → Begins t n c i k m p → Separate t (n +ℤ pos 1) d i p cs
  begun {n} {k = k} {m = m} {p = p} d key wide s e w l (line_indented y) =
      let q = wide.width in
      let z = wide.is in
      let z' : pos q ≤ℤ pos m = subst (λ v. v ≤ℤ pos m) z y in
      in_node key (over_lines e (prefix_from q z (fewer_spaces q (omega (arith, ints)) w.spaces) (line_whites w).1 w.content.no_white))
  begun {n} {i = i} {p = p} {cs = cs} d key wide s e w l (line_first y) =
      let f = first_line e w y in subst (λ v. Separate t (n +ℤ pos 1) d i p v) (sym f.0) (in_node key (in_line f.1))
  begun d key wide s e w l (line_dashed y q z) = absurd (s.no_dash (column_some l.sequence q z) y)

  -- content that is no collection is separated
  pub sits_apart : {b : Bool} {n : ℤ} {c : Ctx} {i p : ℕ} {cols : Columns} {cs : List CommentValue} (d : Ctx) → is_key d ≡ false → Width n → NoSign t cols p → Sits t b n c i p cols cs
      → Separate t (n +ℤ pos 1) d i p cs
  sits_apart d key wide s (sits_on_line m l y) = in_node key (in_line (by_whites m l))
  sits_apart d key wide s (sits_below e w y l) = begun d key wide s e w l y

  -- properties in another context
  pub any_properties : {n : ℤ} {f g : ℕ} {p : PropertiesValue} (c d : Ctx) → is_key c ≡ false → is_key d ≡ false → Properties t n c f g p → Properties t n d f g p
  any_properties c d a b (by_tag v) = by_tag v
  any_properties c d a b (by_anchor v) = by_anchor v
  any_properties c d a b (tag_first v s w) = tag_first v (any_context c d a b s) w
  any_properties c d a b (anchor_first v s w) = anchor_first v (any_context c d a b s) w

-- properties, and those after them, joined
pub record Joined (t : List ℕ) (n : ℤ) (c : Ctx) (f g k : ℕ) (p q : PropertiesValue) (ds : List CommentValue) : Type 0 where
  pub value : PropertiesValue
  pub derived : Properties t n c f k value
  pub same : both (with_comments (held p f g) ds) q k ≡ Props (held value f k)

join_tag : (f h : ℕ) (tag : TagValue) (name : List ℕ) (ds : List CommentValue) (g k : ℕ)
    → both (with_comments (held (tag_only f tag) f g) ds) (anchor_only name) k ≡ Props (held (tag_with_anchor f tag name ds) f k)
unfolding both with_comments one_of
join_tag f h tag name ds g k = ap (λ w. Props (held (tag_with_anchor f tag name w) f k)) (append-nil ds)

join_anchor : (f h : ℕ) (tag : TagValue) (name : List ℕ) (ds : List CommentValue) (g k : ℕ)
    → both (with_comments (held (anchor_only name) f g) ds) (tag_only h tag) k ≡ Props (held (tag_with_anchor h tag name ds) f k)
unfolding both with_comments one_of
join_anchor f h tag name ds g k = ap (λ w. Props (held (tag_with_anchor h tag name w) f k)) (append-nil ds)

-- two anchors or two tags
clash_tags : (v : PropertiesHeld) (q : PropertiesValue) (x y : TagValue) (ds : List CommentValue) → v.value.props.tag ≡ Some x → q.props.tag ≡ Some y → Clash (with_comments v ds) q
unfolding with_comments
clash_tags v q x y ds e f = tags_clash e f

clash_anchors : (v : PropertiesHeld) (q : PropertiesValue) (x y : List ℕ) (ds : List CommentValue) → v.value.props.anchor ≡ Some x → q.props.anchor ≡ Some y → Clash (with_comments v ds) q
unfolding with_comments
clash_anchors v q x y ds e f = anchors_clash e f

module _ {t : List ℕ} {n : ℤ} {c : Ctx} where
  pub join_props : {f g h k : ℕ} {p q : PropertiesValue} {ds : List CommentValue} → Properties t n c f g p → Separate t n c g h ds → Properties t (pos 0) FlowKey h k q
      → (Clash (with_comments (held p f g) ds) q → ⊥) → Joined t n c f g k p q ds
  join_props {f} {g} {p = p} {q = q} {ds = ds} (by_tag {tag = x} v) s (by_tag {tag = y} w) a = absurd (a (clash_tags (held p f g) q x y ds refl refl))
  join_props {f} {g} {h} {k} {ds = ds} (by_tag {tag = tag} v) s (by_anchor {name = name} w) a =
      record { value = tag_with_anchor f tag name ds; derived = tag_first v s w; same = join_tag f h tag name ds g k }
  join_props {f} {g} {p = p} {q = q} {ds = ds} (by_tag {tag = x} v) s (tag_first {tag = y} w s' z) a = absurd (a (clash_tags (held p f g) q x y ds refl refl))
  join_props {f} {g} {p = p} {q = q} {ds = ds} (by_tag {tag = x} v) s (anchor_first {tag = y} w s' z) a = absurd (a (clash_tags (held p f g) q x y ds refl refl))
  join_props {f} {g} {h} {k} {ds = ds} (by_anchor {name = name} v) s (by_tag {tag = tag} w) a =
      record { value = tag_with_anchor h tag name ds; derived = anchor_first v s w; same = join_anchor f h tag name ds g k }
  join_props {f} {g} {p = p} {q = q} {ds = ds} (by_anchor {name = x} v) s (by_anchor {name = y} w) a = absurd (a (clash_anchors (held p f g) q x y ds refl refl))
  join_props {f} {g} {p = p} {q = q} {ds = ds} (by_anchor {name = x} v) s (tag_first {name = y} w s' z) a = absurd (a (clash_anchors (held p f g) q x y ds refl refl))
  join_props {f} {g} {p = p} {q = q} {ds = ds} (by_anchor {name = x} v) s (anchor_first {name = y} w s' z) a = absurd (a (clash_anchors (held p f g) q x y ds refl refl))
  join_props {f} {g} {p = p} {q = q} {ds = ds} (tag_first {tag = x} v r z) s (by_tag {tag = y} w) a = absurd (a (clash_tags (held p f g) q x y ds refl refl))
  join_props {f} {g} {p = p} {q = q} {ds = ds} (tag_first {name = x} v r z) s (by_anchor {name = y} w) a = absurd (a (clash_anchors (held p f g) q x y ds refl refl))
  join_props {f} {g} {p = p} {q = q} {ds = ds} (tag_first {tag = x} v r z) s (tag_first {tag = y} w s' u) a = absurd (a (clash_tags (held p f g) q x y ds refl refl))
  join_props {f} {g} {p = p} {q = q} {ds = ds} (tag_first {tag = x} v r z) s (anchor_first {tag = y} w s' u) a = absurd (a (clash_tags (held p f g) q x y ds refl refl))
  join_props {f} {g} {p = p} {q = q} {ds = ds} (anchor_first {tag = x} v r z) s (by_tag {tag = y} w) a = absurd (a (clash_tags (held p f g) q x y ds refl refl))
  join_props {f} {g} {p = p} {q = q} {ds = ds} (anchor_first {name = x} v r z) s (by_anchor {name = y} w) a = absurd (a (clash_anchors (held p f g) q x y ds refl refl))
  join_props {f} {g} {p = p} {q = q} {ds = ds} (anchor_first {tag = x} v r z) s (tag_first {tag = y} w s' u) a = absurd (a (clash_tags (held p f g) q x y ds refl refl))
  join_props {f} {g} {p = p} {q = q} {ds = ds} (anchor_first {tag = x} v r z) s (anchor_first {tag = y} w s' u) a = absurd (a (clash_tags (held p f g) q x y ds refl refl))

-- the node or the compact collection there
pub data InlineAhead (t : List ℕ) (b : Bool) (n : ℤ) (c : Ctx) (i h j : ℕ) (cs : List CommentValue) (y : Meaning) : Type 0 where
  is_at_as_node : Derives t h (BlockNode n c) i j (meaning_after cs y) → InlineAhead t b n c i h j cs y
  is_at_compact : {m : ℕ} → n ≡ pos m → b ≡ true → cs ≡ [] → Derives t h (BlockIndented m c) i j y → InlineAhead t b n c i h j cs y

column_of_compact : {l k : ℕ} {s : Bool} → AtColumn (record { sequence = Some l; mapping = Some l }) k s → l ≡ k
column_of_compact (sequence_column e) = same_Some _ _ e
column_of_compact (mapping_column e) = same_Some _ _ e

no_such_column : {k : ℕ} {s : Bool} → AtColumn (record { sequence = None; mapping = None }) k s → ⊥
no_such_column (sequence_column e) = cc
no_such_column (mapping_column e) = cc

column_at : {n : ℤ} {c : Ctx} {k m p l : ℕ} {cols : Columns} {s : Bool} → AtColumn cols l s → LineColumns n c k m p cols → (m ≡ l) × (p ≡ k + m) × (least_column s n c ≤ℤ pos m)
column_at (sequence_column e) w = column_is w.sequence e
column_at (mapping_column e) w = column_is w.mapping e

module _ {t : List ℕ} where
  compact_is_at : {h m l k j i : ℕ} {s : Bool} {c : Ctx} {x : Meaning} → is_block c ≡ true → Spaces t i l → m + 1 + l ≡ k → Derives t h (BlockEntries s k) (i + l) j x
      → Derives t (suc h) (BlockIndented m c) i j (collection s false (i + l) x.finish x)
  compact_is_at {h} {m} {l} {k} {j} {i} {s} {c} {x} b z e d = a_compact_collection b z (subst (λ w. Derives t h (BlockEntries s w) (i + l) j x) (sym e) d)

  on_line_is_at : {b : Bool} {n : ℤ} {c : Ctx} {i p h m j : ℕ} {s : Bool} {cols : Columns} {x : Meaning} → is_block c ≡ true → AtColumn cols m s → Derives t h (BlockEntries s m) p j x
      → Compact t b n i p cols → InlineAhead t b n c i (suc h) j [] (collection s false p x.finish x)
  on_line_is_at b a d (compact_columns z) = is_at_compact refl refl refl (compact_is_at b z (column_of_compact a) d)
  on_line_is_at b a d (no_columns z) = absurd (no_such_column a)

  only_compact : {n : ℤ} {i p m : ℕ} {s : Bool} {cols : Columns} → AtColumn cols m s → Compact t false n i p cols → ⊥
  only_compact a (no_columns z) = no_such_column a

  pub collection_is_at : {b : Bool} {n : ℤ} {c : Ctx} {i p h m j : ℕ} {s : Bool} {cols : Columns} {cs : List CommentValue} {x : Meaning} → is_block c ≡ true → AtColumn cols m s
      → Derives t h (BlockEntries s m) p j x → Sits t b n c i p cols cs → InlineAhead t b n c i (suc h) j cs (collection s false p x.finish x)
  collection_is_at b a d (sits_on_line w l y) = on_line_is_at b a d y
  collection_is_at {i = i} {p = p} {h = h} {j = j} {s = s} {cs = cs} {x = x} b a d (sits_below {k = k} {m = l} e w y v) =
      let q = column_at a v in
      let d1 : Derives t h (BlockEntries s l) p j x = subst (λ z. Derives t h (BlockEntries s z) p j x) (sym q.0) d in
      let d2 : Derives t h (BlockEntries s l) (k + l) j x = subst (λ z. Derives t h (BlockEntries s l) z j x) q.1 d1 in
      let r = a_block_collection b e w.spaces q.2 d2 in
      is_at_as_node (moved refl refl (ap (λ z. meaning_after cs (collection s false z x.finish x)) (sym q.1)) r)

  -- and with properties
  pub collection_with_is_at : {n : ℤ} {c : Ctx} {i f g p h m j : ℕ} {s : Bool} {cols : Columns} {q : PropertiesValue} {cs ds : List CommentValue} {x : Meaning} → is_block c ≡ true
      → Separate t (n +ℤ pos 1) c i f cs → Properties t (n +ℤ pos 1) c f g q → AtColumn cols m s → Derives t h (BlockEntries s m) p j x → Sits t false n c g p cols ds
      → Derives t (suc h) (BlockNode n c) i j (meaning_after (cs ++ q.comments ++ ds) (with_props q.props q.tag_offset f g (collection s false p x.finish x)))
  collection_with_is_at b z o a d (sits_on_line w l y) = absurd (only_compact a y)
  collection_with_is_at {f = f} {g = g} {p = p} {h = h} {j = j} {s = s} {q = v} {cs = cs} {ds = ds} {x = x} b z o a d (sits_below {k = k} {m = l} e w y u) =
      let q = column_at a u in
      let d1 : Derives t h (BlockEntries s l) p j x = subst (λ z. Derives t h (BlockEntries s z) p j x) (sym q.0) d in
      let d2 : Derives t h (BlockEntries s l) (k + l) j x = subst (λ z. Derives t h (BlockEntries s l) z j x) q.1 d1 in
      moved refl refl (ap (λ z. meaning_after (cs ++ v.comments ++ ds) (with_props v.props v.tag_offset f g (collection s false z x.finish x))) (sym q.1))
      (a_block_collection_with b z o e w.spaces q.2 d2)
