-- Properties of a block node: all on one line, or one on a line and the other on a later one. The reader takes all
-- properties of a line.
use Rattle.std.proofs.Common.{◌≡◌, ℕ, ℤ, pos, false, List, refl, sym, ap, ◌∙◌, append-nil, true≢false}
use Rattle.std.specs.Str.{IsUtf8}
use Rattle.yf_chars.specs.declared.context.Ctx.{Ctx}
use Rattle.yf_chars.specs.declared.context.Ctx.TheVariants.{FlowKey}
use Rattle.yf_chars.specs.Text.{code}
use Rattle.yf_chars.specs.Chain.{Chosen}
use Rattle.yf_lines.specs.Basic.{is_key, SeparateInLine, FlowPrefix}
use Rattle.yf_comments.specs.Comment.{CommentValue}
use Rattle.yf_comments.specs.Comments.{Separate, SeparateLines, LineEnd}
use Rattle.yf_comments.specs.Comments.Separate.{in_key, in_node}
use Rattle.yf_comments.specs.Comments.SeparateLines.{in_line, over_lines}
use Rattle.yf_comments.proofs.RowLemmas.{separate_whites}
use Rattle.yf_props.specs.Props.{TagValue}
use Rattle.yf_props.specs.Names.{TagProperty, Anchor, Properties, PropertiesValue, tag_only, anchor_only, tag_with_anchor}
use Rattle.yf_props.specs.Names.Properties.{by_tag, by_anchor, tag_first, anchor_first}
use Rattle.yf_grammar.specs.BlockReader.BlockParser.{PropertiesHeld, Props, with_comments, both, one_of, Clash, anchors_clash, tags_clash}
use Rattle.yf_grammar.specs.FlowReader.Parser.{begins_properties}
use Rattle.yf_grammar.proofs.Ends.GapLemmas.{Visible}
use Rattle.yf_grammar.proofs.BlockOutcomes.NodesAfter.{properties_after}
use Rattle.yf_grammar.proofs.BlockOutcomes.BlockFirst.{no_line_end_before, end_separates, key_in_line}
use Rattle.yf_grammar.proofs.FlowReader.PropertiesEnds.{properties_before, properties_before_line}

-- properties that are held until their node is known
abbrev pub held : PropertiesValue → ℕ → ℕ → PropertiesHeld
held p f g = record { value = p; start = f; end = g }

-- the properties of one line and those of a later one, joined
pub record Merges (q r p : PropertiesValue) (cs : List CommentValue) (f g h : ℕ) : Type 0 where
  pub same : both (with_comments (held q f g) cs) r h ≡ Props (held p f h)
  pub apart : Clash (with_comments (held q f g) cs) r → ⊥

-- the end of a line, or content, after properties
pub data AfterProperties (t : List ℕ) (g : ℕ) : Type 0 where
  line_ends_after : {l : ℕ} {ds : List CommentValue} → LineEnd t g l ds → AfterProperties t g
  content_after : {m : ℕ} → SeparateInLine t g m → Visible t m → begins_properties (code t m) ≡ false → AfterProperties t g

-- properties on one line, or over lines
pub data Spread (t : List ℕ) (n : ℤ) (f g : ℕ) (p : PropertiesValue) : Type 0 where
  on_one_line : Properties t (pos 0) FlowKey f g p → Spread t n f g p
  on_two_lines : {k l h : ℕ} {q r : PropertiesValue} {cs : List CommentValue} → Properties t (pos 0) FlowKey f k q → LineEnd t k l cs → FlowPrefix t n l h
      → Properties t (pos 0) FlowKey h g r → Merges q r p cs f k g → Spread t n f g p

tag_then_anchor : (i k : ℕ) (tag : TagValue) (name : List ℕ) (cs : List CommentValue) (g h : ℕ) → Merges (tag_only i tag) (anchor_only name) (tag_with_anchor i tag name cs) cs i g h
unfolding both with_comments one_of
tag_then_anchor i k tag name cs g h = record {
  same = ap (λ w. Props (held (tag_with_anchor i tag name w) i h)) (append-nil cs);
  apart = clash;
} where
  clash : Clash (with_comments (held (tag_only i tag) i g) cs) (anchor_only name) → ⊥
  clash (anchors_clash a b) = cc
  clash (tags_clash a b) = cc

anchor_then_tag : (i k : ℕ) (tag : TagValue) (name : List ℕ) (cs : List CommentValue) (g h : ℕ) → Merges (anchor_only name) (tag_only k tag) (tag_with_anchor k tag name cs) cs i g h
unfolding both with_comments one_of
anchor_then_tag i k tag name cs g h = record {
  same = ap (λ w. Props (held (tag_with_anchor k tag name w) i h)) (append-nil cs);
  apart = clash;
} where
  clash : Clash (with_comments (held (anchor_only name) i g) cs) (tag_only k tag) → ⊥
  clash (anchors_clash a b) = cc
  clash (tags_clash a b) = cc

module _ {t : List ℕ} where
  tag_lines : {n : ℤ} {i h k j : ℕ} {tag : TagValue} {x : List CommentValue} {name : List ℕ} → TagProperty t i h tag → SeparateLines t n h k x → Anchor t k j name
      → Spread t n i j (tag_with_anchor i tag name x)
  tag_lines d (in_line s) a = on_one_line (tag_first d (in_key refl s) a)
  tag_lines {i = i} {h = h} {k = k} {j = j} {tag = tag} {x = x} {name = name} d (over_lines e f) a = on_two_lines (by_tag d) e f (by_anchor a) (tag_then_anchor i k tag name x h j)

  anchor_lines : {n : ℤ} {i h k j : ℕ} {tag : TagValue} {x : List CommentValue} {name : List ℕ} → Anchor t i h name → SeparateLines t n h k x → TagProperty t k j tag
      → Spread t n i j (tag_with_anchor k tag name x)
  anchor_lines a (in_line s) d = on_one_line (anchor_first a (in_key refl s) d)
  anchor_lines {i = i} {h = h} {k = k} {j = j} {tag = tag} {x = x} {name = name} a (over_lines e f) d = on_two_lines (by_anchor a) e f (by_tag d) (anchor_then_tag i k tag name x h j)

  pub in_lines : {n : ℤ} (c : Ctx) {i j : ℕ} {x : List CommentValue} → is_key c ≡ false → Separate t n c i j x → SeparateLines t n i j x
  in_lines c e (in_key f s) = absurd (true≢false (sym f ∙ e))
  in_lines c e (in_node f s) = s

  pub spread : {n : ℤ} (c : Ctx) {f g : ℕ} {p : PropertiesValue} → is_key c ≡ false → Properties t n c f g p → Spread t n f g p
  spread c e (by_tag d) = on_one_line (by_tag d)
  spread c e (by_anchor a) = on_one_line (by_anchor a)
  spread c e (tag_first d s a) = tag_lines d (in_lines c e s) a
  spread c e (anchor_first a s d) = anchor_lines a (in_lines c e s) d

  -- the reader takes the properties of a line
  pub line_properties : {f g k : ℕ} {p q : PropertiesValue} → IsUtf8 t → Properties t (pos 0) FlowKey f g p → AfterProperties t g → Chosen (Properties t (pos 0) FlowKey f) k q
      → (k ≡ g) × (q ≡ p)
  line_properties u p (line_ends_after {l = l} {ds = ds} d) b =
      properties_before_line u p (end_separates u d) (λ h y s v. no_line_end_before u (properties_after u p) (separate_whites (key_in_line u s)).1 v d) b
  line_properties u p (content_after s v n) b = properties_before u p (in_key refl s) v n b
