-- Laws of the content lines of block scalars.
use Rattle.std.proofs.Common.{◌≡◌, ℕ, ◌+◌, ◌-◌, ◌<◌, ◌≤◌, true, false, List, Some, length, drop, sym, subst, ap, ◌∙◌, ⊎_elim, arith, true≢false}
use Rattle.std.specs.Prelude.{slice_get}
use Rattle.std.proofs.lemmas.Bool.{cases_lt}
use Rattle.std.proofs.lemmas.Option.{same_Some, slice_get_within}
use Rattle.yf_forms.specs.Nodes.ContentStart.{content_start}
use Rattle.yf_events.specs.Event.{scalar_node}
use Rattle.yf_events.specs.declared.event.ScalarStyle.{ScalarStyle}
use Rattle.yf_events.specs.declared.event.Span.{Span}
use Rattle.yf_events.specs.declared.lists.Lists.{Lists}
use Rattle.yf_lines.specs.declared.line.Line.{Line}
use Rattle.yf_lines.specs.Lines.{LinesBegunAt, Table}
use Rattle.yf_props.specs.Props.{PropsValue}
use Rattle.yf_rule_sets.specs.RuleSets.Scalars.{IsScalar, BlockContent, InBlock, ContentLine, head_count, is_block_style}
use Rattle.yf_rule_sets.specs.RuleSets.Scalars.ContentLine.{of_block}
use Rattle.yf_rule_sets.proofs.Texts.BegunLemmas.{begun_same}

-- the text of a block scalar and the line after its header determine its content
pub content_same : (ls : List Line) (text : List ℕ) (follows f n g m : ℕ) → BlockContent ls text follows f n → BlockContent ls text follows g m → (f ≡ g) × (n ≡ m)
content_same ls text follows f n g m a b =
    let same : f ≡ g = a.empty ∙ sym b.empty in
    let line : a.line ≡ b.line = same_Some _ _ (sym (subst (λ k. slice_get ls k ≡ Some a.line) same a.at) ∙ b.at) in
    (same, a.spaces ∙ ap (λ (l : Line). l.indent - head_count 32 (drop (head_count 10 text) text)) line ∙ sym b.spaces)

-- two numbers of lines begun at one offset are equal, if a line follows the second
pub same_after : (ls : List Line) (offset j k m : ℕ) (l : Line) → LinesBegunAt ls offset j → LinesBegunAt ls offset k → slice_get ls m ≡ Some l → k ≤ m → j ≡ k
same_after ls offset j k m l a b e h =
    ⊎_elim (λ (x : j < k). absurd (begun_same ls offset j k l m a b e (omega (arith, x, h)) x))
    (λ (x : k ≤ j). ⊎_elim (λ (y : k < j). absurd (begun_same ls offset k j l m b a e h y)) (λ (y : j ≤ k). omega (arith, x, y)) (cases_lt k j))
    (cases_lt j k)

-- the event at an index is unique
pub record Same (p q : PropsValue) (v w : ScalarStyle) (x y : List ℕ) (s z : Span) : Type 0 where
  pub props : p ≡ q
  pub style : v ≡ w
  pub text : x ≡ y
  pub span : s ≡ z

props_same : {p q : PropsValue} {v w : ScalarStyle} {x y : List ℕ} → scalar_node p v x ≡ scalar_node q w y → p ≡ q
props_same e = cc

pub style_same : {p q : PropsValue} {v w : ScalarStyle} {x y : List ℕ} → scalar_node p v x ≡ scalar_node q w y → v ≡ w
style_same e = cc

pub text_same : {p q : PropsValue} {v w : ScalarStyle} {x y : List ℕ} → scalar_node p v x ≡ scalar_node q w y → x ≡ y
text_same e = cc

pub scalar_same : {r : Lists} {i : ℕ} {p q : PropsValue} {v w : ScalarStyle} {x y : List ℕ} {s z : Span} → IsScalar r i p v x s → IsScalar r i q w y z → Same p q v w x y s z
scalar_same a b =
    let e = same_Some _ _ (sym a.event ∙ b.event) in
    record { props = props_same e; style = style_same e; text = text_same e; span = same_Some _ _ (same_Some _ _ (sym a.part ∙ b.part)) }

module _ (src : Table) (r : Lists) (i : ℕ) (props : PropsValue) (style : ScalarStyle) (text : List ℕ) (s : Span) (is : IsScalar r i props style text s) where
  pub no_block_line : is_block_style style ≡ false → (k : ℕ) → ContentLine src r k i → ⊥
  no_block_line e k (of_block b f n h y g c l) = true≢false (sym y ∙ ap is_block_style (scalar_same h is).style ∙ e)

  module _ (follows : ℕ) (begun : LinesBegunAt src.lines (content_start src.text s props) follows) where
    -- a content line from any other derivation is in the content found here
    told : {k : ℕ} → ContentLine src r k i → (first : ℕ) × (indent : ℕ) × BlockContent src.lines text follows first indent × InBlock src.lines first indent s.end k
    told {k} (of_block {props = p} {style = v} {text = x} {s = z} b f n h y g c l) =
        let q = scalar_same h is in
        let g' : LinesBegunAt src.lines (content_start src.text s props) b =
        subst (λ w. LinesBegunAt src.lines (content_start src.text w props) b) q.span (subst (λ w. LinesBegunAt src.lines (content_start src.text z w) b) q.props g) in
        let c' : BlockContent src.lines text b f n = subst (λ w. BlockContent src.lines w b f n) q.text c in
        let same : follows ≡ b = same_after src.lines (content_start src.text s props) follows b f c'.line begun g' c'.at (let e = c'.empty in omega (arith, e)) in
        (f, n, subst (λ w. BlockContent src.lines text w f n) (sym same) c', subst (λ (w : Span). InBlock src.lines f n w.end k) q.span l)

    pub no_content : ((first indent : ℕ) → BlockContent src.lines text follows first indent → ⊥) → (k : ℕ) → ContentLine src r k i → ⊥
    no_content f k h = let w = told h in f w.0 w.1 w.2

    pub block_content : (first indent : ℕ) → is_block_style style ≡ true → BlockContent src.lines text follows first indent
        → (k : ℕ) → (ContentLine src r k i → InBlock src.lines first indent s.end k) × (InBlock src.lines first indent s.end k → ContentLine src r k i)
    block_content first indent y c k = (
      λ h. let w = told h in
          let e = content_same src.lines text follows w.0 w.1 first indent w.2 c in
          subst (λ m. InBlock src.lines first m s.end k) e.1 (subst (λ m. InBlock src.lines m w.1 s.end k) e.0 w.3),
      λ l. of_block follows first indent is y begun c l,
    )

-- no line is left after the empty ones, or the text has only line feeds
pub past_lines : (ls : List Line) (text bs : List ℕ) (follows feeds n : ℕ) → bs ≡ text → feeds ≡ head_count 10 bs → n ≡ length ls → n - follows ≤ feeds → follows ≤ length ls
    → (f m : ℕ) → BlockContent ls text follows f m → ⊥
past_lines ls text bs follows feeds n e q z h w f m c =
    let k = slice_get_within ls f c.line c.at in omega (arith, c.empty, k, q, ap (head_count 10) e, z, h, w)

pub content_found : (ls : List Line) (text bs : List ℕ) (follows feeds spaces : ℕ) (l : Line) → bs ≡ text → feeds ≡ head_count 10 bs → feeds < length bs
    → slice_get ls (follows + feeds) ≡ Some l → spaces ≡ head_count 32 (drop feeds bs) → BlockContent ls text follows (follows + feeds) (l.indent - spaces)
content_found ls text bs follows feeds spaces l e q h f p = subst (λ x. BlockContent ls x follows (follows + feeds) (l.indent - spaces)) e (record {
  some = omega (arith, q, h);
  empty = ap (λ m. follows + m) q;
  line = l;
  at = f;
  spaces = ap (λ m. l.indent - m) (p ∙ ap (λ m. head_count 32 (drop m bs)) q);
})

pub begun_there : (src : Table) (t : List ℕ) (s : Span) (props : PropsValue) (header follows : ℕ) → t ≡ src.text → header ≡ content_start t s props
    → LinesBegunAt src.lines header follows → LinesBegunAt src.lines (content_start src.text s props) follows
begun_there src t s props header follows e q b =
    subst (λ w. LinesBegunAt src.lines (content_start w s props) follows) e (subst (λ h. LinesBegunAt src.lines h follows) q b)
