-- There are only finitely many candidates for the offsets that a rule finds, so it is not so that no list has exactly
-- those that it finds.
use Rattle.std.proofs.Common.{◌≡◌, ◌≢◌, ℕ, zero, suc, Bool, ◌+◌, ◌-◌, ◌<◌, ◌≤◌, ◌⊎◌, List, [], ◌∷◌, ◌++◌, length, map, flat_map, Option, Some, None, sym, ap, subst, ⊎_elim, inl, inr, arith}
use Rattle.std.specs.List.{Contains}
use Rattle.std.specs.Prelude.{slice_get}
use Rattle.std.proofs.lemmas.Bool.{cases_eq, cases_lt}
use Rattle.std.proofs.lemmas.List.Elements.{Contains-append_left, Contains-append_right}
use Rattle.std.proofs.lemmas.Option.{same_Some}
use Rattle.yf_chars.specs.Text.{code, no_char}
use Rattle.yf_chars.proofs.Tests.{no_item}
use Rattle.yf_chars.proofs.TextLemmas.{code-past, within_from_code}
use Rattle.yf_comments.specs.Comment.{CommentValue}
use Rattle.yf_lines.specs.Basic.{Break}
use Rattle.yf_lines.specs.Basic.Break.{cr_lf, lone_cr, lone_lf}
use Rattle.yf_lines.specs.Lines.{Table}
use Rattle.yf_lines.specs.declared.line.Line.{Line}
use Rattle.yf_props.specs.Props.{PropsValue, no_props}
use Rattle.yf_events.specs.Event.{EventInText, EventValue, scalar_node, props_of as event_props}
use Rattle.yf_events.specs.Tree.{Node, scalar, alias, sequence, mapping, DocumentTree, TreesOf, flat, props_of, standing}
use Rattle.yf_events.specs.declared.document.Doc.{Doc}
use Rattle.yf_events.specs.declared.event.ScalarStyle.{ScalarStyle}
use Rattle.yf_events.specs.declared.event.Span.{Span}
use Rattle.yf_events.specs.declared.lists.Lists.{Lists}
use Rattle.yf_forms.specs.Nodes.ContentStart.{content_start}
use Rattle.yf_forms.specs.Nodes.SingleNodes.{NodeAt}
use Rattle.yf_forms.specs.declared.style.Style.{Style}
use Rattle.yf_rule_sets.specs.RuleSets.BlankLines.{MisplacedBlank}
use Rattle.yf_rule_sets.specs.RuleSets.BlankLines.MisplacedBlank.{misplaced}
use Rattle.yf_rule_sets.specs.RuleSets.ByLine.{BeyondLimit, TrailingBlank}
use Rattle.yf_rule_sets.specs.RuleSets.ByLine.BeyondLimit.{beyond}
use Rattle.yf_rule_sets.specs.RuleSets.ByLine.BlankEnd.{at_line_end}
use Rattle.yf_rule_sets.specs.RuleSets.ByLine.TrailingBlank.{trailing}
use Rattle.yf_rule_sets.specs.RuleSets.Documents.{IsUnmarked, NoMarkerLine}
use Rattle.yf_rule_sets.specs.RuleSets.Documents.IsUnmarked.{not_alone, without_marker}
use Rattle.yf_rule_sets.specs.RuleSets.Documents.NoMarkerLine.{of_document}
use Rattle.yf_rule_sets.specs.RuleSets.Exact.{Exactly}
use Rattle.yf_rule_sets.specs.RuleSets.HiddenCharacters.{HiddenCharacter}
use Rattle.yf_rule_sets.specs.RuleSets.HiddenCharacters.HiddenCharacter.{in_no_quotes}
use Rattle.yf_rule_sets.specs.RuleSets.Indents.{EntriesAt, IndentFault}
use Rattle.yf_rule_sets.specs.RuleSets.Indents.EntriesAt.{at_first}
use Rattle.yf_rule_sets.specs.RuleSets.Indents.IndentFault.{content, entries}
use Rattle.yf_rule_sets.specs.RuleSets.Layouts.{LayoutFault, NeedlessMark}
use Rattle.yf_rule_sets.specs.RuleSets.Layouts.LayoutFault.{displaced}
use Rattle.yf_rule_sets.specs.RuleSets.Nodes.{RepeatedKey, entry_place, key_place, place_or}
use Rattle.yf_rule_sets.specs.RuleSets.Nodes.IsChildOf.{as_key}
use Rattle.yf_rule_sets.specs.RuleSets.Nodes.IsNodeOf.{is_inner}
use Rattle.yf_rule_sets.specs.RuleSets.Nodes.RepeatedKey.{repeats}
use Rattle.yf_rule_sets.specs.RuleSets.QuestionMarks.{IsMarked}
use Rattle.yf_rule_sets.specs.RuleSets.QuestionMarks.IsMarked.{marked}
use Rattle.yf_rule_sets.specs.RuleSets.Scalars.{LooseMark}
use Rattle.yf_rule_sets.specs.RuleSets.Scalars.LooseMark.{in_no_scalar}
use Rattle.yf_rule_sets.specs.RuleSets.Styles.{QuotingFault}
use Rattle.yf_rule_sets.specs.RuleSets.Styles.QuotingFault.{other_style}
use Rattle.yf_rule_sets.specs.RuleSets.Whites.{CloseComment}
use Rattle.yf_rule_sets.specs.RuleSets.Whites.CloseComment.{of_comment}
use Rattle.yf_rule_sets.specs.Sets.{WithoutFinalBreak}
use Rattle.yf_rule_sets.specs.Sets.WithoutFinalBreak.{has_break, no_break, of_empty_text}
use Rattle.yf_rule_sets.proofs.RuleSets.KeySetLemmas.{head_or_later, is_head, is_later, nothing_in}
use Rattle.yf_rule_sets.proofs.Texts.NodePlaceLemmas.{node_there}

-- ---- Lists of candidates

-- each x with P is one of these
pub record Among (P : ℕ → ℕ → Type 0) : Type 0 where
  pub these : List ℕ
  pub each : (k x : ℕ) → P k x → Contains these x

-- an element of a list of numbers with the first element c
by_cases : {Q : Type 0} (c x : ℕ) (cs : List ℕ) → Contains (c ∷ cs) x → (c ≡ x → Q) → (Contains cs x → Q) → Q
by_cases c x cs m first later = ⊎_elim first later (head_or_later c cs x m)

-- a list xs of candidates cs has exactly those that have P
record Picked (P : ℕ → ℕ → Type 0) (cs xs : List ℕ) : Type 0 where
  only : (x : ℕ) → Contains xs x → (k : ℕ) × P k x
  all : (k x : ℕ) → Contains cs x → P k x → Contains xs x

picked_more : {P : ℕ → ℕ → Type 0} {cs xs : List ℕ} (c k : ℕ) → P k c → Picked P cs xs → Picked P (c ∷ cs) (c ∷ xs)
picked_more {P} {cs} {xs} c k p q = record {
  only = λ x m. by_cases c x xs m (λ e. (k, subst (λ z. P k z) e p)) (λ w. q.only x w);
  all = λ n x m r.
      by_cases c x cs m (λ e. subst (λ z. Contains (c ∷ xs) z) e (is_head c xs)) (λ w. is_later c xs x (q.all n x w r));
}

picked_same : {P : ℕ → ℕ → Type 0} {cs xs : List ℕ} (c : ℕ) → ((k : ℕ) → P k c → ⊥) → Picked P cs xs
    → Picked P (c ∷ cs) xs
picked_same {P} {cs} {xs} c out q = record {
  only = q.only;
  all = λ n x m r. by_cases c x cs m (λ e. absurd (out n (subst (λ z. P n z) (sym e) r))) (λ w. q.all n x w r);
}

-- it is not so that there is none
some_list : (P : ℕ → ℕ → Type 0) (cs : List ℕ) → ((xs : List ℕ) → Picked P cs xs → ⊥) → ⊥
some_list P [] none = none [] (record { only = λ x c. absurd (nothing_in x c); all = λ k x c p. c })
some_list P (c ∷ cs) none =
    some_list P cs (λ xs q. none xs (picked_same c (λ k p. none (c ∷ xs) (picked_more c k p q)) q))

pub not_without : (P : ℕ → ℕ → Type 0) → Among P → ((offsets : List ℕ) → Exactly P offsets → ⊥) → ⊥
not_without P a none =
    some_list P a.these (λ xs q. none xs (record { only = q.only; all = λ k x p. q.all k x (a.each k x p) p }))

-- if all such lists are empty, nothing has P
pub all_out : (P : ℕ → ℕ → Type 0) → Among P → ((offsets : List ℕ) → Exactly P offsets → offsets ≡ []) → Exactly P []
all_out P a law =
    let out : (k x : ℕ) → P k x → ⊥ =
    λ k x p. not_without P a (λ xs e. nothing_in x (subst (λ z. Contains z x) (law xs e) (e.all k x p))) in
    record { only = λ x c. absurd (nothing_in x c); all = λ k x p. absurd (out k x p) }

-- ---- Candidates

abbrev below : ℕ → List ℕ
below zero = []
below (suc n) = n ∷ below n

is_below : (n x : ℕ) → x < n → Contains (below n) x
is_below zero x l = absurd (omega arith)
is_below (suc n) x l =
    ⊎_elim (λ (h : x < n). is_later n (below n) x (is_below n x h))
    (λ (h : n ≤ x). let e : n ≡ x = omega arith in subst (λ z. Contains (n ∷ below n) z) e (is_head n (below n)))
    (cases_lt x n)

gathered : {A : Type 0} (f : A → List ℕ) (xs : List A) (k : ℕ) (a : A) (x : ℕ) → slice_get xs k ≡ Some a
    → Contains (f a) x → Contains (flat_map f xs) x
gathered f [] k a x e c = absurd (no_item k a e)
gathered f (b ∷ xs) zero a x e c =
    Contains-append_left (f b) (flat_map f xs) x (subst (λ z. Contains (f z) x) (sym (same_Some _ _ e)) c)
gathered f (b ∷ xs) (suc k) a x e c = Contains-append_right (f b) (flat_map f xs) x (gathered f xs k a x e c)

-- the start of the content of the node that an event begins, and the place of a key
abbrev starts_in : List ℕ → Option Span → PropsValue → List ℕ
starts_in t None props = []
starts_in t (Some s) props = content_start t s props ∷ []

abbrev content_at : List ℕ → EventInText → List ℕ
content_at t e = starts_in t e.span (event_props e.event)

abbrev contents : List ℕ → List EventInText → List ℕ
contents t es = flat_map (content_at t) es

abbrev key_at : EventInText → List ℕ
key_at e = place_or e.span (entry_place e.entry) ∷ []

there : (f : EventInText → List ℕ) (before rest : List EventInText) (e : EventInText) (x : ℕ) → Contains (f e) x
    → Contains (flat_map f (before ++ (e ∷ rest))) x
there f [] rest e x c = Contains-append_left (f e) (flat_map f rest) x c
there f (b ∷ before) rest e x c =
    Contains-append_right (f b) (flat_map f (before ++ (e ∷ rest))) x (there f before rest e x c)

starts_here : (t : List ℕ) (s : Span) (span : Option Span) (props : PropsValue) → span ≡ Some s
    → Contains (starts_in t span props) (content_start t s props)
starts_here t s span props e =
    subst (λ z. Contains (starts_in t z props) (content_start t s props)) (sym e) (is_head (content_start t s props) [])

node_content : (t : List ℕ) (x : Node) (s : Span) (before after : List EventInText) → (standing x).span ≡ Some s
    → Contains (contents t (before ++ (flat x ++ after))) (content_start t s (props_of x))
node_content t (scalar at props style text lines) s before after e =
    there (content_at t) before after _ _ (starts_here t s at.span props e)
node_content t (alias at name) s before after e =
    there (content_at t) before after _ _ (starts_here t s at.span no_props e)
node_content t (sequence at flow props items) s before after e =
    there (content_at t) before _ _ _ (starts_here t s at.span props e)
node_content t (mapping at flow props pairs) s before after e =
    there (content_at t) before _ _ _ (starts_here t s at.span props e)

node_among : (t : List ℕ) (es : List EventInText) (i : ℕ) (x : Node) (s : Span) → NodeAt es i x
    → (standing x).span ≡ Some s → Contains (contents t es) (content_start t s (props_of x))
node_among t es i x s a e =
    subst (λ z. Contains (contents t z) (content_start t s (props_of x))) (sym a.is)
    (node_content t x s a.before a.after e)

node_key : (x : Node) (before after : List EventInText)
    → Contains (flat_map key_at (before ++ (flat x ++ after))) (key_place x)
node_key (scalar at props style text lines) before after = there key_at before after _ _ (is_head _ [])
node_key (alias at name) before after = there key_at before after _ _ (is_head _ [])
node_key (sequence at flow props items) before after = there key_at before _ _ _ (is_head _ [])
node_key (mapping at flow props pairs) before after = there key_at before _ _ _ (is_head _ [])

key_among : (es : List EventInText) (i : ℕ) (x : Node) → NodeAt es i x → Contains (flat_map key_at es) (key_place x)
key_among es i x a = subst (λ z. Contains (flat_map key_at z) (key_place x)) (sym a.is) (node_key x a.before a.after)

scalar_among : (t : List ℕ) (es : List EventInText) (i : ℕ) (props : PropsValue) (style : ScalarStyle) (text : List ℕ)
    (s : Span) → slice_get (map (λ (e : EventInText). e.event) es) i ≡ Some (scalar_node props style text)
    → slice_get (map (λ (e : EventInText). e.span) es) i ≡ Some (Some s)
    → Contains (contents t es) (content_start t s props)
scalar_among t [] i props style text s a b = absurd (no_item i (scalar_node props style text) a)
scalar_among t (e ∷ es) zero props style text s a b =
    let x = content_start t s props in
    let is : e.event ≡ scalar_node props style text = same_Some _ _ a in
    let has : Contains (starts_in t e.span props) x = starts_here t s e.span props (same_Some _ _ b) in
    Contains-append_left (content_at t e) (contents t es) x
    (subst (λ (v : EventValue). Contains (starts_in t e.span (event_props v)) x) (sym is) has)
scalar_among t (e ∷ es) (suc i) props style text s a b =
    Contains-append_right (content_at t e) (contents t es) (content_start t s props)
    (scalar_among t es i props style text s a b)

-- ---- The candidates of each rule

abbrev end_of : Line → List ℕ
end_of l = below l.end

abbrev start_of : Line → List ℕ
start_of l = l.start ∷ []

abbrev offset_of : CommentValue → List ℕ
offset_of c = c.offset ∷ []

abbrev begin_of : Doc → List ℕ
begin_of d = d.start ∷ []

module _ (src : Table) (r : Lists) (style : Style) where
  at_end : (k x : ℕ) → TrailingBlank src r k x → Contains (flat_map end_of src.lines) x
  at_end k x (trailing (at_line_end {l = l} e whites short) n) =
      gathered end_of src.lines k l x e (is_below l.end x short)

  pub trailing_blanks : Among (TrailingBlank src r)
  trailing_blanks = record { these = flat_map end_of src.lines; each = at_end }

  past_limit : (k x : ℕ) → BeyondLimit src style.max_line k x → Contains (flat_map end_of src.lines) x
  past_limit k x (beyond {l = l} e marks after) = gathered end_of src.lines k l x e (is_below l.end x after.before)

  pub long_lines : Among (BeyondLimit src style.max_line)
  long_lines = record { these = flat_map end_of src.lines; each = past_limit }

  at_blank : (k x : ℕ) → MisplacedBlank src r k x → Contains (flat_map start_of src.lines) x
  at_blank k x (misplaced {l = l} e b wrong) = gathered start_of src.lines k l x e (is_head l.start [])

  pub blank_lines : Among (MisplacedBlank src r)
  blank_lines = record { these = flat_map start_of src.lines; each = at_blank }

  at_mark : (k x : ℕ) → LooseMark src.text r k x → Contains (below (length src.text)) x
  at_mark k x (in_no_scalar e n) = is_below (length src.text) x (within_from_code src.text x (omega (arith, e)))

  pub order_marks : Among (LooseMark src.text r)
  order_marks = record { these = below (length src.text); each = at_mark }

  at_hidden : (k x : ℕ) → HiddenCharacter src.text r style k x → Contains (below (length src.text)) x
  at_hidden k x (in_no_quotes e is_char h n out) =
      is_below (length src.text) x (within_from_code src.text x is_char)

  pub hidden : Among (HiddenCharacter src.text r style)
  hidden = record { these = below (length src.text); each = at_hidden }

  at_comment : (k x : ℕ) → CloseComment src.text r k x → Contains (flat_map offset_of r.comments) x
  at_comment k x (of_comment {c = c} e near) = gathered offset_of r.comments k c x e (is_head c.offset [])

  pub comments : Among (CloseComment src.text r)
  comments = record { these = flat_map offset_of r.comments; each = at_comment }

  at_start : {m b : Bool} {o x : ℕ} → IsUnmarked src.text m b o x → Contains (o ∷ []) x
  at_start {o = o} without_marker = is_head o []
  at_start {o = o} (not_alone n) = is_head o []

  at_document : (k x : ℕ) → NoMarkerLine src.text r style k x → Contains (flat_map begin_of r.documents) x
  at_document k x (of_document {d = d} e f u) = gathered begin_of r.documents k d x e (at_start u)

  pub starts : Among (NoMarkerLine src.text r style)
  starts = record { these = flat_map begin_of r.documents; each = at_document }

  at_scalar : (k x : ℕ) → QuotingFault src.text r style k x → Contains (contents src.text r.events) x
  at_scalar k x (other_style {props = props} {style = style} {text = text} {s = s} e n) =
      scalar_among src.text r.events k props style text s e.event e.part

  pub scalars : Among (QuotingFault src.text r style)
  scalars = record { these = contents src.text r.events; each = at_scalar }

  at_flow : (k x : ℕ) → LayoutFault src r style k x → Contains (contents src.text r.events) x
  at_flow k x (displaced {x = y} {s = s} outer span d) = node_among src.text r.events k y s outer.node span

  pub flows : Among (LayoutFault src r style)
  flows = record { these = contents src.text r.events; each = at_flow }

  module _ (trees : List DocumentTree) (of_reading : TreesOf r trees) where
    within : {y : Node} {column start : ℕ} → EntriesAt src y column start → start < suc (length src.text)
    within (at_first b first entry boundary place) = let l = boundary.0 in omega (arith, l)

    abbrev entries_and_contents : List ℕ
    entries_and_contents = below (suc (length src.text)) ++ contents src.text r.events

    at_indent : (k x : ℕ) → IndentFault src style trees k x → Contains entries_and_contents x
    at_indent k x (entries a same e wanted n) =
        Contains-append_left (below (suc (length src.text))) (contents src.text r.events) x
        (is_below (suc (length src.text)) x (within e))
    at_indent k x (content {y = y} {props = props} {s = s} a same is span block begun c wanted n) =
        Contains-append_right (below (suc (length src.text))) (contents src.text r.events) x
        (subst (λ p. Contains (contents src.text r.events) (content_start src.text s p)) (ap (λ z. props_of z) is)
        (node_among src.text r.events y.0 y.1 s (node_there of_reading a) span))

    pub indents : Among (IndentFault src style trees)
    indents = record { these = entries_and_contents; each = at_indent }

    at_key : (i x : ℕ) → RepeatedKey r trees i x → Contains (flat_map key_at r.events) x
    at_key i x (repeats {k = k} a in_pair other before same text like tags) =
        key_among r.events k.0 k.1 (node_there of_reading (is_inner a (as_key in_pair)))

    pub keys : Among (RepeatedKey r trees)
    keys = record { these = flat_map key_at r.events; each = at_key }

    marked_below : {i o : ℕ} → IsMarked src.text r i o → o < length src.text
    marked_below (marked {entry = entry} e sign) =
        let c = sign.sign in within_from_code src.text entry.start (omega (arith, c))

    pub key_marks : Among (NeedlessMark src r style trees)
    key_marks = record {
      these = below (length src.text);
      each = λ k x n. is_below (length src.text) x (marked_below n.marked);
    }

-- ---- The end of a text

abbrev pub Ends : List ℕ → Type 0
Ends t = (i : ℕ) × Break t i (length t)

module _ (t : List ℕ) where
  after_feed : (n : ℕ) → n + 1 ≡ length t → code t n ≡ 10 → Ends t
  after_feed zero e c = (0, subst (λ z. Break t 0 z) e (lone_lf c (λ d. omega (arith, c, d))))
  after_feed (suc n) e c =
      let here : code t (n + 1) ≡ 10 = subst (λ z. code t z ≡ 10) (omega arith) c in
      ⊎_elim
      (λ (d : code t n ≡ 13). (n, subst (λ z. Break t n z) (omega (arith, e)) (cr_lf d here)))
      (λ (d : code t n ≢ 13).
      (suc n, subst (λ z. Break t (suc n) z) e (lone_lf c (λ f. d (subst (λ z. code t z ≡ 13) (omega arith) f)))))
      (cases_eq (code t n) 13)

  after_return : (n : ℕ) → n + 1 ≡ length t → code t n ≡ 13 → Ends t
  after_return n e c =
      let past : code t (n + 1) ≡ no_char = code-past t (n + 1) (omega (arith, e)) in
      (n, subst (λ z. Break t n z) e (lone_cr c (λ d. omega (arith, past, d))))

  none_here : (n i j : ℕ) → n + 1 ≡ j → code t n ≢ 10 → code t n ≢ 13 → Break t i j → ⊥
  none_here n i j e lf cr (cr_lf a b) = lf (subst (λ z. code t z ≡ 10) (omega (arith, e)) b)
  none_here n i j e lf cr (lone_cr a b) = cr (subst (λ z. code t z ≡ 13) (omega (arith, e)) a)
  none_here n i j e lf cr (lone_lf a b) = lf (subst (λ z. code t z ≡ 10) (omega (arith, e)) a)

  break_or_none : (n : ℕ) → n + 1 ≡ length t → Ends t ⊎ ((i : ℕ) → Break t i (length t) → ⊥)
  break_or_none n e =
      ⊎_elim (λ (c : code t n ≡ 10). inl (after_feed n e c))
      (λ (lf : code t n ≢ 10). ⊎_elim (λ (c : code t n ≡ 13). inl (after_return n e c))
      (λ (cr : code t n ≢ 13). inr (λ i b. none_here n i (length t) e lf cr b)) (cases_eq (code t n) 13))
      (cases_eq (code t n) 10)

  pub ends_listed : (offsets : List ℕ) × WithoutFinalBreak t offsets
  ends_listed =
      ⊎_elim (λ (e : length t ≡ 0). ([], of_empty_text e))
      (λ (n : length t ≢ 0). ⊎_elim (λ (b : Ends t). ([], has_break b.1))
      (λ (none : (i : ℕ) → Break t i (length t) → ⊥). (length t ∷ [], no_break n none))
      (break_or_none (length t - 1) (omega (arith, n))))
      (cases_eq (length t) 0)
