-- The beginning of awaited content, from the results of the readers of its parts.
use Rattle.std.proofs.Common.{◌≡◌, ◌≢◌, ℕ, ◌+◌, ◌<◌, ◌≤◌, length, subst, arith, Result, IfOk, ℤ, true, false, List, [], ◌∷◌, ◌++◌, None, refl, sym, true≢false, ◌∙◌, append-nil, encode_utf8_all}
use Rattle.std.proofs.lemmas.Result.{IfOk-weaker}
use Rattle.std.specs.List.{All}
use Rattle.std.specs.Str.{IsCharBoundary}
use Rattle.yf_chars.specs.declared.context.Ctx.{Ctx}
use Rattle.yf_chars.specs.Text.{code}
use Rattle.yf_chars.specs.Chain.{Stuck, Chosen}
use Rattle.yf_chars.specs.Boundary.{BoundaryFrom}
use Rattle.yf_events.specs.Event.{EventValue, EventInText}
use Rattle.yf_props.specs.Props.{props_value}
use Rattle.yf_events.specs.declared.event.ScalarStyle.TheVariants.{Plain as PlainStyle, Single as SingleStyle, Double as DoubleStyle}
use Rattle.yf_events.specs.declared.part.Part.{Part}
use Rattle.yf_plain.specs.Plain.{Plain}
use Rattle.yf_quoted.specs.Quoted.{Piece, text_of, SingleQuoted, DoubleQuoted}
use Rattle.yf_grammar.specs.Productions.Grammar.{bad_escapes}
use Rattle.yf_grammar.specs.Productions.Meaning.{scalar, event_with, start_of}
use Rattle.yf_grammar.specs.FlowReader.Parser.{found, begins_content}
use Rattle.yf_grammar.specs.FlowReader.Parser.Parses.{single_read, single_missed, double_read, double_missed}
use Rattle.yf_lines.specs.Text.{text_bytes}
use Rattle.yf_events.specs.declared.event.ScalarStyle.{ScalarStyle}
use Rattle.yf_flow.specs.declared.frame.CollectionKind.{CollectionKind}
use Rattle.yf_flow.specs.declared.frame.FlowCursor.{FlowCursor}
use Rattle.yf_flow.specs.declared.leaf.Scalar.{Scalar}
use Rattle.yf_flow.specs.declared.node.Begun.{Begun}
use Rattle.yf_flow.specs.declared.node.Begun.TheVariants.{Leaf}
use Rattle.yf_flow.specs.declared.node.Lead.{Lead}
use Rattle.yf_flow.specs.NodeStarts.{ContentAt, content_there, plain_there, LeafAt, leaf_event, lead_event, is_sequence}
use Rattle.yf_flow.specs.Machine.{BegunAt}
use Rattle.yf_flow.specs.NodeOffsets.{Begins, LeafPushed, is_quoted}
use Rattle.yf_flow.proofs.Ends.Frames.{pushed_longer}
use Rattle.yf_flow.proofs.Ends.MachineLemmas.{begun_from}
use Rattle.yf_flow.proofs.Ends.LookLemmas.{single_begins, double_begins, nothing_begins}
use Rattle.yf_grammar.proofs.FlowReader.NodeExact.{plain_is}

module _ {t : List ℕ} {n : ℤ} {c : Ctx} {i depth j : ℕ} {lead : Lead} {old new : Part} where
  pub plain_leaf : (text x : List ℕ) → begins_content (code t i) ≡ false → text ≡ encode_utf8_all x → Chosen (Plain t n c i) j x
      → new.events ≡ old.events ++ (leaf_event lead PlainStyle text j ∷ []) → new.comments ≡ old.comments → new.escapes ≡ old.escapes
      → LeafAt t n c i depth lead old new (record { end = j; json = false; deepest = depth })
  plain_leaf text x b e p v cs es = record {
    style = PlainStyle;
    text = text;
    bad = [];
    read = λ l. rw (e, sym (plain_is x i j)) (plain_there b p);
    added = record { events = v; comments = cs ∙ sym (append-nil old.comments); escapes = es ∙ sym (append-nil old.escapes) };
    deepest = refl;
    no_lines = λ p w. refl;
  }

  pub single_leaf : (text x : List ℕ) → code t i ≡ 39 → text ≡ encode_utf8_all x → Chosen (SingleQuoted t n c i) j x
      → new.events ≡ old.events ++ (leaf_event lead SingleStyle text j ∷ []) → new.comments ≡ old.comments → new.escapes ≡ old.escapes
      → LeafAt t n c i depth lead old new (record { end = j; json = true; deepest = depth })
  single_leaf text x b e p v cs es = record {
    style = SingleStyle;
    text = text;
    bad = [];
    read = λ l. rw e (content_there (sym (single_begins b)) (single_read p));
    added = record { events = v; comments = cs ∙ sym (append-nil old.comments); escapes = es ∙ sym (append-nil old.escapes) };
    deepest = refl;
    no_lines = λ p w. refl;
  }

  pub double_leaf : (text : List ℕ) (x : List Piece) → code t i ≡ 34 → text ≡ encode_utf8_all (text_of x)
      → Chosen (DoubleQuoted t n c i) j x → (mid : List EventInText) → new.events ≡ mid ++ (leaf_event lead DoubleStyle text j ∷ []) → mid ≡ old.events → new.comments ≡ old.comments
      → new.escapes ≡ old.escapes ++ bad_escapes x
      → LeafAt t n c i depth lead old new (record { end = j; json = true; deepest = depth })
  double_leaf text x b e p mid v m cs es = record {
    style = DoubleStyle;
    text = text;
    bad = bad_escapes x;
    read = λ l. rw e (content_there (sym (double_begins b)) (double_read p));
    added = record { events = rw m at v; comments = cs ∙ sym (append-nil old.comments); escapes = es };
    deepest = refl;
    no_lines = λ p w. refl;
  }

module _ {t : List ℕ} {n : ℤ} {c : Ctx} {i : ℕ} where
  pub single_none : code t i ≡ 39 → Stuck (SingleQuoted t n c i) → (e : ℕ) → ContentAt t e n c i None
  single_none b s e = content_there (sym (single_begins b)) (single_missed b s)

  pub double_none : code t i ≡ 34 → Stuck (DoubleQuoted t n c i) → (e : ℕ) → ContentAt t e n c i None
  double_none b s e = content_there (sym (double_begins b)) (double_missed b s)

  pub content_is_at : begins_content (code t i) ≡ true → code t i ≢ 39 → code t i ≢ 34 → code t i ≢ 91 → code t i ≢ 123 → (e : ℕ) → ContentAt t e n c i None
  content_is_at b p q r s e = absurd (true≢false (sym b ∙ sym (nothing_begins p q r s)))

-- the event of an opened collection
pub start_event : (lead : Lead) (kind : CollectionKind) (j : ℕ) (old new : List EventInText) (e : EventInText) (event : EventValue) → new ≡ old ++ e ∷ [] → e ≡ lead_event lead event j
    → event ≡ event_with (props_value lead.props) (start_of (is_sequence kind) true)
    → new ≡ old ++ (lead_event lead (event_with (props_value lead.props) (start_of (is_sequence kind) true)) j ∷ [])
start_event lead kind j old new e event a b d = rw (sym d, sym b) a

-- a scalar that was added as a node
pub leaf_begins : {HasBegun : Part → Part → Begun → Type 0} {cursor : FlowCursor} {lead : Lead} {style : ScalarStyle} {s : Scalar} {old mid new : Part} (b : Begun) → LeafPushed cursor lead style s mid new b
    → BoundaryFrom cursor.scene.text.now (cursor.at + 1) s.end → mid.events ≡ old.events → All (IsCharBoundary cursor.scene.text.now) mid.escapes
    → HasBegun old new (Leaf (record { end = s.end; json = is_quoted style; deepest = cursor.depth })) → Begins HasBegun cursor old new b
leaf_begins {HasBegun} {cursor} {lead} {style} {s} {old} {mid} {new} b p place e es h =
    let l = pushed_longer mid.events new.events (leaf_event lead style (text_bytes s.text) s.end) p.events in
    let m : length old.events < length new.events = rw e at l in
    subst (λ z. Begins HasBegun cursor old new z) (sym p.leaf) (record {
      exact = h;
      begun = (place, m);
      grows = omega (arith, m);
      escapes = subst (λ xs. All (IsCharBoundary cursor.scene.text.now) xs) (sym p.escapes) es;
    })

-- the beginning at a later cursor, after other comments
pub begins_after : (HasBegun Other : Part → Part → Begun → Type 0) (cursor : FlowCursor) (p : ℕ) (old mid new : Part) {E : Type 0} (r : Result Begun E) → IfOk r (Begins Other (record cursor { at = p }) mid new)
    → cursor.at ≤ p → mid.events ≡ old.events → ((b : Begun) → Other mid new b → HasBegun old new b) → IfOk r (Begins HasBegun cursor old new)
begins_after HasBegun Other cursor p old mid new r h l e f =
    IfOk-weaker r (Begins Other (record cursor { at = p }) mid new) (Begins HasBegun cursor old new)
    (λ b q. record {
      exact = f b q.exact;
      begun = begun_from cursor.scene.text.now (length old.events) (length new.events) b l (subst (λ es. BegunAt cursor.scene.text.now p (length es) (length new.events) b) e q.begun);
      grows = subst (λ es. length es ≤ length new.events) e q.grows;
      escapes = q.escapes;
    }) h
