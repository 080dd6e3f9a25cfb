-- A block scalar as the node awaited on a line: it is read whole, with its event; or none begins there, and all nodes
-- break.
use Rattle.std.proofs.Common.{◌≡◌, ℕ, ℤ, pos, ◌+ℤ◌, ◌+◌, ◌^◌, ◌<◌, ◌≤◌, Bool, true, false, List, [], ◌∷◌, ◌++◌, length, Option, Some, None, refl, sym, ap, ◌∙◌, subst, arith, append_assoc, append-nil, ◌⊎◌, ⊎_elim, true≢false}
use Rattle.std.specs.Str.{IsUtf8}
use Rattle.yf_chars.specs.Chain.{Stuck, Chosen}
use Rattle.yf_chars.specs.Text.{code}
use Rattle.yf_chars.proofs.Tests.{some_none}
use Rattle.yf_lines.proofs.BasicLemmas.{break_forward}
use Rattle.yf_comments.specs.Comment.{CommentValue}
use Rattle.yf_comments.specs.Comments.{Blank}
use Rattle.yf_props.specs.Props.{PropsValue, no_props, props_value}
use Rattle.yf_events.specs.Event.{EventInText, scalar_node}
use Rattle.yf_events.specs.declared.event.Entry as TheEntry
use Rattle.yf_events.specs.declared.event.ScalarStyle.{ScalarStyle}
use Rattle.yf_events.specs.declared.part.Part.{Part}
use Rattle.yf_block_scalar.specs.Body.{Body, BodyValue, body_value}
use Rattle.yf_block_scalar.specs.Content.{content_of}
use Rattle.yf_block_scalar.specs.Header.{BlockHeader, HeaderValue}
use Rattle.yf_block_scalar.specs.declared.body.BlockText.{BlockText}
use Rattle.yf_block_scalar.specs.declared.header.Header.{Header}
use Rattle.yf_grammar.specs.BlockReader.BlockParser.{Ahead, Nothing, Indicator, Props, headed, BlockTask, Leaf, Whole}
use Rattle.yf_grammar.specs.BlockReader.BlockParser.Whole.{scalar_read}
use Rattle.yf_grammar.specs.Productions.BlockScalar.{BlockScalar, LinesBetween, style_of, kept_lines, reach}
use Rattle.yf_grammar.specs.Productions.BlockScalar.BlockScalar.{block_scalar}
use Rattle.yf_grammar.specs.BlockReader.Halts.{NoColonAt, ScalarPart, Halts}
use Rattle.yf_grammar.specs.BlockReader.Halts.Halts.{halts_scalar, halts_scalar_before}
use Rattle.yf_grammar.specs.Productions.Meaning.{Meaning, ◌⊕◌, meaning_after, noting, with_props, from_to, entering}
use Rattle.yf_grammar.specs.Productions.ReadParts.{Noting, end_or, floor_after_event}
use Rattle.yf_grammar.specs.Productions.ReadParts.Noting.{no_event, without_entry, with_entry}
use Rattle.yf_grammar.specs.FlowReader.Parser.{ParsedNode, ANode, Parses, only, begins_alias, begins_properties, begins_content, begins_plain}
use Rattle.yf_grammar.specs.FlowReader.Parser.Parses.{plain_missed}
use Rattle.yf_grammar.proofs.FlowReader.PlainEnds.{plain_leaps}
use Rattle.yf_chars.specs.declared.context.Ctx.TheVariants.{FlowOut}
use Rattle.yf_grammar.specs.BlockReader.BlockSteps.{made_or, as_after}
use Rattle.yf_grammar.specs.BlockReader.BlockStack.{rounds, asked}
use Rattle.yf_grammar.proofs.BlockStack.BlockNodeSteps.{node_was_read}
use Rattle.yf_grammar.proofs.BlockContent.BlockScalars.{is_bar_sign, sign_no_first}
use Rattle.yf_grammar.proofs.BlockOutcomes.OneScalars.{scalar_one, scalar_chosen}
use Rattle.yf_flow.specs.declared.node.Lead.{Lead}
use Rattle.yf_block.specs.declared.frame.Frame.{Frame}
use Rattle.yf_block.specs.declared.frame.BlockCursor.{BlockCursor}
use Rattle.yf_block.specs.AwaitedColons.{AwaitedColon}
use Rattle.yf_block.specs.BlockTied.{layers_entry, begins, ahead_comments, ahead_props, ahead_start, ahead_tag, all_written, ReadTied, EntryTied, no_entry, entry_begins, floor_after}
use Rattle.yf_block.specs.BlockStepTied.{AtResume, AtFailed}
use Rattle.yf_block.specs.ContentTied.{LeadTied}
use Rattle.yf_block.specs.LookTests.{NotWithinBreak}
use Rattle.yf_block.specs.HaltNotes.{NodeNoted, node_noted, node_before, node_shorter, ShorterNoted, shorter_noted, one_line, no_plain}
use Rattle.yf_block.specs.ScalarTied.{AtScalar, AtBody, scalar_event}
use Rattle.yf_block.proofs.Stack.TiedFailed.{broken_fails}
use Rattle.yf_block.proofs.LineSteps.ContentLeaves.{headed_comments, headed_escapes, headed_finish, begins_same}
use Rattle.yf_block.proofs.LineSteps.ContentNodes.{leaf_lost}
use Rattle.yf_block.proofs.LineSteps.LeafEnds.{HaltNoted, leaf_made, noted_round, after_finish, noting_escapes, noting_finish}
use Rattle.yf_block.proofs.Ends.NotingLemmas.{floor_more, noting_more}
use Rattle.yf_block.proofs.LineSteps.ScalarLines.{Reaching, body_between, between_blank, header_blank, body_outside, header_is_longest}
use Rattle.yf_block.proofs.Stack.TiedFrames.{allowed_there, refused_there}
use Rattle.yf_block.proofs.Stack.TiedOpenings.{node_missing}
use Rattle.yf_grammar.proofs.Ends.Ways.{chosen_one}
use Rattle.yf_grammar.proofs.NodesInText.PlacedScalars.{body_reached}
use Rattle.yf_grammar.proofs.FlowReader.ParserLemmas.{Same}
use Rattle.yf_grammar.proofs.NodesInText.MeantLemmas.{noting_comments}
use Rattle.yf_block.proofs.Stack.TiedLeads.{begins_comments, begins_escapes}

abbrev scalar_as : ℕ → ℕ → HeaderValue → BodyValue → Meaning
scalar_as i e h b = record {
  events = record {
    event = scalar_node no_props (style_of h.header.folded) (content_of h.header b.lines b.tail b.open_end);
    span = from_to i e;
    tag_offset = None;
    entry = None;
    folded = kept_lines h.header.folded b.lines;
  } ∷ [];
  comments = h.comments ++ b.comments;
  escapes = [];
  finish = e;
}

-- the event of a scalar, field by field
abbrev scalar_by : ℕ → PropsValue → Option ℕ → Option TheEntry.Entry → Header → BodyValue → ℕ → EventInText
scalar_by start props tag entry h b e = record {
  event = scalar_node props (style_of h.folded) (content_of h b.lines b.tail b.open_end);
  span = from_to start e;
  tag_offset = tag;
  entry = entry;
  folded = kept_lines h.folded b.lines;
}

headed_scalar : (z : Ahead) (i e : ℕ) (h : HeaderValue) (b : BodyValue) → (headed z (noting (scalar_as i e h b) [])).events ≡ scalar_by (ahead_start z i) (ahead_props z) (ahead_tag z) None h.header b e ∷ []
unfolding headed meaning_after with_props from_to noting
headed_scalar Nothing i e h b = refl
headed_scalar (Indicator k) i e h b = refl
headed_scalar (Props k) i e h b = refl

known_scalar : {z : Ahead} {i : ℕ} {lead : Lead} (entry : Option TheEntry.Entry) (h : Header) (b : BodyValue) (e : ℕ) → LeadTied z i lead
    → scalar_by (ahead_start z i) (ahead_props z) (ahead_tag z) entry h b e ≡ scalar_by lead.start (props_value lead.props) lead.tag_offset entry h b e
known_scalar {z} {i} {lead} entry h b e l =
    ap (λ (y : ℕ). scalar_by y (ahead_props z) (ahead_tag z) entry h b e) (sym l.start)
    ∙ ap (λ y. scalar_by lead.start y (ahead_tag z) entry h b e) (sym l.props)
    ∙ ap (λ y. scalar_by lead.start (props_value lead.props) y entry h b e) (sym l.tag)

-- it is written so
pub scalar_placed : (lead : Lead) (block : BlockText) (finish : ℕ) {style : ScalarStyle} {text : List ℕ} {folded : List (List ℕ)} → style ≡ style_of block.header.folded
    → text ≡ content_of block.header block.lines block.tail block.open_end → folded ≡ kept_lines block.header.folded block.lines
    → record { event = scalar_node (props_value lead.props) style text; span = Some (record { start = lead.start; end = finish }); tag_offset = lead.tag_offset; entry = lead.entry; folded = folded } ≡ scalar_event lead block finish
unfolding from_to
scalar_placed lead block finish {style} {text} {folded} a b c =
    ap (λ z. record { event = scalar_node (props_value lead.props) z text; span = Some (record { start = lead.start; end = finish }); tag_offset = lead.tag_offset; entry = lead.entry; folded = folded }) a
    ∙ ap (λ z. record { event = scalar_node (props_value lead.props) (style_of block.header.folded) z; span = Some (record { start = lead.start; end = finish }); tag_offset = lead.tag_offset; entry = lead.entry; folded = folded }) b
    ∙ ap (λ z. record { event = scalar_node (props_value lead.props) (style_of block.header.folded) (content_of block.header block.lines block.tail block.open_end); span = Some (record { start = lead.start; end = finish }); tag_offset = lead.tag_offset; entry = lead.entry; folded = z }) c

-- the floor is the scalar's end
scalar_floor : (floor : ℕ) (event : EventInText) (props : PropsValue) (folded : Bool) (text : List ℕ) (start e : ℕ) → event.span ≡ from_to start e → floor_after_event floor event (scalar_node props (style_of folded) text) ≡ e
unfolding from_to
scalar_floor floor event props true text start e q = ap (λ s. end_or floor s) q
scalar_floor floor event props false text start e q = ap (λ s. end_or floor s) q

begun_floor : (floor : ℕ) (o : Option ℕ) (start : ℕ) (props : PropsValue) (tag : Option ℕ) (h : Header) (b : BodyValue) (e : ℕ) (x : Meaning) → x.events ≡ scalar_by start props tag None h b e ∷ []
    → floor_after floor (begins o x).events ≡ e
unfolding entering
begun_floor floor None start props tag h b e x q = ap (λ z. floor_after floor z) q ∙ scalar_floor floor (scalar_by start props tag None h b e) props h.folded (content_of h b.lines b.tail b.open_end) start e refl
begun_floor floor (Some i) start props tag h b e x q =
    let entry = Some (record { start = i; colon = None; blank_before = false }) in
    ap (λ z. floor_after floor (entering i None (record { events = z; comments = []; escapes = []; finish = 0 })).events) q
    ∙ scalar_floor floor (scalar_by start props tag entry h b e) props h.folded (content_of h b.lines b.tail b.open_end) start e refl

scalar_noting : {t : List ℕ} {floor : ℕ} {o : Option ℕ} {entry : Option TheEntry.Entry} (start : ℕ) (props : PropsValue) (tag : Option ℕ) (h : Header) (b : BodyValue) (e : ℕ) (x : Meaning) → EntryTied t floor o entry
    → x.events ≡ scalar_by start props tag None h b e ∷ [] → Noting t floor (begins o x).events (scalar_by start props tag entry h b e ∷ [])
unfolding entering
scalar_noting {t} {floor} start props tag h b e x no_entry q = subst (λ z. Noting t floor z (scalar_by start props tag None h b e ∷ [])) (sym q) (without_entry refl no_event)
scalar_noting {t} {floor} start props tag h b e x (entry_begins {i = i} {b = k} n) q =
    subst (λ z. Noting t floor (entering i None (record { events = z; comments = []; escapes = []; finish = 0 })).events (scalar_by start props tag (Some (record { start = i; colon = None; blank_before = k })) h b e ∷ [])) (sym q)
    (with_entry (record { start = i; colon = None; blank_before = false }) refl n no_event)

-- a meaning is added, and the floor moves
module _ {t : List ℕ} {before : Part} {w : Meaning} {progress : BlockCursor} {old : Part} (r : ReadTied t before w progress old) where
  read_floor : {after : BlockCursor} {new : Part} {y : Meaning} (es fs : List EventInText) (ds : List CommentValue) → Noting t progress.floor es fs → after.floor ≡ floor_after progress.floor es
      → (after.floor < length t → Blank t after.floor) → new.events ≡ old.events ++ fs → new.comments ≡ old.comments ++ ds → new.escapes ≡ old.escapes
      → w.events ++ es ≡ y.events → w.comments ++ ds ≡ y.comments → w.escapes ≡ y.escapes → ReadTied t before y after new
  read_floor es fs ds n k l a b c p q s = record {
    text = r.text;
    floor = k ∙ ap (λ (f : ℕ). floor_after f es) r.floor ∙ sym (floor_more 0 w.events es) ∙ ap (λ z. floor_after 0 z) p;
    floor_line = l;
    written = record {
      events = r.written.events ++ fs;
      noting = subst (λ z. Noting t 0 z (r.written.events ++ fs)) p (noting_more r.written.noting (subst (λ f. Noting t f es fs) r.floor n));
      added = record {
        events = a ∙ ap (λ z. z ++ fs) r.written.added.events ∙ append_assoc before.events r.written.events fs;
        comments = b ∙ ap (λ z. z ++ ds) r.written.added.comments ∙ append_assoc before.comments w.comments ds ∙ ap (λ z. before.comments ++ z) q;
        escapes = c ∙ r.written.added.escapes ∙ ap (λ z. before.escapes ++ z) s;
      };
    };
  }

scalar_lists : (w : Meaning) (o : Option ℕ) (cs : List CommentValue) (z : Ahead) (i e : ℕ) (h : HeaderValue) (b : BodyValue)
    → Same (record { events = w.events ++ (begins o (headed z (noting (scalar_as i e h b) []))).events; comments = (w.comments ++ (cs ++ ahead_comments z)) ++ (h.comments ++ b.comments); escapes = w.escapes; finish = 0 })
    (w ⊕ begins o (meaning_after cs (headed z (noting (scalar_as i e h b) []))))
unfolding ◌⊕◌ meaning_after
scalar_lists w o cs z i e h b = record {
  events = ap (λ y. w.events ++ y) (begins_same o (headed z (noting (scalar_as i e h b) [])) (meaning_after cs (headed z (noting (scalar_as i e h b) []))) refl);
  comments = append_assoc w.comments (cs ++ ahead_comments z) (h.comments ++ b.comments)
      ∙ ap (λ y. w.comments ++ y) (append_assoc cs (ahead_comments z) (h.comments ++ b.comments)
      ∙ ap (λ y. cs ++ (ahead_comments z ++ y)) (sym (append-nil (h.comments ++ b.comments)) ∙ sym (noting_comments (scalar_as i e h b) []))
      ∙ ap (λ y. cs ++ y) (sym (headed_comments (noting (scalar_as i e h b) []) z)) ∙ sym (begins_comments o (meaning_after cs (headed z (noting (scalar_as i e h b) [])))));
  escapes = sym (append-nil w.escapes) ∙ ap (λ y. w.escapes ++ y) (sym (begins_escapes o (meaning_after cs (headed z (noting (scalar_as i e h b) []))) ∙ headed_escapes (noting (scalar_as i e h b) []) z ∙ noting_escapes (scalar_as i e h b) []));
}

-- all may end after it
part_chosen : {t : List ℕ} {n : ℤ} {i k : ℕ} {ws : List ℕ} {x : Meaning} → Chosen (BlockScalar t n i) k x → NoColonAt t k ws → Chosen (ScalarPart t n ws i) k x
part_chosen d a = record { derived = record { scalar = d.derived; allowed = a }; longest = λ j x m. d.longest j x m.scalar; only = λ x m. d.only x m.scalar }

module _ {t : List ℕ} {d : ℕ} {root : BlockTask} {before old : Part} {frames : List Frame} {lead : Lead} {at : ℕ} {block : BlockText} {progress : BlockCursor}
    (a : AtBody lead block t d root before frames at progress old) (inside : at ≤ length t) where
  utf8 : IsUtf8 t
  utf8 = a.scalar.read.text.utf8

  pub to : Reaching t a.head.header.chomp (length block.lines) block.tail at (length t)
  to = body_between utf8 a.lines.derived inside

  -- the scalar's end
  pub scalar_ends : LinesBetween t (reach block.header.chomp (length block.lines) block.tail) at to.end
  scalar_ends = subst (λ (h : Header). LinesBetween t (reach h.chomp (length block.lines) block.tail) at to.end) (sym a.header_is) to.between

  pub few_lines : length block.lines + block.tail < 2 ^ 64
  few_lines = let w = to.within in let z = a.scalar.read.text.size in omega (arith, w, z)

  chosen : Chosen (BlockScalar t a.scalar.indentation a.place) block.next (scalar_as a.place to.end a.head (body_value block))
  chosen = scalar_chosen utf8 (block_scalar a.header.derived a.lines.derived to.between)

  pub scalar_outside : NotWithinBreak t block.next
  scalar_outside = body_outside utf8 a.header.derived a.lines.derived

  scalar_halt : {new : Option ℕ} → NodeNoted t None block.next block.next frames progress.halt new
      → HaltNoted t a.scalar.room (asked a.scalar.layers) (Leaf a.scalar.indentation a.scalar.ahead a.place) progress.halt new
  scalar_halt n = go n refl where
    stuck : AwaitedColon t block.next frames → Stuck (ScalarPart t a.scalar.indentation (asked a.scalar.layers) a.place)
    stuck c = record {
      none = λ k y m.
          let same = (scalar_one utf8 chosen.derived m.scalar).0 in
          refused_there a.scalar.stack.frames_tied c.awaits c.line (subst (λ (z : ℕ). NoColonAt t z (asked a.scalar.layers)) same m.allowed);
    }

    go : {plain new : Option ℕ} → NodeNoted t plain block.next block.next frames progress.halt new → plain ≡ None → HaltNoted t a.scalar.room (asked a.scalar.layers) (Leaf a.scalar.indentation a.scalar.ahead a.place) progress.halt new
    go (node_noted f) q = record {
      outcome = Some (record { end = block.next; height = 0; json = false; meaning = headed a.scalar.ahead (noting (scalar_as a.place to.end a.head (body_value block)) []) });
      halted = subst (λ o. Halts t a.scalar.room (asked a.scalar.layers) (Leaf a.scalar.indentation a.scalar.ahead a.place) o) (leaf_made a.scalar.ahead block.next 0 (scalar_as a.place to.end a.head (body_value block)) [])
          (halts_scalar (part_chosen chosen (allowed_there a.scalar.stack.frames_tied a.scalar.stack.order (λ m c y. f (record { column = m; line = c; awaits = y })))));
      noted = refl;
    }
    go (node_before c l) q = let later = l.later in let end = break_forward l.ended in let earlier = l.earlier in absurd (omega (arith, later, end, earlier))
    go (node_shorter c n r) q = last r q where
      last : {plain new : Option ℕ} → ShorterNoted t block.next progress.halt plain new → plain ≡ None → HaltNoted t a.scalar.room (asked a.scalar.layers) (Leaf a.scalar.indentation a.scalar.ahead a.place) progress.halt new
      last (shorter_noted x) z = absurd (some_none z)
      last (one_line x) z = absurd (some_none z)
      last no_plain z = record { outcome = None; halted = halts_scalar_before chosen (stuck c); noted = refl }

  abbrev leaf_meaning : Meaning
  leaf_meaning = meaning_after a.scalar.comments (headed a.scalar.ahead (noting (scalar_as a.place to.end a.head (body_value block)) []))

  scalar_written : {finish : ℕ} → finish ≡ to.end
      → scalar_by (ahead_start a.scalar.ahead a.place) (ahead_props a.scalar.ahead) (ahead_tag a.scalar.ahead) lead.entry a.head.header (body_value block) to.end ≡ scalar_event lead block finish
  scalar_written q =
      known_scalar lead.entry a.head.header (body_value block) to.end a.scalar.lead_is
      ∙ ap (λ (h : Header). scalar_by lead.start (props_value lead.props) lead.tag_offset lead.entry h (body_value block) to.end) (sym a.header_is)
      ∙ ap (λ (k : ℕ). scalar_event lead block k) (sym q)

  scalar_blank : {finish : ℕ} → finish ≡ to.end → finish < length t → Blank t finish
  scalar_blank q l = subst (λ (k : ℕ). Blank t k) (sym q) (between_blank to.between (λ m. header_blank a.header.derived m) (omega (arith, l, q)))

  scalar_text : {new : BlockCursor} {part : Part} {finish : ℕ} → finish ≡ to.end → part.events ≡ old.events ++ scalar_event lead block finish ∷ [] → part.comments ≡ old.comments ++ block.comments → part.escapes ≡ old.escapes
      → new.floor ≡ finish → ReadTied t before (all_written a.scalar.layers ⊕ begins (layers_entry a.scalar.layers) leaf_meaning) new part
  unfolding ◌⊕◌ only
  scalar_text {new} {part} {finish} q x1 x2 x3 fl =
      let z = a.scalar.ahead in
      let o = layers_entry a.scalar.layers in
      let v = body_value block in
      let x = scalar_as a.place to.end a.head v in
      let w = all_written a.scalar.layers in
      let cs = a.scalar.comments in
      let es = (begins o (headed z (noting x []))).events in
      let events = headed_scalar z a.place to.end a.head v in
      let lists = scalar_lists w o cs z a.place to.end a.head v in
      let noted : Noting t progress.floor es (scalar_event lead block finish ∷ []) =
      subst (λ y. Noting t progress.floor es (y ∷ [])) (scalar_written q)
      (scalar_noting (ahead_start z a.place) (ahead_props z) (ahead_tag z) a.head.header v to.end (headed z (noting x [])) a.scalar.entry events) in
      let floor : new.floor ≡ floor_after progress.floor es = fl ∙ q ∙ sym (begun_floor progress.floor o (ahead_start z a.place) (ahead_props z) (ahead_tag z) a.head.header v to.end (headed z (noting x [])) events) in
      read_floor a.scalar.read es (scalar_event lead block finish ∷ []) (a.head.comments ++ block.comments) noted floor
      (λ l. subst (λ (k : ℕ). Blank t k) (sym fl) (scalar_blank q (omega (arith, l, fl))))
      (x1 ∙ ap (λ y. y ++ scalar_event lead block finish ∷ []) a.events)
      (x2 ∙ ap (λ y. y ++ block.comments) a.comments ∙ append_assoc a.earlier.comments a.head.comments block.comments)
      (x3 ∙ a.escapes)
      (ap (λ y. y ++ es) (append-nil w.events) ∙ lists.events) lists.comments (append-nil w.escapes ∙ lists.escapes)

  -- it is read whole
  pub scalar_was_read : {new : BlockCursor} {part : Part} {finish : ℕ} → finish ≡ to.end → NodeNoted t None block.next block.next frames progress.halt new.halt → part.events ≡ old.events ++ scalar_event lead block finish ∷ []
      → part.comments ≡ old.comments ++ block.comments → part.escapes ≡ old.escapes → new.last ≡ finish → new.floor ≡ finish → new.colons ≡ progress.colons → AtResume t d root before frames block.next new part
  scalar_was_read {new} {part} {finish} q n x1 x2 x3 i fl y =
      let h = scalar_halt n in
      let x = scalar_as a.place to.end a.head (body_value block) in
      let z = a.scalar.ahead in
      let f : ParsedNode = record { end = block.next; height = 0; json = false; meaning = headed z (noting x []) } in
      let reached = body_reached utf8 a.lines.derived to.between in
      record {
        layers = a.scalar.layers;
        room = a.scalar.room;
        answer = as_after a.scalar.comments f;
        halt = made_or (λ g. rounds a.scalar.layers (as_after a.scalar.comments g)) a.scalar.halt h.outcome;
        node = node_was_read a.scalar.node (subst (λ o. Whole t a.scalar.room (Leaf a.scalar.indentation z a.place) o) (leaf_made z block.next 0 x []) (scalar_read chosen)) h.halted;
        outside = body_outside utf8 a.header.derived a.lines.derived;
        past = omega (arith, reached, fl, q);
        last = i ∙ q ∙ sym (noting_finish x []) ∙ sym (headed_finish (noting x []) z) ∙ sym (after_finish a.scalar.comments (headed z (noting x [])));
        stack = record {
          order = a.scalar.stack.order;
          frames_tied = a.scalar.stack.frames_tied;
          colons = y ∙ a.scalar.stack.colons;
          halted = noted_round a.scalar.layers a.scalar.comments a.scalar.halt h.outcome a.scalar.stack.halted h.noted;
        };
        read = scalar_text q x1 x2 x3 fl;
      }

pub bar_is : (c : ℕ) → (c ≡ 124) ⊎ (c ≡ 62) → is_bar_sign c ≡ true
unfolding is_bar_sign
bar_is c s = ⊎_elim (λ (e : c ≡ 124). rw e refl) (λ (e : c ≡ 62). rw e refl) s

pub bar_plain : (c : ℕ) → (c ≡ 124) ⊎ (c ≡ 62) → begins_plain c ≡ true
unfolding begins_plain begins_alias begins_properties begins_content
bar_plain c s = ⊎_elim (λ (e : c ≡ 124). rw e refl) (λ (e : c ≡ 62). rw e refl) s

-- no block scalar begins there
module _ {t : List ℕ} {d : ℕ} {root : BlockTask} {before old : Part} {frames : List Frame} {lead : Lead} {least p : ℕ} {progress : BlockCursor} (a : AtScalar t d root before frames lead least p progress old) where
  bare : Parses t a.room (ANode (a.indentation +ℤ pos 1) FlowOut p) None
  bare = plain_missed (bar_plain (code t p) a.sign) (record { none = λ j x d. true≢false (sym (plain_leaps d.text).0 ∙ sign_no_first t FlowOut p (bar_is (code t p) a.sign)) })

  pub scalar_missing : {after : BlockCursor} → Stuck (BlockScalar t a.indentation p) → after.halt ≡ progress.halt → AtFailed t d root after
  scalar_missing s e =
      let none = leaf_lost {e = a.room} {ws = asked a.layers} {a = a.ahead} s (λ m. bare) in
      broken_fails (node_missing a.node none.whole none.halted) (e ∙ a.stack.halted)

  pub no_header : Stuck (BlockHeader t p) → Stuck (BlockScalar t a.indentation p)
  no_header s = record { none = λ j x d. go d } where
    go : {j : ℕ} {x : Meaning} → BlockScalar t a.indentation p j x → ⊥
    go (block_scalar {k = k} {h = h} b c l) = s.none k h b

  pub no_body : {k : ℕ} {h : HeaderValue} → Chosen (BlockHeader t p) k h → Stuck (Body t a.indentation h.header k) → Stuck (BlockScalar t a.indentation p)
  no_body {k} {h} c s = record { none = λ j x d. go d } where
    go : {j : ℕ} {x : Meaning} → BlockScalar t a.indentation p j x → ⊥
    go (block_scalar {k = m} {j = j} {h = g} {b = b} y z l) =
        let same = chosen_one c (header_is_longest a.read.text.utf8 y) in
        s.none j b (subst (λ (w : ℕ). Body t a.indentation h.header w j b) same.0 (subst (λ (w : HeaderValue). Body t a.indentation w.header m j b) same.1 z))
