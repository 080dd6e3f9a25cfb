-- The start of an entry: the mapping of its sign, and the node that is awaited without a sign.
use Rattle.std.proofs.Common.{◌≡◌, ◌≢◌, ℕ, suc, max, ◌+◌, ◌-◌, ◌<◌, ◌≤◌, ℤ, Bool, true, false, List, [], ◌∷◌, ◌++◌, length, None, refl, sym, ap, ◌∙◌, subst, arith, append-nil, ⊎_elim}
use Rattle.std.proofs.lemmas.Bool.{cases_eq}
use Rattle.yf_chars.specs.declared.context.Ctx.{Ctx}
use Rattle.yf_chars.specs.Text.{code}
use Rattle.yf_chars.specs.Chain.{Stuck}
use Rattle.yf_comments.specs.Comment.{CommentValue}
use Rattle.yf_comments.specs.Comments.{Separate}
use Rattle.yf_events.specs.Event.{EventInText}
use Rattle.yf_events.specs.declared.part.Part.{Part}
use Rattle.yf_grammar.specs.Productions.Grammar.{closing}
use Rattle.yf_grammar.specs.Productions.Meaning.{Meaning, ◌⊕◌, noting}
use Rattle.yf_grammar.specs.FlowReader.Parser.{AnEntry, ColonAt, Parses, only}
use Rattle.yf_grammar.specs.FlowReader.Parser.Parses.{pair_explicit_too_deep, pair_of_value_too_deep}
use Rattle.yf_grammar.specs.FlowReader.FlowContinuations.{EntriesAwaited, KeyAwaited}
use Rattle.yf_grammar.proofs.FlowStack.AwaitEntries.{entry_fails}
use Rattle.yf_grammar.proofs.FlowStack.AwaitValues.{key_unsigned, key_sign_alone}
use Rattle.yf_grammar.proofs.FlowReader.ParserLemmas.{Same}
use Rattle.yf_flow.specs.declared.frame.Frame.{Frame}
use Rattle.yf_flow.specs.declared.frame.CollectionKind.{CollectionKind}
use Rattle.yf_flow.specs.declared.frame.CollectionKind.TheVariants.{Sequence, Mapping, Pair}
use Rattle.yf_flow.specs.declared.frame.Role.TheVariants.{Key}
use Rattle.yf_flow.specs.Leaves.{IsClosing}
use Rattle.yf_flow.specs.StepTerms.{Reading, first_role}
use Rattle.yf_flow.specs.EntryStarts.{SignAt, question_there, colon_there, AtFirst, AtSign}
use Rattle.yf_flow.specs.StackMeaning.{NoteFilled, NotesFilled, PartSoFar, pair_event, ahead, entries_written, kind_of, CollectionFrame, of_collection, of_pair, NodeIn, item_in, key_in, Base, Below, AtPlace, AtNode, NoBase}
use Rattle.yf_flow.proofs.Ends.NotedLemmas.{noted_more, noted_length}
use Rattle.yf_flow.proofs.Stack.TiedEnds.{written_same, written_noting, closes_not}
use Rattle.yf_flow.proofs.Stack.TiedFails.{all_fails}
use Rattle.yf_flow.proofs.Stack.TiedPairs.{kind_no_pair}

-- a sign is not a line feed
pub sign_no_feed : {t : List ℕ} {n : ℤ} {d : Ctx} {s p : ℕ} {cs : List CommentValue} → SignAt t n d s cs p → code t s ≢ 10
sign_no_feed (question_there e c) q = omega arith
sign_no_feed (colon_there c) q = let e = c.colon in omega arith

sequence_kind : (sequence : Bool) (kind : CollectionKind) → kind ≡ kind_of sequence → kind ≡ Sequence → sequence ≡ true
sequence_kind true kind e q = refl
sequence_kind false kind e q = cc

mapping_kind : (sequence : Bool) (kind : CollectionKind) → kind ≡ kind_of sequence → kind ≡ Mapping → sequence ≡ false
mapping_kind true kind e q = cc
mapping_kind false kind e q = refl

-- an entry begins if the bracket is not at the offset
pub first_begun : {t : List ℕ} {n : ℤ} {d : Ctx} {base : Base} {frames : List Frame} {top : Frame} {k : ℕ} {cs : List CommentValue} {old new : Part} → AtPlace t n d base frames top k old
    → (IsClosing top.kind (code t k) → ⊥) → new.events ≡ old.events → new.comments ≡ old.comments ++ cs → new.escapes ≡ old.escapes → (o : Frame) → o.kind ≡ top.kind → o.event ≡ top.event
    → o.depth ≡ top.depth → o.deepest ≡ top.deepest → o.entry ≡ k → o.role ≡ first_role top.kind → o.entry_event ≡ length old.events → AtFirst t n d base frames o cs new
first_begun {t} {n} {d} {base} {frames} {top} {k} {cs} {old} {new} a f x y z o e1 e2 e3 e4 e5 e6 e7 =
    let r = a.frame.room in
    let h = a.frame.deepest in
    record {
      sequence = a.sequence;
      place = a.place;
      context = a.context;
      limit = a.limit;
      high = a.high;
      before = a.before;
      begin = a.begin;
      known = a.known;
      below = a.below;
      entries = subst (λ s. EntriesAwaited t a.limit a.sequence n a.context d a.place a.high a.known s) (sym e5) a.entries;
      open_there = subst (λ s. code t s ≢ closing a.sequence) (sym e5) (closes_not a.sequence top.kind (code t k) a.frame.kind f);
      frame = record { kind = e1 ∙ a.frame.kind; event = e2 ∙ a.frame.event; room = omega arith; deepest = omega arith };
      role = e6 ∙ ap first_role (sym e1);
      index = e7 ∙ ap (λ w. length w) (sym x);
      written = written_noting cs x y z a.written;
    }

noted_same : (e : Meaning) (cs : List CommentValue) → Same (noting e cs) (e ⊕ noting (only [] 0) cs)
unfolding ◌⊕◌ noting only
noted_same e cs = record { events = sym (append-nil e.events); comments = refl; escapes = sym (append-nil e.escapes) }

pair_added : {t : List ℕ} {kept : ℕ} {old new : Part} (e : Meaning) (cs : List CommentValue) (s : ℕ) (event : EventInText) → PartSoFar t kept (noting e cs) old → NoteFilled t (pair_event s) event
    → new.events ≡ old.events ++ event ∷ [] → new.comments ≡ old.comments → new.escapes ≡ old.escapes → PartSoFar t kept (e ⊕ ahead true s (noting (only [] 0) cs)) new
unfolding ◌⊕◌ noting only
pair_added {t} {kept} {old} {new} e cs s event p q a b c = record {
  events = subst (λ z. NotesFilled t kept (e.events ++ pair_event s ∷ []) z) (sym a) (noted_more p.events q);
  comments = b ∙ p.comments;
  escapes = c ∙ p.escapes ∙ sym (append-nil e.escapes);
}

sign_too_deep : {t : List ℕ} {n : ℤ} {d : Ctx} {s p e : ℕ} {cs : List CommentValue} (sequence : Bool) → sequence ≡ true → e ≡ 0 → SignAt t n d s cs p → Parses t e (AnEntry sequence n d s) None
sign_too_deep {t} {n} {d} {s} {e = e} {cs} sequence q z (question_there a b) =
    subst (λ w. Parses t w (AnEntry sequence n d s) None) (sym z) (subst (λ w. Parses t 0 (AnEntry w n d s) None) (sym q) (pair_explicit_too_deep cs a b))
sign_too_deep {t} {n} {d} {s} {e = e} sequence q z (colon_there c) =
    subst (λ w. Parses t w (AnEntry sequence n d s) None) (sym z) (subst (λ w. Parses t 0 (AnEntry w n d s) None) (sym q) (pair_of_value_too_deep c))

noted_events_length : (e : Meaning) (cs : List CommentValue) → length (noting e cs).events ≡ length e.events
unfolding noting
noted_events_length e cs = refl

first_written : {t : List ℕ} {kept : ℕ} {old : Part} (e : Meaning) → PartSoFar t kept (noting e []) old → PartSoFar t kept (e ⊕ only [] 0) old
unfolding ◌⊕◌ noting only
first_written {t} {kept} {old} e p = record {
  events = subst (λ z. NotesFilled t kept z old.events) (sym (append-nil e.events)) p.events;
  comments = p.comments;
  escapes = p.escapes ∙ sym (append-nil e.escapes);
}

first_key : {t : List ℕ} {n : ℤ} {d : Ctx} {s e : ℕ} → (code t s ≡ 63 → Stuck (Separate t n d (s + 1))) → KeyAwaited t e false n d false s (only [] 0) s
first_key {t} {s = s} f = ⊎_elim (λ (q : code t s ≡ 63). key_sign_alone q (f q)) (λ (q : code t s ≢ 63). key_unsigned q) (cases_eq (code t s) 63)

module _ {t : List ℕ} {n : ℤ} {d : Ctx} {base : Base} {frames : List Frame} {top : Frame} {cs : List CommentValue} {old : Part} (a : AtFirst t n d base frames top cs old) where
  pub pair_full_fails : {p limit : ℕ} → Reading t d limit base → SignAt t n d top.entry cs p → top.kind ≡ Sequence → limit ≤ top.depth → NoBase t n base
  pair_full_fails r sign k l =
      let room = a.frame.room in
      let z : a.limit ≡ 0 = omega (arith, r.total) in
      all_fails a.below (entry_fails a.entries a.open_there (sign_too_deep a.sequence (sequence_kind a.sequence top.kind a.frame.kind k) z sign))

  pub sign_in_mapping : top.kind ≡ Mapping → AtSign t n d base frames top cs old
  sign_in_mapping k =
      let q = mapping_kind a.sequence top.kind a.frame.kind k in
      let h : max a.high 0 ≡ a.high = omega arith in
      record {
        layer = record { sequence = false; place = a.place; context = a.context; pair = false; limit = a.limit; high = a.high; before = a.before; begin = a.begin; known = a.known; start = top.entry; under = frames };
        mapping = refl;
        tied = record {
          rest = [];
          below = subst (λ b. Below t n d base frames b a.place a.context (suc a.limit) a.before a.begin) q a.below;
          entries = subst (λ b. EntriesAwaited t a.limit b n a.context d a.place a.high a.known top.entry) q a.entries;
          open_there = subst (λ b. code t top.entry ≢ closing b) q a.open_there;
          framed = of_collection (subst (λ m. CollectionFrame base.total a.limit m (length a.before.events) false top) (sym h)
              (subst (λ b. CollectionFrame base.total a.limit a.high (length a.before.events) b top) q a.frame));
          all = refl;
        };
        entry = refl;
        role = a.role ∙ ap first_role k;
        index = a.index;
        written = written_same (noted_same (entries_written a.before a.begin a.known) cs) a.written;
      }

  pub pair_has_mapping : top.kind ≡ Pair → {A : Type 0} → A
  pair_has_mapping k = absurd (kind_no_pair a.sequence top.kind a.frame.kind k)

  pub sign_in_pair : {limit : ℕ} → Reading t d limit base → top.kind ≡ Sequence → top.depth < limit → (event : EventInText) → NoteFilled t (pair_event top.entry) event → {new : Part}
      → new.events ≡ old.events ++ event ∷ [] → new.comments ≡ old.comments → new.escapes ≡ old.escapes → (o : Frame) → o.kind ≡ Pair → o.depth ≡ top.depth + 1 → o.deepest ≡ top.depth + 1
      → o.event ≡ length old.events → o.entry ≡ top.entry → o.entry_event ≡ length new.events → o.role ≡ Key → {stack : List Frame} → stack ≡ top ∷ frames → AtSign t n d base stack o cs new
  sign_in_pair r k l event ne {new} x y z o e1 e2 e3 e4 e5 e6 e7 {stack} st =
      let q = sequence_kind a.sequence top.kind a.frame.kind k in
      let room = a.frame.room in
      let deep = a.frame.deepest in
      let less : a.limit ≡ suc (a.limit - 1) = omega (arith, r.total) in
      record {
        layer = record { sequence = true; place = a.place; context = a.context; pair = true; limit = a.limit - 1; high = a.high; before = a.before; begin = a.begin; known = a.known; start = top.entry; under = frames };
        mapping = refl;
        tied = record {
          rest = top ∷ [];
          below = subst (λ m. Below t n d base frames true a.place a.context (suc m) a.before a.begin) less (subst (λ b. Below t n d base frames b a.place a.context (suc a.limit) a.before a.begin) q a.below);
          entries = subst (λ m. EntriesAwaited t m true n a.context d a.place a.high a.known top.entry) less
              (subst (λ b. EntriesAwaited t a.limit b n a.context d a.place a.high a.known top.entry) q a.entries);
          open_there = subst (λ b. code t top.entry ≢ closing b) q a.open_there;
          framed = of_pair (record { kind = e1; event = e4 ∙ sym (noted_length a.written.events) ∙ noted_events_length (entries_written a.before a.begin a.known) cs; room = omega (arith, r.total); deepest = omega arith })
              (record { kind = k; event = a.frame.event; room = omega (arith, r.total); deepest = a.frame.deepest });
          all = st;
        };
        entry = e5;
        role = e7;
        index = e6;
        written = pair_added (entries_written a.before a.begin a.known) cs top.entry event a.written ne x y z;
      }

-- a node is awaited at the start of the entry
first_node_in : {t : List ℕ} {n : ℤ} {d : Ctx} {s e : ℕ} (sequence : Bool) (kind : CollectionKind) → kind ≡ kind_of sequence → (code t s ≡ 63 → Stuck (Separate t n d (s + 1))) → (ColonAt t false d s → ⊥)
    → NodeIn t n d s (first_role kind) sequence e false s 0 (only [] 0)
first_node_in {t} {n} {d} {s} {e} true kind k f g =
    subst (λ r. NodeIn t n d s r true e false s 0 (only [] 0)) (sym (ap first_role k)) (item_in (record { no_sign = f; no_value = g }))
first_node_in {t} {n} {d} {s} {e} false kind k f g = subst (λ r. NodeIn t n d s r false e false s 0 (only [] 0)) (sym (ap first_role k)) (key_in (first_key f) g)

pub first_node : {t : List ℕ} {n : ℤ} {d : Ctx} {base : Base} {frames : List Frame} {top : Frame} {old : Part} → AtFirst t n d base frames top [] old
    → (code t top.entry ≡ 63 → Stuck (Separate t n d (top.entry + 1))) → (ColonAt t false d top.entry → ⊥) → (p : ℕ) → p ≡ top.entry → AtNode t n d base frames top p old
first_node {t} {n} {d} {base} {frames} {top} {old} a f g p e =
    let h : max a.high 0 ≡ a.high = omega arith in
    subst (λ z. AtNode t n d base frames top z old) (sym e) (record {
      layer = record { sequence = a.sequence; place = a.place; context = a.context; pair = false; limit = a.limit; high = a.high; before = a.before; begin = a.begin; known = a.known; start = top.entry; under = frames };
      height = 0;
      read = only [] 0;
      tied = record {
        rest = [];
        below = a.below;
        entries = a.entries;
        open_there = a.open_there;
        framed = of_collection (subst (λ m. CollectionFrame base.total a.limit m (length a.before.events) a.sequence top) (sym h) a.frame);
        all = refl;
      };
      node = subst (λ r. NodeIn t n d top.entry r a.sequence a.limit false top.entry 0 (only [] 0)) (sym a.role) (first_node_in a.sequence top.kind a.frame.kind f g);
      entry = refl;
      index = λ q. a.index ∙ sym (noted_length (first_written (entries_written a.before a.begin a.known) a.written).events);
      begins = λ q z. z;
      written = first_written (entries_written a.before a.begin a.known) a.written;
    })

pub first_node_at : {t : List ℕ} {n : ℤ} {d : Ctx} {base : Base} {frames : List Frame} {top : Frame} {old : Part} {p : ℕ} → AtFirst t n d base frames top [] old → top.entry ≡ p
    → (code t p ≡ 63 → Stuck (Separate t n d (p + 1))) → (ColonAt t false d p → ⊥) → AtNode t n d base frames top p old
first_node_at {t} {n} {d} {p = p} a e f g =
    first_node a (subst (λ s. code t s ≡ 63 → Stuck (Separate t n d (s + 1))) (sym e) f) (subst (λ s. ColonAt t false d s → ⊥) (sym e) g) p (sym e)
