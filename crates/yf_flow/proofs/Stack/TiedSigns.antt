-- After the sign of an entry: nothing, a key, or a value without one.
use Rattle.std.proofs.Common.{◌≡◌, ◌≢◌, ℕ, ◌+◌, ℤ, Bool, true, false, List, [], ◌∷◌, ◌++◌, Some, None, refl, sym, ap, ◌∙◌, subst, arith, append_assoc, append-nil}
use Rattle.yf_chars.specs.declared.context.Ctx.{Ctx}
use Rattle.yf_chars.specs.Text.{code}
use Rattle.yf_chars.specs.Chain.{Chosen}
use Rattle.yf_comments.specs.Comment.{CommentValue}
use Rattle.yf_comments.specs.Comments.{Separate}
use Rattle.yf_props.specs.Props.{no_props}
use Rattle.yf_events.specs.Event.{EventInText, scalar_node}
use Rattle.yf_events.specs.declared.event.Entry.{Entry}
use Rattle.yf_events.specs.declared.event.ScalarStyle.TheVariants.{Plain}
use Rattle.yf_events.specs.declared.part.Part.{Part}
use Rattle.yf_grammar.specs.Productions.Meaning.{Meaning, ◌⊕◌, noting, entering, empty_node, plain_event}
use Rattle.yf_grammar.specs.FlowReader.Parser.{ColonAt, only}
use Rattle.yf_grammar.specs.FlowReader.FlowContinuations.{RestAwaited, ValueAwaited, is_entry_end, not_yet}
use Rattle.yf_grammar.proofs.FlowStack.AwaitValues.{mapping_signed, pair_signed, key_unsigned, pair_value_alone, value_alone, rest_ends, rest_goes_on}
use Rattle.yf_grammar.proofs.WrittenTexts.LeafBack.{noting_nothing}
use Rattle.yf_flow.specs.declared.frame.Frame.{Frame}
use Rattle.yf_flow.specs.NodeStarts.{entry_event}
use Rattle.yf_flow.specs.EntryStarts.{SignAt, colon_there, AtSign, AloneAwaited}
use Rattle.yf_flow.specs.StackMeaning.{EntryNoted, NoteOf, entryless, entry_noted, NotesFilled, NoteFilled, PartSoFar, entry_from, written_in, NodeIn, key_in, Base, AtNode, AtValue, AtEntryDone}
use Rattle.yf_flow.proofs.Ends.NotedLemmas.{noted_more, noted_length}
use Rattle.yf_flow.proofs.Ends.EntryNotes.{entry_is}
use Rattle.yf_flow.proofs.Stack.TiedEnds.{written_as}
use Rattle.yf_flow.proofs.Stack.TiedClose.{entry_more}

-- the event of an empty node that begins an entry, with its note
empty_noted : {t : List ℕ} {s v : ℕ} (e : Entry) → EntryNoted t s (Some v) e
    → NoteFilled t (entry_event (scalar_node no_props Plain []) (Some (record (entry_from s) { colon = Some v }))) (entry_event (scalar_node no_props Plain []) (Some e))
empty_noted {t} {s} {v} e q =
    let same : record (record (entry_from s) { colon = Some v }) { blank_before = e.blank_before } ≡ e =
    sym (ap (λ z. record { start = z; colon = e.colon; blank_before = e.blank_before }) q.start ∙ ap (λ z. record { start = s; colon = z; blank_before = e.blank_before }) q.colon_there) in
    record {
      no_lines = refl;
      note = subst (λ z. NoteOf t (entry_event (scalar_node no_props Plain []) (Some (record (entry_from s) { colon = Some v }))) (entry_event (scalar_node no_props Plain []) (Some z))) same
          (entry_noted {e = entry_event (scalar_node no_props Plain []) (Some (record (entry_from s) { colon = Some v }))} (record (entry_from s) { colon = Some v }) refl q.note);
    }

lone_noted : {t : List ℕ} {s : ℕ} (e : Entry) → EntryNoted t s None e
    → NoteFilled t (entry_event (scalar_node no_props Plain []) (Some (entry_from s))) (entry_event (scalar_node no_props Plain []) (Some e))
lone_noted {t} {s} e q = record {
  no_lines = refl;
  note = subst (λ z. NoteOf t (entry_event (scalar_node no_props Plain []) (Some (entry_from s))) (entry_event (scalar_node no_props Plain []) (Some z))) (entry_is e q)
      (entry_noted {e = entry_event (scalar_node no_props Plain []) (Some (entry_from s))} (entry_from s) refl q.note);
}

-- an empty key, with its `:`
pub keyless_written : {t : List ℕ} {kept : ℕ} {w : Meaning} {old new : Part} (s v : ℕ) (e : Entry) → EntryNoted t s (Some v) e → new.events ≡ old.events ++ entry_event (scalar_node no_props Plain []) (Some e) ∷ []
    → new.comments ≡ old.comments → new.escapes ≡ old.escapes → PartSoFar t kept w old → PartSoFar t kept (w ⊕ entering s (Some v) (empty_node v)) new
unfolding ◌⊕◌ entering empty_node plain_event
keyless_written {t} {kept} {w} {old} {new} s v e q a b c p = record {
  events = subst (λ z. NotesFilled t kept (w.events ++ entry_event (scalar_node no_props Plain []) (Some (record (entry_from s) { colon = Some v })) ∷ []) z) (sym a) (noted_more p.events (empty_noted e q));
  comments = b ∙ p.comments ∙ sym (append-nil w.comments);
  escapes = c ∙ p.escapes ∙ sym (append-nil w.escapes);
}

-- an empty key without a value
pub nothing_written : {t : List ℕ} {kept : ℕ} {w : Meaning} {old new : Part} (mid : List EventInText) (s v : ℕ) (e : Entry) → EntryNoted t s None e → mid ≡ old.events ++ entry_event (scalar_node no_props Plain []) (Some e) ∷ []
    → new.events ≡ mid ++ entry_event (scalar_node no_props Plain []) None ∷ [] → new.comments ≡ old.comments → new.escapes ≡ old.escapes → PartSoFar t kept w old
    → PartSoFar t kept (w ⊕ (entering s None (empty_node v) ⊕ empty_node v)) new
unfolding ◌⊕◌ entering empty_node plain_event
nothing_written {t} {kept} {w} {old} {new} mid s v e q a1 a2 b c p =
    let first = entry_event (scalar_node no_props Plain []) (Some (entry_from s)) in
    let last = entry_event (scalar_node no_props Plain []) None in
    let r : NotesFilled t kept (w.events ++ first ∷ []) mid = subst (λ z. NotesFilled t kept (w.events ++ first ∷ []) z) (sym a1) (noted_more p.events (lone_noted e q)) in
    let l : NotesFilled t kept ((w.events ++ first ∷ []) ++ last ∷ []) new.events = subst (λ z. NotesFilled t kept ((w.events ++ first ∷ []) ++ last ∷ []) z) (sym a2) (noted_more r (record { no_lines = refl; note = entryless refl })) in
    record {
      events = subst (λ z. NotesFilled t kept z new.events) (append_assoc w.events (first ∷ []) (last ∷ [])) l;
      comments = b ∙ p.comments ∙ sym (append-nil w.comments);
      escapes = c ∙ p.escapes ∙ sym (append-nil w.escapes);
    }

pub code_at : (t : List ℕ) {s r x : ℕ} → s ≡ r → code t r ≡ x → code t s ≡ x
code_at t e b = ap (λ z. code t z) e ∙ b

pub chosen_at : {t : List ℕ} {n : ℤ} {d : Ctx} {s r k : ℕ} {cs : List CommentValue} → s ≡ r → Chosen (Separate t n d (r + 1)) k cs → Chosen (Separate t n d (s + 1)) k cs
chosen_at {t} {n} {d} {k = k} {cs} e c = subst (λ z. Chosen (Separate t n d (z + 1)) k cs) (sym e) c

pub lone_sign : {t : List ℕ} {n : ℤ} {d : Ctx} {s v : ℕ} → s ≡ v → ColonAt t false d v → SignAt t n d s [] s
lone_sign {t} {d = d} e c = colon_there (subst (λ z. ColonAt t false d z) (sym e) c)

pub question_no_feed : (t : List ℕ) (s : ℕ) → code t s ≡ 63 → code t s ≢ 10
question_no_feed t s e q = omega arith

pub colon_no_feed : {t : List ℕ} {d : Ctx} {s v : ℕ} → s ≡ v → ColonAt t false d v → code t s ≢ 10
colon_no_feed {t} e c q = let x = c.colon in let y = ap (λ z. code t z) e in omega arith

-- after `?`, in a mapping and in a sequence
rest_signed : {t : List ℕ} {e s k : ℕ} {n : ℤ} {d : Ctx} {cs : List CommentValue} (sequence pair : Bool) → pair ≡ sequence → code t s ≡ 63 → Chosen (Separate t n d (s + 1)) k cs
    → RestAwaited t e sequence n d pair s (noting (only [] 0) cs) k
rest_signed {t} {e} {s} {k} {n} {d} {cs} true pair q a b = subst (λ w. RestAwaited t e true n d w s (noting (only [] 0) cs) k) (sym q) (pair_signed a b)
rest_signed {t} {e} {s} {k} {n} {d} {cs} false pair q a b = subst (λ w. RestAwaited t e false n d w s (noting (only [] 0) cs) k) (sym q) (mapping_signed a b)

-- a value without a key or `?`
lone_awaited : {t : List ℕ} {e s : ℕ} {n : ℤ} {d : Ctx} (sequence pair : Bool) → pair ≡ sequence → ColonAt t false d s
    → ValueAwaited t e sequence n d pair s false 0 (noting (only [] 0) [] ⊕ entering s (Some s) (empty_node s)) s
lone_awaited {t} {e} {s} {n} {d} true pair q c =
    subst (λ w. ValueAwaited t e true n d w s false 0 (noting (only [] 0) [] ⊕ entering s (Some s) (empty_node s)) s) (sym q)
    (subst (λ x. ValueAwaited t e true n d true s false 0 (x ⊕ entering s (Some s) (empty_node s)) s) (sym (noting_nothing (only [] 0))) (pair_value_alone c))
lone_awaited {t} {e} {s} {n} {d} false pair q c =
    subst (λ w. ValueAwaited t e false n d w s false 0 (noting (only [] 0) [] ⊕ entering s (Some s) (empty_node s)) s) (sym q)
    (subst (λ x. ValueAwaited t e false n d false s false 0 (x ⊕ entering s (Some s) (empty_node s)) s) (sym (noting_nothing (only [] 0)))
    (value_alone (key_unsigned (λ z. let y = c.colon in omega arith)) c))

nothing_finish : (x : Meaning) (s v : ℕ) → (x ⊕ (entering s None (empty_node v) ⊕ empty_node v)).finish ≡ v
unfolding ◌⊕◌ entering empty_node
nothing_finish x s v = refl

module _ {t : List ℕ} {n : ℤ} {d : Ctx} {base : Base} {frames : List Frame} {top : Frame} {cs : List CommentValue} {old : Part} (a : AtSign t n d base frames top cs old) where
  alone_there : cs ≡ [] → ColonAt t false d a.layer.start → AloneAwaited t n d a.layer cs a.layer.start
  alone_there e c = subst (λ z. AloneAwaited t n d a.layer z a.layer.start) (sym e) (lone_awaited a.layer.sequence a.layer.pair a.mapping c)

  pub alone_at : {v : ℕ} → top.entry ≡ v → cs ≡ [] → ColonAt t false d v → AloneAwaited t n d a.layer cs v
  alone_at {v} q e c =
      let m : a.layer.start ≡ v = sym a.entry ∙ q in
      subst (λ z. AloneAwaited t n d a.layer cs z) m (alone_there e (subst (λ z. ColonAt t false d z) (sym m) c))

  -- the value after an empty key
  pub keyless_awaits : {v : ℕ} {new : Part} → AloneAwaited t n d a.layer cs v → (e : Entry) → EntryNoted t top.entry (Some v) e → new.events ≡ old.events ++ entry_event (scalar_node no_props Plain []) (Some e) ∷ []
      → new.comments ≡ old.comments → new.escapes ≡ old.escapes → AtValue t n d base frames top false v new
  keyless_awaits {v} {new} w e q x y z = record {
    layer = a.layer;
    height = 0;
    read = noting (only [] 0) cs ⊕ entering a.layer.start (Some v) (empty_node v);
    tied = a.tied;
    value = w;
    entry = a.entry;
    written = written_as (entry_more a.layer.before a.layer.begin a.layer.known a.layer.pair a.layer.start (noting (only [] 0) cs) (entering a.layer.start (Some v) (empty_node v)))
        (keyless_written a.layer.start v e (subst (λ s. EntryNoted t s (Some v) e) a.entry q) x y z a.written);
  }

  module _ {k : ℕ} (b : code t top.entry ≡ 63) (c : Chosen (Separate t n d (top.entry + 1)) k cs) where
    rest_there : RestAwaited t a.layer.limit a.layer.sequence n d a.layer.pair a.layer.start (noting (only [] 0) cs) k
    rest_there =
        rest_signed a.layer.sequence a.layer.pair a.mapping (ap (λ s. code t s) (sym a.entry) ∙ b) (subst (λ s. Chosen (Separate t n d (s + 1)) k cs) a.entry c)

    -- neither a key nor a value
    pub rest_nothing : is_entry_end (code t k) ≡ true → (e : Entry) → EntryNoted t top.entry None e → (mid : List EventInText) → {new : Part} → mid ≡ old.events ++ entry_event (scalar_node no_props Plain []) (Some e) ∷ []
        → new.events ≡ mid ++ entry_event (scalar_node no_props Plain []) None ∷ [] → new.comments ≡ old.comments → new.escapes ≡ old.escapes
        → AtEntryDone t n d base frames top (top.entry + 1) k new
    rest_nothing z e q mid {new} x1 x2 y w =
        let s = a.layer.start in
        let more = entering s None (empty_node (s + 1)) ⊕ empty_node (s + 1) in
        record {
          layer = a.layer;
          height = 0;
          meaning = noting (only [] 0) cs ⊕ more;
          end = k;
          comments = [];
          tied = a.tied;
          entry = rest_ends rest_there z;
          finish = nothing_finish (noting (only [] 0) cs) s (s + 1) ∙ ap (λ m. m + 1) (sym a.entry);
          within = not_yet;
          written = written_as (entry_more a.layer.before a.layer.begin a.layer.known a.layer.pair s (noting (only [] 0) cs) more ∙ ap (λ m. written_in a.layer m) (sym (noting_nothing (noting (only [] 0) cs ⊕ more))))
              (nothing_written mid s (s + 1) e (subst (λ m. EntryNoted t m None e) a.entry q) x1 x2 y w a.written);
        }

    -- a value without a key
    pub rest_value : is_entry_end (code t k) ≡ false → ColonAt t false d k → AloneAwaited t n d a.layer cs k
    rest_value z q = value_alone (rest_goes_on rest_there z) q

    -- a key
    pub rest_key : is_entry_end (code t k) ≡ false → (ColonAt t false d k → ⊥) → AtNode t n d base frames top k old
    rest_key z q = record {
      layer = a.layer;
      height = 0;
      read = noting (only [] 0) cs;
      tied = a.tied;
      node = subst (λ r. NodeIn t n d a.layer.start r a.layer.sequence a.layer.limit a.layer.pair k 0 (noting (only [] 0) cs)) (sym a.role) (key_in (rest_goes_on rest_there z) q);
      entry = a.entry;
      index = λ f. a.index ∙ sym (noted_length a.written.events);
      begins = λ f g y. let m = ap (λ s. code t s) a.entry in omega arith;
      written = a.written;
    }
