-- Events with the notes of their entries filled in: equal changes of both lists keep them so.
use Rattle.std.proofs.Common.{◌≡◌, ℕ, zero, suc, Bool, true, false, List, [], ◌∷◌, ◌++◌, length, ◌≤◌, take, drop, Some, MatchBool, refl, sym, ap, subst, arith, true≢false}
use Rattle.yf_comments.specs.Comments.{BlankBefore}
use Rattle.yf_events.specs.Event.{EventValue, EventInText, stream_starts, stream_ends, document_starts, document_ends, sequence_starts, sequence_ends, mapping_starts, mapping_ends, scalar_node, alias_node}
use Rattle.yf_events.specs.Edit.{edited, ended, coloned, with_colon}
use Rattle.yf_events.specs.declared.event.ScalarStyle.TheVariants.{Plain, Single, Double, Literal, Folded}
use Rattle.yf_grammar.specs.Productions.ReadParts.{NotedSince, Noting, floor_after_event}
use Rattle.yf_grammar.specs.Productions.ReadParts.NotedSince.{noted, not_noted}
use Rattle.yf_grammar.specs.Productions.ReadParts.Noting.{no_event, without_entry, with_entry}
use Rattle.yf_grammar.proofs.Ends.SinceKnown.{since_before, since_zero}
use Rattle.yf_flow.specs.NodeStarts.{is_lined}
use Rattle.yf_flow.specs.StackMeaning.{NoteOf, entryless, entry_noted, NoteFilled, NotesFilled, no_events, kept_before, event_before}

-- without a block scalar before, the note is whether a blank line is met
pub note_of : {t : List ℕ} {i : ℕ} (b : Bool) → MatchBool b (BlankBefore t i) (BlankBefore t i → ⊥) → NotedSince t 0 i b
note_of true b = noted (since_zero b)
note_of false f = not_noted (λ s. f (since_before s))

pub floor_same : (floor : ℕ) (e : EventInText) (v : EventValue) → is_lined v ≡ false → floor_after_event floor e v ≡ floor
floor_same floor e stream_starts q = refl
floor_same floor e stream_ends q = refl
floor_same floor e (document_starts b) q = refl
floor_same floor e (document_ends b) q = refl
floor_same floor e (sequence_starts f p) q = refl
floor_same floor e sequence_ends q = refl
floor_same floor e (mapping_starts f p) q = refl
floor_same floor e mapping_ends q = refl
floor_same floor e (scalar_node p Plain x) q = refl
floor_same floor e (scalar_node p Single x) q = refl
floor_same floor e (scalar_node p Double x) q = refl
floor_same floor e (scalar_node p Literal x) q = absurd (true≢false q)
floor_same floor e (scalar_node p Folded x) q = absurd (true≢false q)
floor_same floor e (alias_node x) q = refl

-- the events after the unchanged ones
pub record AfterKept (t : List ℕ) (x z y : List EventInText) : Type 0 where
  pub after : List EventInText
  pub is : y ≡ x ++ after
  pub noted_after : NotesFilled t 0 z after

module _ {t : List ℕ} where
  noting_one : {e f : EventInText} {x y : List EventInText} → NoteOf t e f → Noting t (floor_after_event 0 e e.event) x y → Noting t 0 (e ∷ x) (f ∷ y)
  noting_one (entryless q) r = without_entry q r
  noting_one (entry_noted entry q s) r = with_entry entry q s r

  pub noted_noting : {x y : List EventInText} → NotesFilled t 0 x y → Noting t 0 x y
  noted_noting no_events = no_event
  noted_noting (event_before {e = e} {x = x} {y = y} n r) =
      noting_one n.note (subst (λ z. Noting t z x y) (sym (floor_same 0 e e.event n.no_lines)) (noted_noting r))

  pub noted_append : {kept : ℕ} {x y z w : List EventInText} → NotesFilled t kept x y → NotesFilled t 0 z w → NotesFilled t kept (x ++ z) (y ++ w)
  noted_append no_events r = r
  noted_append (kept_before s) r = kept_before (noted_append s r)
  noted_append (event_before n s) r = event_before n (noted_append s r)

  pub noted_more : {kept : ℕ} {x y : List EventInText} {e f : EventInText} → NotesFilled t kept x y → NoteFilled t e f → NotesFilled t kept (x ++ e ∷ []) (y ++ f ∷ [])
  noted_more r n = noted_append r (event_before n no_events)

  pub noted_length : {kept : ℕ} {x y : List EventInText} → NotesFilled t kept x y → length x ≡ length y
  noted_length no_events = refl
  noted_length (kept_before r) = ap suc (noted_length r)
  noted_length (event_before n r) = ap suc (noted_length r)

  -- unchanged events, one more of them, and one that stays unchanged by its note
  pub all_kept : (x : List EventInText) → NotesFilled t (length x) x x
  all_kept [] = no_events
  all_kept (e ∷ x) = kept_before (all_kept x)

  pub kept_more : (x y : List EventInText) (e : EventInText) → NotesFilled t (length x) x y → NotesFilled t (suc (length x)) (x ++ e ∷ []) (y ++ e ∷ [])
  kept_more [] y e no_events = kept_before no_events
  kept_more (a ∷ x) y e (kept_before r) = kept_before (kept_more x _ e r)

  pub kept_noted : (x z y : List EventInText) (e : EventInText) → NoteFilled t e e → NotesFilled t (suc (length x)) (x ++ e ∷ z) y → NotesFilled t (length x) (x ++ e ∷ z) y
  kept_noted [] z y e n (kept_before r) = event_before n r
  kept_noted (a ∷ x) z y e n (kept_before r) = kept_before (kept_noted x z _ e n r)

  pub kept_parts : (x z y : List EventInText) → NotesFilled t (length x) (x ++ z) y → AfterKept t x z y
  kept_parts [] z y r = record { after = y; is = refl; noted_after = r }
  kept_parts (a ∷ x) z y (kept_before r) = let k = kept_parts x z _ r in record { after = k.after; is = ap (λ w. a ∷ w) k.is; noted_after = k.noted_after }

  note_ended : {e f : EventInText} (j : ℕ) → NoteOf t e f → NoteOf t (ended j e) (ended j f)
  note_ended j (entryless q) = entryless q
  note_ended j (entry_noted entry q s) = entry_noted entry q s

  note_coloned : {e f : EventInText} (k : ℕ) → NoteOf t e f → NoteOf t (coloned k e) (coloned k f)
  note_coloned k (entryless q) = entryless (ap (with_colon k) q)
  note_coloned k (entry_noted entry q s) = entry_noted (record entry { colon = Some k }) (ap (with_colon k) q) s

  pub noted_ended : {kept : ℕ} {x y : List EventInText} (j i : ℕ) → NotesFilled t kept x y → NotesFilled t kept (edited (ended j) i x) (edited (ended j) i y)
  noted_ended j i no_events = no_events
  noted_ended j zero (kept_before r) = kept_before r
  noted_ended j (suc i) (kept_before r) = kept_before (noted_ended j i r)
  noted_ended j zero (event_before n r) = event_before (record { no_lines = n.no_lines; note = note_ended j n.note }) r
  noted_ended j (suc i) (event_before n r) = event_before n (noted_ended j i r)

  pub noted_coloned : {kept : ℕ} {x y : List EventInText} (k i : ℕ) → NotesFilled t kept x y → NotesFilled t kept (edited (coloned k) i x) (edited (coloned k) i y)
  noted_coloned k i no_events = no_events
  noted_coloned k zero (kept_before r) = kept_before r
  noted_coloned k (suc i) (kept_before r) = kept_before (noted_coloned k i r)
  noted_coloned k zero (event_before n r) = event_before (record { no_lines = n.no_lines; note = note_coloned k n.note }) r
  noted_coloned k (suc i) (event_before n r) = event_before n (noted_coloned k i r)

  pub noted_inserted : {kept : ℕ} (x z : List EventInText) {y : List EventInText} {e f : EventInText} → kept ≤ length x → NotesFilled t kept (x ++ z) y → NoteFilled t e f
      → NotesFilled t kept (x ++ e ∷ z) (take (length x) y ++ f ∷ drop (length x) y)
  noted_inserted {kept} [] z {y} {e} {f} l r n =
      let none : 0 ≡ kept = omega arith in
      subst (λ k. NotesFilled t k (e ∷ z) (f ∷ y)) none (event_before n (subst (λ k. NotesFilled t k z y) (sym none) r))
  noted_inserted (a ∷ x) z l (kept_before r) n = kept_before (noted_inserted x z (omega arith) r n)
  noted_inserted (a ∷ x) z l (event_before m r) n = event_before m (noted_inserted x z (omega arith) r n)

-- the event at an index
pub edited_here : (f : EventInText → EventInText) (x : List EventInText) (e : EventInText) (z : List EventInText) → edited f (length x) (x ++ e ∷ z) ≡ x ++ f e ∷ z
edited_here f [] e z = refl
edited_here f (a ∷ x) e z = ap (λ w. a ∷ w) (edited_here f x e z)
