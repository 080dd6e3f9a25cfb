-- The events before the outermost collection, and the one that begins it, stay unchanged.
use Rattle.std.proofs.Common.{◌≡◌, ℕ, suc, ◌≤◌, ℤ, Bool, List, [], ◌∷◌, ◌++◌, length, sym, ap, ◌∙◌, subst, arith, append_assoc, append-nil, length-append}
use Rattle.yf_chars.specs.declared.context.Ctx.{Ctx}
use Rattle.yf_comments.specs.Comment.{CommentValue}
use Rattle.yf_events.specs.Event.{EventInText}
use Rattle.yf_events.specs.declared.part.Part.{Part}
use Rattle.yf_grammar.specs.Productions.Meaning.{Meaning, ◌⊕◌, noting}
use Rattle.yf_grammar.specs.FlowReader.Parser.{only}
use Rattle.yf_flow.specs.declared.frame.Frame.{Frame}
use Rattle.yf_flow.specs.NodeStarts.{PartGrown}
use Rattle.yf_flow.specs.NodeParts.{comments_before}
use Rattle.yf_flow.specs.StackMeaning.{NotesFilled, NoteFilled, PartSoFar, one, entries_written, entry_written, ahead, Base, first_events, Below, outermost, inside}
use Rattle.yf_flow.proofs.Ends.NotedLemmas.{kept_more, kept_noted}

entries_length : (w : Meaning) (begin : EventInText) (x : Meaning) → suc (length w.events) ≤ length (entries_written w begin x).events
unfolding ◌⊕◌
entries_length w begin x =
    let a = length-append {A = EventInText} (w.events ++ begin ∷ []) x.events in
    let b = length-append {A = EventInText} w.events (begin ∷ []) in
    omega arith

entry_length : (w : Meaning) (begin : EventInText) (x : Meaning) (pair : Bool) (s : ℕ) (y : Meaning) (cs : List CommentValue) → suc (length w.events) ≤ length (noting (entry_written w begin x pair s y) cs).events
unfolding ◌⊕◌ noting
entry_length w begin x pair s y cs =
    let a = length-append {A = EventInText} ((w.events ++ begin ∷ []) ++ x.events) (ahead pair s y).events in
    let b = entries_length w begin x in
    let c = length-append {A = EventInText} (w.events ++ begin ∷ []) x.events in
    let d = length-append {A = EventInText} w.events (begin ∷ []) in
    omega arith

module _ {t : List ℕ} {n : ℤ} {d : Ctx} {base : Base} where
  below_kept : {frames : List Frame} {sequence : Bool} {i e : ℕ} {c : Ctx} {w : Meaning} {begin : EventInText} → Below t n d base frames sequence i c e w begin → first_events base ≤ suc (length w.events)
  below_kept (outermost b) = let e = ap (λ (z : Meaning). length z.events) b.written in omega arith
  below_kept (inside {s = s} {w = w} {x = x} {y = y} {begin = begin} {pair = pair} {b = b} under entries stays aw framed ro fi ix ov al) =
      let l = below_kept under in
      let m = entry_length w begin x pair s y (comments_before b) in
      omega arith

  pub entries_kept : {frames : List Frame} {sequence : Bool} {i e : ℕ} {c : Ctx} {w : Meaning} {begin : EventInText} → Below t n d base frames sequence i c e w begin → (x : Meaning)
      → first_events base ≤ length (entries_written w begin x).events
  entries_kept {w = w} {begin = begin} b x = let l = below_kept b in let m = entries_length w begin x in omega arith

-- the event that begins the outermost collection
pub begin_kept : {t : List ℕ} {w : Meaning} {old new : Part} (cs : List CommentValue) (begin : EventInText) → PartSoFar t (length w.events) w old → PartGrown old new (begin ∷ []) cs []
    → PartSoFar t (suc (length w.events)) (entries_written (noting w cs) begin (only [] 0)) new
unfolding ◌⊕◌ noting only
begin_kept {t} {w} {old} {new} cs begin p a = record {
  events = subst (λ z. NotesFilled t (suc (length w.events)) z new.events) (sym (append-nil (w.events ++ begin ∷ [])))
      (subst (λ z. NotesFilled t (suc (length w.events)) (w.events ++ begin ∷ []) z) (sym a.events) (kept_more w.events old.events begin p.events));
  comments = a.comments ∙ ap (λ z. z ++ cs) p.comments ∙ sym (append-nil (w.comments ++ cs)) ∙ sym (append-nil ((w.comments ++ cs) ++ []));
  escapes = a.escapes ∙ append-nil old.escapes ∙ p.escapes ∙ sym (append-nil w.escapes) ∙ sym (append-nil (w.escapes ++ []));
}

-- its note leaves it unchanged
pub begin_noted : {t : List ℕ} {part : Part} (w : Meaning) (begin : EventInText) (x : Meaning) (last : EventInText) → NoteFilled t begin begin
    → PartSoFar t (suc (length w.events)) (entries_written w begin x ⊕ one last) part → PartSoFar t (length w.events) (entries_written w begin x ⊕ one last) part
unfolding ◌⊕◌
begin_noted {t} {part} w begin x last n p =
    let e : ((w.events ++ begin ∷ []) ++ x.events) ++ last ∷ [] ≡ w.events ++ begin ∷ (x.events ++ last ∷ []) =
    append_assoc (w.events ++ begin ∷ []) x.events (last ∷ []) ∙ append_assoc w.events (begin ∷ []) (x.events ++ last ∷ []) in
    record {
      events = subst (λ z. NotesFilled t (length w.events) z part.events) (sym e)
          (kept_noted w.events (x.events ++ last ∷ []) part.events begin n (subst (λ z. NotesFilled t (suc (length w.events)) z part.events) e p.events));
      comments = p.comments;
      escapes = p.escapes;
    }
